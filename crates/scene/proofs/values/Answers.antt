use mathlib.Core.Path.{sym, ◌∙◌}
use Rattle.scene.proofs.Bytes.{digits_none, digits_hit, digits_miss, digits_all}
use Rattle.scene.proofs.values.Goals as goal
use Rattle.scene.proofs.values.Goals.{then-reached, else-reached}

pub loop-l-init : goal.loop-l-init
loop-l-init c = digits_none _ _ _

pub loop-l-preserved : goal.loop-l-preserved
loop-l-preserved c =
    let l = c.loop-l in
    elim c.if-reached.branch [
      | then-reached w ↦ rw (w.rest-is, w.table-is) (digits_hit _ _ _ c.requires l.l l.rest l.table l.invariant c.loop-l-test.true (sym c.reached.ensures ∙ w.if-reached.true))
      | else-reached w ↦ rw (w.rest-is, w.table-is) (digits_miss _ _ _ c.requires l.l l.rest l.table l.invariant c.loop-l-test.true (sym c.reached.ensures ∙ w.if-reached.false))
    ]

pub returns : goal.returns
returns c = let l = c.loop-l in digits_all _ _ _ c.requires l.l l.rest l.table l.invariant c.loop-l-test.false
