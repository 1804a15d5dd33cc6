use mathlib.Core.Path.{refl, sym, ◌∙◌}
use native.Mathlib.Omega.{arith}
use native.Mathlib.Nat.{sub-zero}
use lib.Dec.{ltb}
use lib.ListN.{get_or}
use Rattle.scene.proofs.Bytes.{link_unset, link_set}
use Rattle.scene.proofs.Setting.{unset_here, unset_next, unset_none}
use Rattle.scene.proofs.any_unset.Goals as goal
use Rattle.scene.proofs.any_unset.Goals.{else-reached-via-then-reached+else-values-l-eq0, else-reached-via-else-reached}

pub loop-l-init : goal.loop-l-init
loop-l-init c = rw sub-zero refl

pub returns-then-values-l-eq0 : goal.returns-then-values-l-eq0
returns-then-values-l-eq0 c =
    let l = c.loop-l in
    sym (l.invariant ∙ unset_here _ _ _ l.l (omega arith) (sym c.if-reached.ensures) (link_unset _ l.l (omega arith) c.if-values-l-eq0.true))

pub loop-l-preserved : goal.loop-l-preserved
loop-l-preserved c =
    let l = c.loop-l in
    let up = ltb 1 (get_or c.args.values.now l.l 0) in
    l.invariant ∙ unset_next _ _ _ l.l up (omega arith)
    (elim c.else-reached.branch [
      | else-reached-via-then-reached+else-values-l-eq0 w ↦ λ t. link_set _ l.l (omega arith) w.if-values-l-eq0.false
      | else-reached-via-else-reached w ↦ λ t. let e = w.if-reached.ensures in cc
    ])

pub returns : goal.returns
returns c = let l = c.loop-l in sym (l.invariant ∙ unset_none _ _ _ l.l c.loop-l-test.false)
