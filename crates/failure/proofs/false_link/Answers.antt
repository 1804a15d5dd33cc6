use mathlib.Core.Path.{◌∙◌, sym}
use Rattle.failure.proofs.Rest.{rest_none, rest_here, rest_hit, rest_miss, rest_end}
use Rattle.failure.proofs.false_link.Goals as goal
use Rattle.failure.proofs.false_link.Goals.{then-reached+else-rest-eq1, else-reached}

pub loop-l-init : goal.loop-l-init
loop-l-init c = rest_none _ _ _

pub returns-then-rest-eq1 : goal.returns-then-rest-eq1
returns-then-rest-eq1 c = let l = c.loop-l in rest_here _ _ _ _ l.rest l.invariant c.loop-l-test.true (sym c.reached.ensures ∙ c.if-reached.true) c.if-rest-eq1.true

pub loop-l-preserved : goal.loop-l-preserved
loop-l-preserved c =
    let l = c.loop-l in
    elim c.if-reached.branch [
      | then-reached+else-rest-eq1 w ↦ rw w.rest-is (rest_hit _ _ _ _ l.rest l.invariant c.loop-l-test.true (sym c.reached.ensures ∙ w.if-reached.true) w.if-rest-eq1.false)
      | else-reached w ↦ rw w.rest-is (rest_miss _ _ _ _ l.rest l.invariant c.loop-l-test.true (sym c.reached.ensures ∙ w.if-reached.false))
    ]

pub returns : goal.returns
returns c = let l = c.loop-l in rest_end _ _ _ _ l.rest l.invariant c.loop-l-test.false
