use mathlib.Core.Path.{sym, ◌∙◌}
use native.Mathlib.Omega.{arith}
use Rattle.reach.specs.Masks.{has_bit}
use Rattle.effects.proofs.Climbing.{falsify_hit, falsify_miss, falsify_end}
use Rattle.effects.proofs.falsify.Goals as goal
use Rattle.effects.proofs.falsify.Goals.{then-reached, else-reached}

pub loop-l-preserved : goal.loop-l-preserved
loop-l-preserved c =
    let l = c.loop-l in
    l.invariant ∙
    elim c.if-reached.branch [
      | then-reached w ↦ rw (w.state-is, w.set_link-state.ensures) (falsify_hit (has_bit c.args.word) l.l l.state (omega arith) (sym c.reached.ensures ∙ w.if-reached.true))
      | else-reached w ↦ rw w.state-is (falsify_miss (has_bit c.args.word) l.l l.state (omega arith) (sym c.reached.ensures ∙ w.if-reached.false))
    ]

pub returns : goal.returns
returns c = let l = c.loop-l in sym (l.invariant ∙ falsify_end (has_bit c.args.word) l.l l.state (omega arith))
