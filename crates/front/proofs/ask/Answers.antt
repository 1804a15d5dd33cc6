use mathlib.Core.Path.{◌≡◌}
use native.Mathlib.Omega.{arith}
use Rattle.front.proofs.Asking.{asked_none, asked_more, asked_all}
use Rattle.front.proofs.ask.Goals as goal

pub loop-i-init : goal.loop-i-init
loop-i-init c = asked_none _ _ _ _ c.requires.1.1 c.requires.0 _ c.top.ensures

pub loop-i-preserved : goal.loop-i-preserved
loop-i-preserved c = asked_more _ _ _ _ c.requires.1.1 c.requires.0 _ _ _ (omega arith) c.loop-i.invariant (rw (← c.term_row-node.ensures) c.hand.ensures)

pub returns : goal.returns
returns c = let e : c.loop-i.i ≡ c.args.n = omega arith in asked_all _ _ _ _ c.requires.1.1 c.requires.0 _ (rw e at c.loop-i.invariant)
