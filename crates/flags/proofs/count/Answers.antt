use native.Mathlib.Omega.{arith}
use Rattle.laws.proofs.Tests.{bit_small}
use Rattle.laws.proofs.Listed.{counted_none, counted_next, counted_end}
use Rattle.flags.specs.Flags.{flagged}
use Rattle.flags.proofs.count.Goals as goal

pub loop-i-init : goal.loop-i-init
loop-i-init c = (omega arith, counted_none _ _)

pub loop-i-preserved : goal.loop-i-preserved
loop-i-preserved c = let l = c.loop-i in (omega (arith, bit_small (flagged c.args.flags.now l.i)), counted_next _ _ l.i l.found c.loop-i-test.true l.invariant.1)

pub returns : goal.returns
returns c = counted_end _ _ _ _ c.loop-i-test.false c.loop-i.invariant.1
