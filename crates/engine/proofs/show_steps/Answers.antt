use mathlib.Core.Path.{◌≡◌, ap}
use native.Mathlib.Omega.{arith}
use Rattle.laws.specs.Tests.{bit}
use Rattle.flags.proofs.Shown.{shows_none, shows_more}
use Rattle.engine.proofs.show_steps.Goals as goal

pub loop-i-init : goal.loop-i-init
loop-i-init c = shows_none _ _ c.requires.0

pub loop-i-preserved : goal.loop-i-preserved
loop-i-preserved c = let l = c.loop-i in shows_more _ l.i _ l.flags l.invariant (omega arith) (ap bit c.has_step.ensures)

pub returns : goal.returns
returns c = let e : c.loop-i.i ≡ c.args.n = omega arith in rw e at c.loop-i.invariant
