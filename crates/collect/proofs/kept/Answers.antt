use mathlib.Core.Path.{◌≡◌, refl, ap}
use native.Mathlib.Omega.{arith}
use Rattle.laws.specs.Tests.{bit}
use Rattle.flags.proofs.Shown.{shows_none, shows_more}
use Rattle.collect.proofs.kept.Goals as goal

pub loop-row-init : goal.loop-row-init
loop-row-init c = shows_none _ _ refl

pub loop-row-preserved : goal.loop-row-preserved
loop-row-preserved c = let l = c.loop-row in shows_more _ l.row _ l.flags l.invariant (omega arith) (ap bit c.is_kept.ensures)

pub returns : goal.returns
returns c = let e : c.loop-row.row ≡ c.args.n = omega arith in rw e at c.loop-row.invariant
