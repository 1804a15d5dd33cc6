use mathlib.Core.Path.{◌≡◌}
use native.Mathlib.Omega.{arith}
use Rattle.fitting.proofs.Places.{unmarked_none, unmarked_more, unmarked_end}
use Rattle.fitting.proofs.unmarked_from.Goals as goal

pub loop-row-init : goal.loop-row-init
loop-row-init c = unmarked_none _ _

pub loop-row-preserved : goal.loop-row-preserved
loop-row-preserved c = unmarked_more c.args.marks.now _ _ _ (omega arith) c.loop-row.invariant

pub returns : goal.returns
returns c = let e : c.loop-row.row ≡ 256 = omega arith in unmarked_end c.args.marks.now _ _ (rw e at c.loop-row.invariant)
