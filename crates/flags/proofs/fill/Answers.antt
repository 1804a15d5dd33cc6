use native.Mathlib.Omega.{arith}
use Rattle.laws.proofs.Listed.{written_fits, written_short}
use Rattle.flags.proofs.fill.Goals as goal

pub returns-then-out-size : goal.returns-then-out-size
returns-then-out-size c = (c.count-size.ensures, written_short _ _ (omega arith))

pub returns : goal.returns
returns c = (c.count-size.ensures, written_fits _ _ _ (omega arith) c.write.ensures)
