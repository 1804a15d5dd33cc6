use Rattle.evaluate.proofs.Tables.{reads}
use native.Mathlib.Omega.{arith}
use Rattle.evaluate.proofs.reading.Goals as goal

pub returns : goal.returns
returns c = let e = reads c.args.x in (omega (arith, c.min.ensures), omega (arith, c.min.ensures))
