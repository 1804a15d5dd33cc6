use Rattle.reach.proofs.Bits.{ones_listed}
use native.Mathlib.Omega.{arith}
use Rattle.reach.proofs.width.Goals as goal

pub returns : goal.returns
returns c = ones_listed 64 _ (omega arith)
