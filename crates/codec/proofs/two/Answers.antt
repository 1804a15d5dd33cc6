use native.Mathlib.Omega.{arith}
use Rattle.sheet.specs.Sheet.{number_at}
use Rattle.codec.proofs.two.Goals as goal

pub returns : goal.returns
unfolding number_at
returns c = (omega (arith, c.from_le_bytes.ensures), c.from_le_bytes.type_inv)
