use native.Mathlib.Omega.{arith}
use Rattle.sheet_engine.proofs.read_sheet.Goals as goal

pub returns : goal.returns
returns c = record { value = c.read.ensures; bytes = λ i. omega (arith, c.shared_slice_known-1.given i) }
