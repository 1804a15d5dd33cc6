use lib.Pow.{shl_exact}
use native.Mathlib.Nat.{one-mul}
use Prim.Native.Nat.{◌-◌, ◌%◌, ◌^◌}
use mathlib.Core.Path.{◌∙◌}
use Rattle.worth.proofs.Places.{adds_one}
use native.Mathlib.Omega.{arith}
use Rattle.worth.proofs.add.Goals as goal

pub returns : goal.returns
returns c = let k = (255 - c.args.row) % 64 in rw (shl_exact 1 k 64 (omega arith) (omega arith) ∙ one-mul (2 ^ k)) (adds_one _ _ c.requires (omega arith))
