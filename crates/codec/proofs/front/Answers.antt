use Prim.Native.Nat.{◌+◌, ◌*◌, ◌/◌, ◌%◌}
use mathlib.Core.Path.{◌≡◌, refl}
use native.Mathlib.Omega.{arith}
use Rattle.sheet.specs.Sheet.{front}
use Rattle.codec.proofs.front.Goals as goal

pub returns : goal.returns
unfolding front
returns c =
    let h = c.args.h in
    let terms : 4 * h.n / 256 % 256 ≡ 4 * h.n / 256 = omega (arith, c.requires.1.0) in
    let start : (18 + 4 * h.n) / 256 % 256 ≡ (18 + 4 * h.n) / 256 = omega (arith, c.requires.1.0) in
    let conditions : 4 * h.k / 256 % 256 ≡ 4 * h.k / 256 = omega (arith, c.requires.1.1) in
    rw (c.to_le_bytes-terms.ensures, c.to_le_bytes-start.ensures, c.to_le_bytes-conditions.ensures, terms, start, conditions) refl
