use Prim.Native.Nat.{ℕ, ◌^◌, ◌<◌, ◌≤◌}
use native.Mathlib.Nat.{pow-le-pow_right}
use native.Mathlib.Omega.{arith}
use Rattle.words.proofs.Base.power.Goals as goal
use Rattle.words.proofs.Base.power.Goals.{in-Two, in-Three}

small : (b q : ℕ) → 0 < b → b ^ 8 < 2 ^ 64 → q ≤ 8 → b ^ q < 2 ^ 64
small b q h k g = let p : b ^ q ≤ b ^ 8 = pow-le-pow_right h g in omega arith

pub pow-requires : goal.pow-requires
pow-requires c =
    elim c.match-self.branch [
      | in-Two w ↦ rw w.base-is (small 2 c.args.q (omega arith) (omega arith) c.requires)
      | in-Three w ↦ rw w.base-is (small 3 c.args.q (omega arith) (omega arith) c.requires)
    ]
