-- A JOIN row stands on its condition row. Assumes nothing.
use Prim.Native.Nat.{ℕ}
use mathlib.Core.Path.{◌≡◌, refl, sym}
use mathlib.Core.Bool.{true, true≢false}
use Rattle.calculus.specs.Process.{act, out, join}
use Rattle.steps.specs.Rows.{Row, NIL, PREFIX, BRANCH, is_join_prefix, is_join, condition_of_prefix, condition_of}

pub join_of : (N : Row) → is_join N ≡ true → (d : ℕ) × (N ≡ PREFIX (join (condition_of N)) d)
unfolding is_join is_join_prefix condition_of condition_of_prefix
join_of NIL e = absurd (true≢false (sym e))
join_of (PREFIX (act a) d) e = absurd (true≢false (sym e))
join_of (PREFIX (out l b) d) e = absurd (true≢false (sym e))
join_of (PREFIX (join c) d) e = (d, refl)
join_of (BRANCH κ p q) e = absurd (true≢false (sym e))
