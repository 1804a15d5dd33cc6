-- A table of flags, one for each of 256 rows: 1 where a test holds.
use Rattle.std.specs.Prelude.{ℕ, ◌<◌, ◌≡◌, Bool, List, eqb, get_or, length}
use Rattle.laws.specs.Tests.{bit}

-- the row is flagged
abbrev pub flagged : List ℕ → ℕ → Bool
flagged t r = eqb (get_or t r 0) 1

-- the table shows the test at each of the first n rows
pub record Shows (v : ℕ → Bool) (n : ℕ) (t : List ℕ) : Type 0 where
  pub size : length t ≡ 256
  pub at : (j : ℕ) → j < n → get_or t j 0 ≡ bit (v j)
