-- What a pass over the rows tells: a table of 256 numbers.
use Rattle.std.specs.Prelude.{ℕ, ◌<◌, ◌≤◌, ◌≡◌, List, get_or, length}

-- the table tells a function's value at each number from a on, below b
pub record Tells (f : ℕ → ℕ) (a b : ℕ) (t : List ℕ) : Type 0 where
  pub size : length t ≡ 256
  pub at : (j : ℕ) → a ≤ j → j < b → get_or t j 0 ≡ f j
