-- A set of condition rows as the bits of four words, 64 rows a word. The highest row comes first: row r stands at place 255 - r, so that the places in rising order are the rows in falling order.
use Rattle.std.specs.Prelude.{ℕ, ◌-◌, ◌/◌, ◌%◌, ◌<◌, ◌≡◌, Bool, List, get_or, length}
use Rattle.laws.specs.Tests.{or}
use Rattle.reach.specs.Masks.{has_bit}

-- a row stands at the place
unfoldable pub placed : List ℕ → ℕ → Bool
placed rows p = has_bit (get_or rows (p / 64) 0) (p % 64)

-- the row is in the set
abbrev pub in_set : List ℕ → ℕ → Bool
in_set rows r = placed rows (255 - r)

-- of 256 rows those that meet a test are in the set too, and no other is new
pub record Adds (new : ℕ → Bool) (rows rows' : List ℕ) : Type 0 where
  pub size : length rows' ≡ 4
  pub at : (r : ℕ) → r < 256 → in_set rows' r ≡ or (in_set rows r) (new r)
