-- What an array begins with: so many rows, with these bytes.
use Rattle.std.specs.Prelude.{ℕ, ◌*◌, ◌≡◌, List, take}

pub record LaidIn (n : ℕ) (bytes : List ℕ) (count : ℕ) (rows : List ℕ) : Type 0 where
  pub counted : count ≡ n
  pub begins : take (count * 4) rows ≡ bytes
