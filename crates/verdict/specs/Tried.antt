-- Condition rows that are tried once: those that have been tried and pass are seen.
use Rattle.std.specs.Prelude.{ℕ, ◌≡◌, Bool, true, false, List, get_or}
use Rattle.sheet.specs.Table.{Table}
use Rattle.verdict.specs.Verdict.{fails_in}

unfoldable pub Tried : Table → List Bool → Type 0
Tried t seen = (c : ℕ) → get_or seen c false ≡ true → fails_in t c ≡ false
