-- Document 02, request 9: what is answered for the row asked for of an accepted table, and what is left in the lent buffer.
use Rattle.std.specs.Prelude.{ℕ, List, Result, Ok, length}
use Rattle.laws.specs.Checks.{checked}
use Rattle.laws.specs.Listed.{written}
use Rattle.sheet.specs.declared.Refusal.{Refusal}
use Rattle.sheet.specs.Table.{Table}
use Rattle.sheet.specs.Rules.{no}
use Rattle.damage.specs.Damage.{shown_sheet, show_checks}

unfoldable pub show_answer : Table → ℕ → ℕ → Result ℕ Refusal
show_answer t row lent = checked no (Ok (length (shown_sheet t row))) (show_checks t row lent)

unfoldable pub show_buffer : Table → ℕ → List ℕ → List ℕ
show_buffer t row lent = checked (λ number place. lent) (written (shown_sheet t row) lent) (show_checks t row (length lent))
