-- Document 02, request 9, over what `damage_sheet` answers and leaves in the lent buffer.
use Rattle.std.specs.Prelude.{ℕ, ◌<◌, ◌≤◌, ◌≡◌, List, length, take}
use Rattle.calculus.specs.Process.{join}
use Rattle.calculus.specs.Order.{Condition2}
use Rattle.steps.specs.Rows.{PREFIX}
use Rattle.sheet.specs.Table.{Table, row_at, eval_in}
use Rattle.sheet.specs.Sheet.{table_in}
use Rattle.damage.specs.Damage.{damage_table}
use Rattle.sheet_engine.specs.Answers.{damage_answer, damage_buffer}
use Rattle.promises.specs.Calls.{count_of}

-- What a caller has after the call: the sheet, of the lent buffer as many bytes as were answered; and its table, as it is read.
abbrev pub sheet_shown : Table → ℕ → List ℕ → List ℕ
sheet_shown t row lent = take (count_of (damage_answer t row (length lent))) (damage_buffer t row lent)

abbrev pub table_shown : Table → ℕ → List ℕ → Table
table_shown t row lent = table_in (sheet_shown t row lent)

-- "the row asked for is" a "JOIN whose condition fails": it does not meet R's condition (2); and "the new sheet would" not "have more than 256 condition rows"
pub record ShownFor (t : Table) (row : ℕ) : Type 0 where
  pub condition : ℕ
  pub child : ℕ
  pub inside : row < t.n
  pub row_is_join : row_at t.terms row ≡ PREFIX (join condition) child
  pub fails : Condition2 (eval_in t condition) → ⊥
  pub few_conditions : (damage_table t condition).k ≤ 256
