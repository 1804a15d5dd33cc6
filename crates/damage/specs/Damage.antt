-- Document 02, request 9: "For a failing JOIN row build a small sheet". Every definition is total: any table, any row.
use Rattle.std.specs.Prelude.{ℕ, ◌+◌, Bool, cond, ◌&&◌, List, [], ◌∷◌, ◌++◌, ltb, leb, length}
use Rattle.laws.specs.Tests.{bit}
use Rattle.laws.specs.Sums.{count}
use Rattle.laws.specs.Listed.{listed}
use Rattle.laws.specs.Checks.{Check}
use Rattle.calculus.specs.Process.{Process}
use Rattle.calculus.specs.Status.{Links}
use Rattle.conditions.specs.Conditions.{ConditionRow, FALSE}
use Rattle.conditions.specs.Numbers.{assign}
use Rattle.steps.specs.Rows.{is_join, condition_of}
use Rattle.sheet.specs.declared.Head.{Head}
use Rattle.sheet.specs.Table.{Table, table_of, row_at, condition_row_at, lazy_of}
use Rattle.sheet.specs.Sheet.{sheet_of, room}
use Rattle.layout.specs.Bytes.{condition_bytes, laid}
use Rattle.layout.specs.InOrder.{size, in_order}
use Rattle.failure.specs.Failure.{links_at, number_at, link_at}
use Rattle.verdict.specs.Verdict.{fails_in}
use Rattle.damage.specs.Scene.{any_unset, scene}
use Rattle.damage.specs.Reached.{reaches_row, renumbered_condition}

-- of a condition row
module _ (t : Table) (c : ℕ) where
  -- its links, in rising order
  abbrev pub its_links : List ℕ
  its_links = links_at t.m t.conditions c

  -- what "its condition's number" makes of them
  unfoldable pub offending : Links
  offending = assign its_links (number_at t.evaluation t.m t.conditions c)

  -- "the named link": number and link are those of this row, whichever row the verdict names
  unfoldable pub named : ℕ
  named = link_at t.evaluation t.m t.conditions c

  -- "If the condition reaches links that the number leaves unset"
  unfoldable pub leaves_unset : Bool
  leaves_unset = any_unset offending its_links

  -- "only condition rows reached are kept, in their old order"
  unfoldable pub is_reached : ℕ → Bool
  is_reached = reaches_row (condition_row_at t.conditions) c

  unfoldable pub rank : ℕ → ℕ
  rank = count is_reached

  unfoldable pub kept_condition : ℕ → ConditionRow
  kept_condition i = renumbered_condition rank (condition_row_at t.conditions i)

  unfoldable pub kept_conditions : List ℕ
  kept_conditions = laid (λ i. condition_bytes (kept_condition i)) (listed is_reached 0 t.k)

  -- "with a FALSE row added last if that JOIN stands"
  unfoldable pub damage_conditions : List ℕ
  damage_conditions = kept_conditions ++ cond leaves_unset (condition_bytes FALSE) []

  -- the same condition under its new number; FALSE has the number behind the rows that are kept
  unfoldable pub damage_process : Process
  damage_process = scene its_links offending named (rank c) (rank t.k)

  -- "Evaluation is strict or lazy as in the sheet judged, never compacted"; "The link count stays"
  unfoldable pub damage_head : Head
  damage_head = record { evaluation = bit (lazy_of t.evaluation); m = t.m; n = size damage_process; k = rank t.k + bit leaves_unset }

  -- "term rows run as in request 4"
  abbrev pub damage_table : Table
  damage_table = table_of damage_head (in_order 0 damage_process) damage_conditions

  -- its bytes
  unfoldable pub damage_sheet : List ℕ
  damage_sheet = sheet_of damage_head (in_order 0 damage_process) damage_conditions

-- of "the row asked for": by the row of its condition
module _ (t : Table) (row : ℕ) where
  abbrev pub condition_at : ℕ
  condition_at = condition_of (row_at t.terms row)

  abbrev pub shown_table : Table
  shown_table = damage_table t condition_at

  abbrev pub shown_sheet : List ℕ
  shown_sheet = damage_sheet t condition_at

  -- the row asked for is a "JOIN whose condition fails", and the new sheet does not "have more than 256 condition rows"
  unfoldable pub showable : Bool
  showable = ltb row t.n && (is_join (row_at t.terms row) && (fails_in t condition_at && leb shown_table.k 256))

-- 15: "where the row asked for is no JOIN whose condition fails, or the new sheet would have more than 256 condition rows, place that row; it stands just before 12"
abbrev pub show_check : Table → ℕ → Check
show_check t row = record { number = 15; from = row; upto = row + 1; rule = showable t }

abbrev pub show_checks : Table → ℕ → ℕ → List Check
show_checks t row lent = show_check t row ∷ (room (length (shown_sheet t row)) lent ∷ [])
