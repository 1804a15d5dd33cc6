-- Document 02, request 8: "From a sheet and a fitting state make the compacted sheet". Every definition is total: any table, any state.
use Rattle.std.specs.Prelude.{ℕ, Bool, cond, List, eqb}
use Rattle.laws.specs.Sums.{count}
use Rattle.laws.specs.Listed.{listed}
use Rattle.calculus.specs.Rows.{rows}
use Rattle.steps.specs.Rows.{Row}
use Rattle.sheet.specs.declared.Head.{Head}
use Rattle.sheet.specs.Table.{Table, table_of}
use Rattle.sheet.specs.Sheet.{sheet_of}
use Rattle.layout.specs.Rows.{row_in, renumbered}
use Rattle.layout.specs.Bytes.{row_bytes, laid}
use Rattle.state.specs.declared.State.{State}
use Rattle.state.specs.State.{restart_of}
use Rattle.moves.specs.Steps.{left_in, counted}
use Rattle.moves.specs.Runs.{Taken}

module _ (t : Table) (s : State) where
  -- "No other row is kept": the rows of the remainder
  unfoldable pub is_kept : ℕ → Bool
  is_kept = rows (left_in t s)

  -- "renumbered from 0": how many are kept before it
  unfoldable pub rank : ℕ → ℕ
  rank = count is_kept

  -- a row of the remainder, in which "a dropped JOIN" is "NIL" and a child is the first row of what is left of it
  unfoldable pub kept_row : ℕ → Row
  kept_row k = renumbered rank (row_in (left_in t s) k)

  -- "the remainder's rows in their old order"
  unfoldable pub compacted_terms : List ℕ
  compacted_terms = laid (λ k. row_bytes (kept_row k)) (listed is_kept 0 t.n)

-- "Evaluation 2 and 3 mean strict and lazy, compacted": 0 becomes 2, 1 becomes 3; a sheet that is compacted stays so
unfoldable pub compacted_by : ℕ → ℕ
compacted_by e = cond (eqb e 0) 2 (cond (eqb e 1) 3 e)

-- the rows that are kept, and "condition rows unchanged"
abbrev pub compacted_head : Table → State → Head
compacted_head t s = record { evaluation = compacted_by t.evaluation; m = t.m; n = rank t s t.n; k = t.k }

abbrev pub compacted : Table → State → Table
compacted t s = table_of (compacted_head t s) (compacted_terms t s) t.conditions

-- its bytes
abbrev pub compacted_sheet : Table → State → List ℕ
compacted_sheet t s = sheet_of (compacted_head t s) (compacted_terms t s) t.conditions

-- "with it a state of the same mode, waiting marks and the old link values", and its two counts
abbrev pub restarted : Table → State → State
restarted t s = counted (compacted t s) (restart_of s)

-- a step under a renumbering: another row, the same kind
abbrev pub reranked : (ℕ → ℕ) → Taken → Taken
reranked ρ x = record { row = ρ x.row; kind = x.kind }
