-- Document 02, request 8, over what `compact` answers and leaves in the lent buffer.
use Rattle.std.specs.Prelude.{ℕ, ◌≡◌, true, length, take}
use mathlib.Core.List.{List, map, Memᴰ}
use Rattle.sheet.specs.Table.{Table}
use Rattle.sheet.specs.Sheet.{table_in}
use Rattle.state.specs.declared.State.{State}
use Rattle.moves.specs.Runs.{Taken}
use Rattle.compacted.specs.Compacted.{is_kept, rank, reranked}
use Rattle.sheet_engine.specs.Answers.{compact_answer, compact_buffer}
use Rattle.promises.specs.Calls.{count_of, link, listed_steps, Run, taken, last}

-- What a caller has after the call: the sheet, of the lent buffer as many bytes as were answered; its table, as it is read; and the state.
abbrev pub sheet_made : Table → State → List ℕ → List ℕ
sheet_made t s lent = take (count_of (compact_answer t s (length lent)).answer) (compact_buffer t s lent)

abbrev pub table_made : Table → State → List ℕ → Table
table_made t s lent = table_in (sheet_made t s lent)

abbrev pub state_made : Table → State → List ℕ → State
state_made t s lent = (compact_answer t s (length lent)).state

-- "Every run from there matches, row number for row number under the renumbering, a run from the old state": the same steps with the same kinds; and behind both the same steps are listed, with their kinds, and the links are the same.
-- A row that is taken was kept; of kept rows no two have one new number (`ranks_rise`).
pub record Matches {t' t : Table} {s' s : State} (G : Run t' s') (H : Run t s) : Type 0 where
  pub kept : (x : Taken) → Memᴰ x (taken H) → is_kept t s x.row ≡ true
  pub steps : taken G ≡ map (reranked (rank t s)) (taken H)
  pub lists : listed_steps t' (last G) ≡ map (reranked (rank t s)) (listed_steps t (last H))
  pub links : (l : ℕ) → link (last G) l ≡ link (last H) l
