-- Document 02, request 7: what is shown of two listed steps, over what the calls answer.
use Rattle.std.specs.Result.{is_ok}
use Rattle.std.specs.Prelude.{◌≡◌, true, ℕ}
use mathlib.Core.List.{Memᴰ}
use Rattle.sheet.specs.Table.{Table}
use Rattle.state.specs.declared.State.{State}
use Rattle.sheet_engine.specs.Answers.{kind_answer, step_answer}
use Rattle.promises.specs.Calls.{listed_rows, next}

-- the step of row i "may be taken first", and after it that of row j "is still listed with its kind unchanged"
pub record First (t : Table) (s : State) (i j : ℕ) : Type 0 where
  pub may_be_taken : is_ok (step_answer t s i).answer ≡ true
  pub still_listed : Memᴰ j (listed_rows t (next t s i))
  pub same_kind : kind_answer t (next t s i) j ≡ kind_answer t s j

-- "either may be taken first [...] and [...] both orders reach the same state". The second step is listed, so `take_step` takes it too (`taken_listed`).
pub record EitherFirst (t : Table) (s : State) (i j : ℕ) : Type 0 where
  pub one_first : First t s i j
  pub other_first : First t s j i
  pub same_state : next t (next t s i) j ≡ next t (next t s j) i
