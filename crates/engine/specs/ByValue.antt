-- The step of a row, and whether it is a JOIN in front, from tables of what is reached and of the conditions' values; and what taking a step answers.
use Rattle.std.specs.Prelude.{ℕ, Bool, true, false, cond, ◌&&◌, Ok, List, eqb, ltb, get_or}
use Rattle.std.specs.Result.{is_ok}
use Rattle.laws.specs.Tests.{bit}
use Rattle.laws.specs.Listed.{listed}
use Rattle.calculus.specs.Process.{Prefix, act, out, join}
use Rattle.calculus.specs.Places.{cleans}
use Rattle.steps.specs.Rows.{Row, NIL, PREFIX, BRANCH, is_join}
use Rattle.steps.specs.Marks.{Marks, stand}
use Rattle.steps.specs.InFront.{waits_by, waiting_step}
use Rattle.sheet.specs.Table.{Table, row_at}
use Rattle.sheet.specs.Rules.{no}
use Rattle.evaluate.specs.Values.{value_in}
use Rattle.state.specs.declared.State.{State}
use Rattle.state.specs.declared.StepKind.TheVariants.{Act, Set, Open, Clean}
use Rattle.moves.specs.Steps.{Kind, mode_of, kind_at, stepped_of}
use Rattle.moves.specs.Standing.{waiting_by}
use Rattle.flags.specs.Flags.{flagged}
use Rattle.engine.specs.declared.Stepped.{Stepped}

unfoldable pub join_kind : ℕ → ℕ → ℕ → Kind
join_kind r mode v = cond (eqb v 2) (Ok Open) (cond (eqb v 1 && cleans (mode_of mode)) (Ok Clean) (no 11 r))

unfoldable pub prefix_kind : ℕ → ℕ → Prefix → (ℕ → ℕ) → Kind
prefix_kind r mode (act a) f = Ok (Act a)
prefix_kind r mode (out l b) f = Ok (Set l (bit b))
prefix_kind r mode (join c) f = join_kind r mode (f c)

unfoldable pub row_kind : ℕ → ℕ → Row → (ℕ → ℕ) → Kind
row_kind r mode NIL f = no 11 r
row_kind r mode (PREFIX π c) f = prefix_kind r mode π f
row_kind r mode (BRANCH κ p q) f = no 11 r

unfoldable pub kind_from : List ℕ → ℕ → ℕ → Marks → (ℕ → Bool) → (ℕ → ℕ) → ℕ → Kind
kind_from ts n mode μ reached f r = cond (ltb r n && reached r && waiting_step (row_at ts r) (μ r)) (row_kind r mode (row_at ts r) f) (no 11 r)

-- the row has a step, from the tables of marks, of what is reached, of values
unfoldable pub step_from : List ℕ → ℕ → ℕ → List ℕ → List ℕ → List ℕ → ℕ → Bool
step_from ts n mode marks seen vals r = is_ok (kind_from ts n mode (λ k. get_or marks k 0) (flagged seen) (value_in vals) r)

-- the row is a JOIN in front, from the tables of marks and of what is reached
unfoldable pub join_from : List ℕ → List ℕ → List ℕ → ℕ → Bool
join_from ts marks seen r = flagged seen r && (is_join (row_at ts r) && waits_by (stand (get_or marks r 0)))

-- the rows that have a step, and those that the state waits for, from these tables
unfoldable pub steps_from : List ℕ → ℕ → ℕ → List ℕ → List ℕ → List ℕ → List ℕ
steps_from ts n mode marks seen vals = listed (step_from ts n mode marks seen vals) 0 n

unfoldable pub waiting_from : List ℕ → ℕ → ℕ → List ℕ → List ℕ → List ℕ → List ℕ
waiting_from ts n mode marks seen vals = waiting_by (steps_from ts n mode marks seen vals) (listed (join_from ts marks seen) 0 n)

-- the kind that was taken, or 11 and the row; and the state after
unfoldable pub taken_answer : Table → State → ℕ → Stepped
taken_answer t s r = record { answer = kind_at t s r; state = stepped_of t s r }
