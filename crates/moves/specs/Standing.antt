-- Document 02, request 1: "With no step listed, a state is finished if no JOIN row is in front, and otherwise waiting." The rows that it waits for, and what "finished" has to mean. Request 5: which link each of these rows waits for. Total: any table, any state.
use Rattle.std.specs.Prelude.{Bool, true, false, ◌&&◌, List, [], ◌∷◌, map, ◌⊎◌, ◌≡◌, ℕ, ◌<◌}
use Rattle.laws.specs.Listed.{listed}
use Rattle.calculus.specs.Process.{Process, nil, prefix, branch}
use Rattle.calculus.specs.Status.{Value, Unset, False}
use Rattle.calculus.specs.Places.{plain}
use Rattle.conditions.specs.Conditions.{Condition, condition}
use Rattle.conditions.specs.Awaited.{Awaits}
use Rattle.steps.specs.Rows.{is_join, condition_of}
use Rattle.steps.specs.InFront.{in_front}
use Rattle.sheet.specs.Table.{Table, condition_row_at, eval_in}
use Rattle.worth.specs.Worth.{worth_in, no_link, wait_byte}
use Rattle.state.specs.declared.State.{State}
use Rattle.moves.specs.Steps.{mode_of, marks_of, links_of, nodes, listed_of}

-- a JOIN row in front
unfoldable pub join_in_front : Table → State → ℕ → Bool
join_in_front t s r = in_front (nodes t) (marks_of s) t.n r && is_join (nodes t r)

-- "those rows in rising order"
unfoldable pub joins_of : Table → State → List ℕ
joins_of t s = listed (join_in_front t s) 0 t.n

-- the rows that a state waits for: none where a step is listed
unfoldable pub waiting_by : List ℕ → List ℕ → List ℕ
waiting_by [] joins = joins
waiting_by (r ∷ steps) joins = []

unfoldable pub waiting_of : Table → State → List ℕ
waiting_of t s = waiting_by (listed_of t s) (joins_of t s)

-- "each row followed by its link, or by "-" where the condition is false": the link, or `no_link`
unfoldable pub awaited_of : Table → State → ℕ → ℕ
awaited_of t s r = wait_byte (worth_in t (condition_of (nodes t r)) (links_of s))

-- a byte for each row that it waits for, in the order of the rows
unfoldable pub awaits_of : Table → State → List ℕ
awaits_of t s = map (awaited_of t s) (waiting_of t s)

-- the condition of a JOIN row, and its value
abbrev pub join_condition : Table → ℕ → Condition
join_condition t r = condition (condition_row_at t.conditions) (condition_of (nodes t r))

abbrev pub join_value : Table → State → ℕ → Value
join_value t s r = eval_in t (condition_of (nodes t r)) (links_of s)

-- what a byte told of a row has to mean. The row waits for a link: its condition is unset, and the byte is "the lowest unset link reached from it"
pub record WaitsForLink (t : Table) (s : State) (r b : ℕ) : Type 0 where
  pub is_unset : join_value t s r ≡ Unset
  pub the_link : Awaits (join_condition t r) (links_of s) b
  pub one_of_m : b < t.m

-- ... or for none: "the condition is false", and the state is plain: with cleaning such a row has a step
pub record WaitsForNone (t : Table) (s : State) (r b : ℕ) : Type 0 where
  pub value_is_false : join_value t s r ≡ False
  pub has_no_link : b ≡ no_link
  pub is_plain : mode_of s.mode ≡ plain

abbrev pub Waits : Table → State → ℕ → ℕ → Type 0
Waits t s r b = WaitsForLink t s r b ⊎ WaitsForNone t s r b

-- what is left holds no ACT, OUT or JOIN
unfoldable pub bare : Process → Bool
bare (nil r) = true
bare (prefix r π P) = false
bare (branch r κ P Q) = bare P && bare Q
