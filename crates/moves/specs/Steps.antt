-- Document 01, "State and steps": which step a row has in a state, the list of steps, the two counts of a state, and the state after a step. Every definition is total: any table, any state, any row.
use Rattle.std.specs.Prelude.{Bool, true, false, cond, not, ◌≡◌, List, Result, Ok, ℕ, zero, suc, ◌+◌, eqb, ltb, get_or, length}
use Rattle.std.proofs.Math.Option.{Option, none, some}
use Rattle.laws.specs.Tests.{or, bit}
use Rattle.laws.specs.Up.{up}
use Rattle.laws.specs.Listed.{listed}
use Rattle.laws.specs.Sums.{count}
use Rattle.calculus.specs.Process.{Process, nil, prefix, branch, Prefix, act, out, join, pick, flow}
use Rattle.calculus.specs.Status.{Links, truth}
use Rattle.calculus.specs.Plain.{Label, step, clean}
use Rattle.calculus.specs.Places.{sets, Turn, takes, drops, Mode, plain, cleaning, falsifies}
use Rattle.calculus.specs.Rows.{row_of}
use Rattle.calculus.specs.Steps.{turn_of}
use Rattle.conditions.specs.Conditions.{is_set}
use Rattle.conditions.specs.Numbers.{digit}
use Rattle.steps.specs.Rows.{Row, NIL, PREFIX, BRANCH, first_of, second_of, term}
use Rattle.steps.specs.Marks.{Marks, open_branches, remainder}
use Rattle.steps.specs.InFront.{parent_of, right_of, undecided, in_front}
use Rattle.sheet.specs.declared.Refusal.{Refusal}
use Rattle.sheet.specs.Table.{Table, row_at, eval_in}
use Rattle.sheet.specs.Rules.{no}
use Rattle.evaluate.specs.Values.{links_in}
use Rattle.state.specs.declared.State.{State}
use Rattle.state.specs.declared.StepKind.{StepKind}
use Rattle.state.specs.declared.StepKind.TheVariants.{Act, Set, Open, Clean}
use Rattle.state.specs.State.{fresh_of, pass_of, drop_of, decide_of, set_of, with_counts}

-- A state as the calculus reads it: "the mode (0 plain, 1 cleaning), one mark for each of 256 rows and one value for each of 64 links".
unfoldable pub mode_of : ℕ → Mode
mode_of x = cond (eqb x 1) cleaning plain

abbrev pub marks_of : State → Marks
marks_of s k = get_or s.marks k 0

abbrev pub links_of : State → Links
links_of s = links_in s.links

-- of the right size, which the contracts of the calls with a table say of the state that each is handed
pub record Sized (s : State) : Type 0 where
  pub all_marks : length s.marks ≡ 256
  pub all_links : length s.links ≡ 64

abbrev pub nodes : Table → ℕ → Row
nodes t = row_at t.terms

-- the remainder of a row
abbrev pub remainder_in : List ℕ → ℕ → Marks → ℕ → Process
remainder_in ts n μ i = remainder μ (term (row_at ts) n i)

-- what is left of the sheet in a state
abbrev pub left_in : Table → State → Process
left_in t s = remainder_in t.terms t.n (marks_of s) 0

-- "ACT in front: passed. OUT in front: passed, its link set. JOIN in front with a true condition: passed ("open")." "JOIN in front with a false condition, cleaning mode only ("clean"): dropped"
unfoldable pub turn_by : (Prefix → Option Turn) → Row → Option Turn
turn_by f NIL = none
turn_by f (PREFIX π c) = f π
turn_by f (BRANCH κ p q) = none

unfoldable pub turn_at : Table → State → ℕ → Option Turn
turn_at t s r = cond (in_front (nodes t) (marks_of s) t.n r) (turn_by (λ π. turn_of (eval_in t) (mode_of s.mode) π (links_of s)) (nodes t r)) none

-- what is told of a row: the kind of its step, or why it has none
abbrev pub Kind : Type 0
Kind = Result StepKind Refusal

-- "act" with the activity, "set" with link and 0 or 1, "open" or "clean"; 11 where there is no step
unfoldable pub kind_of : Prefix → Kind
kind_of (act a) = Ok (Act a)
kind_of (out l b) = Ok (Set l (bit b))
kind_of (join c) = Ok Open

-- a label of R shows its row and a kind: what stands there, or that it was cleaned away
unfoldable pub kind_in : Label → Kind
kind_in (step r π) = kind_of π
kind_in (clean r) = Ok Clean

-- a NIL, PICK or FLOW has no turn and is never asked
unfoldable pub kind_by : Row → Kind
kind_by NIL = Ok Open
kind_by (PREFIX π c) = kind_of π
kind_by (BRANCH κ p q) = Ok Open

unfoldable pub kind_turned : Row → ℕ → Option Turn → Kind
kind_turned N r none = no 11 r
kind_turned N r (some takes) = kind_by N
kind_turned N r (some drops) = Ok Clean

unfoldable pub kind_at : Table → State → ℕ → Kind
kind_at t s r = kind_turned (nodes t r) r (turn_at t s r)

-- "The list of steps is in rising row order."
abbrev pub is_some : Option Turn → Bool
is_some none = false
is_some (some x) = true

unfoldable pub has_step : Table → State → ℕ → Bool
has_step t s r = is_some (turn_at t s r)

unfoldable pub listed_of : Table → State → List ℕ
listed_of t s = listed (has_step t s) 0 t.n

-- "all links set by the remainder ... become false": the links below 64 at which f holds, in z
unfoldable pub falsify_from : (ℕ → Bool) → ℕ → ℕ → State → State
falsify_from f i zero z = z
falsify_from f i (suc c) z = falsify_from f (suc i) c (cond (f i) (set_of z i 1) z)

unfoldable pub falsified : List ℕ → ℕ → Marks → ℕ → State → State
falsified ts n μ i z = falsify_from (sets (remainder_in ts n μ i)) 0 64 z

-- "Each of these also decides every waiting PICK above it towards it; in cleaning mode all links set by the remainder of the other branch become false." The row above j, in z; marks and remainders are those of the old state s.
unfoldable pub is_waiting_pick : Row → ℕ → Bool
is_waiting_pick NIL m = false
is_waiting_pick (PREFIX π c) m = false
is_waiting_pick (BRANCH pick p q) m = undecided (open_branches pick m)
is_waiting_pick (BRANCH flow p q) m = false

abbrev pub other_of : Row → Bool → ℕ
other_of N true = first_of N
other_of N false = second_of N

unfoldable pub decided_of : List ℕ → ℕ → State → ℕ → State → State
decided_of ts n s j z =
    let p : ℕ = parent_of (row_at ts) j in
    let right : Bool = right_of (row_at ts) j in
    let z' : State = decide_of z p right in
    cond (is_waiting_pick (row_at ts p) (marks_of s p)) (cond (falsifies (mode_of s.mode)) (falsified ts n (marks_of s) (other_of (row_at ts p) right) z') z') z

-- ... and so up to row 0
unfoldable pub climb_by : List ℕ → ℕ → State → ℕ → (ℕ → State → State) → State → State
climb_by ts n s j v z = cond (ltb (parent_of (row_at ts) j) j) (v (parent_of (row_at ts) j) (decided_of ts n s j z)) z

abbrev pub idle : State → State
idle z = z

unfoldable pub climbed : List ℕ → ℕ → State → ℕ → State → State
climbed ts n s = up idle (climb_by ts n s)

-- "OUT in front: passed, its link set"
unfoldable pub own_link : Prefix → State → State
own_link (act a) z = z
own_link (out l b) z = set_of z l (digit (truth b))
own_link (join c) z = z

unfoldable pub own_of : Row → State → State
own_of NIL z = z
own_of (PREFIX π c) z = own_link π z
own_of (BRANCH κ p q) z = z

unfoldable pub taken_of : List ℕ → ℕ → State → ℕ → State
taken_of ts n s r = climbed ts n s r (own_of (row_at ts r) (pass_of s r))

-- "dropped, and all links set by its child's remainder become false. No pick is decided by it."
unfoldable pub dropped_of : List ℕ → ℕ → State → ℕ → State
dropped_of ts n s r = falsified ts n (marks_of s) (first_of (row_at ts r)) (drop_of s r)

-- Document 02, request 6: "The state gains two numbers: ACT rows in the remainder, and unset links among the sheet's m."
unfoldable pub acts_of : Process → ℕ
acts_of (nil r) = 0
acts_of (prefix r (act a) P) = suc (acts_of P)
acts_of (prefix r (out l b) P) = acts_of P
acts_of (prefix r (join c) P) = acts_of P
acts_of (branch r κ P Q) = acts_of P + acts_of Q

-- ... and the rows at which they stand
unfoldable pub act_in : Process → ℕ → Bool
act_in (nil r) k = false
act_in (prefix r (act a) P) k = or (eqb k r) (act_in P k)
act_in (prefix r (out l b) P) k = act_in P k
act_in (prefix r (join c) P) k = act_in P k
act_in (branch r κ P Q) k = or (act_in P k) (act_in Q k)

-- the unset links below m
unfoldable pub unset_of : ℕ → Links → ℕ
unset_of m v = count (λ l. not (is_set (v l))) m

-- the state with its two numbers, by the rows of the sheet and its m
abbrev pub counted_in : ℕ → List ℕ → ℕ → State → State
counted_in m ts n s = with_counts s (acts_of (remainder_in ts n (marks_of s) 0)) (unset_of m (links_of s))

abbrev pub counted : Table → State → State
counted t = counted_in t.m t.terms t.n

-- "A fresh state carries them too."
abbrev pub start_of : Table → ℕ → State
start_of t mode = counted t (fresh_of mode)

-- the state after the step of row r, with its counts: "Both are kept true by every step"; the state itself where the row has no step
unfoldable pub stepped_by : Table → State → ℕ → Option Turn → State
stepped_by t s r none = s
stepped_by t s r (some takes) = counted t (taken_of t.terms t.n s r)
stepped_by t s r (some drops) = counted t (dropped_of t.terms t.n s r)

unfoldable pub stepped_of : Table → State → ℕ → State
stepped_of t s r = stepped_by t s r (turn_at t s r)

-- A step of R is listed: its row has a step, of the label's kind, which leads to what R says is left, and to R's links.
pub record Listed (t : Table) (s : State) (α : Label) (P : Process) (v : Links) : Type 0 where
  pub there : has_step t s (row_of α) ≡ true
  pub kind : kind_at t s (row_of α) ≡ kind_in α
  pub leaves : left_in t (stepped_of t s (row_of α)) ≡ P
  pub sets : links_of (stepped_of t s (row_of α)) ≡ v
