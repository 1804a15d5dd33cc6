-- Document 01: "Where an answer is an enum, a definition gives this paper's number and values for each of its cases, and the promises use it." What the values have to be.
use Rattle.std.specs.Prelude.{ℕ, ◌+◌, ◌*◌, ◌<◌, ◌≤◌, ◌≡◌, true, cond, List, [], ◌∷◌, ◌++◌, ◌↔◌, Result, Ok, Err, eqb, get_or}
use Rattle.laws.specs.Checks.{Check, checked, AllHold}
use Rattle.calculus.specs.Process.{join}
use Rattle.calculus.specs.Order.{Condition2}
use Rattle.conditions.specs.Numbers.{number_of, assign, Offends, digit}
use Rattle.steps.specs.Rows.{PREFIX}
use Rattle.sheet.specs.Table.{Table, row_at, eval_in}
use Rattle.sheet.specs.declared.Head.{Head}
use Rattle.sheet.specs.declared.Refusal.{Refusal}
use Rattle.sheet.specs.Rules.{refuse}
use Rattle.failure.specs.Failure.{links_at}
use Rattle.verdict.specs.declared.Verdict.{Verdict}
use Rattle.verdict.specs.declared.Verdict.TheVariants.{Pass, Fail}
use Rattle.state.specs.declared.State.{State}
use Rattle.state.specs.State.{fresh_of}
use Rattle.state.specs.declared.StepKind.TheVariants as kind
use Rattle.moves.specs.Steps.{Kind, links_of, kind_at, has_step, stepped_of}
use Rattle.engine.specs.declared.Stepped.{Stepped}
use Rattle.sheet_engine.specs.Answers.{call_checks}
use Rattle.sheet_engine.specs.declared.Stands.{Stands}
use Rattle.sheet_engine.specs.declared.Stands.TheVariants as standing

-- number and place of the refusal; 1 for a failure, with its row, number and link
pub record VerdictValues : Type 0 where
  pub refusal : ℕ
  pub place : ℕ
  pub fails : ℕ
  pub row : ℕ
  pub number : ℕ
  pub link : ℕ

abbrev pub verdict_values : Result Verdict Refusal → VerdictValues
verdict_values (Ok Pass) = record { refusal = 0; place = 0; fails = 0; row = 0; number = 0; link = 0 }
verdict_values (Ok (Fail row number link)) = record { refusal = 0; place = 0; fails = 1; row = row; number = number; link = link }
verdict_values (Err e) = record { refusal = e.number; place = e.place; fails = 0; row = 0; number = 0; link = 0 }

-- "A failure names the lowest JOIN row that fails, a number and a link." "Take the links of the condition in rising order; the number is the sum of value times 1, 3, 9 and so on. It is the smallest such number at which the condition is true and some false link, made unset, leaves it not true; the link is the lowest such one."
pub record FailsAt (t : Table) (j x l : ℕ) : Type 0 where
  pub condition : ℕ
  pub child : ℕ
  pub inside : j < t.n
  pub row_is_join : row_at t.terms j ≡ PREFIX (join condition) child
  pub lower_rows_pass : (i q d : ℕ) → i < j → row_at t.terms i ≡ PREFIX (join q) d → Condition2 (eval_in t q)
  pub sum : number_of (links_at t.m t.conditions condition) (assign (links_at t.m t.conditions condition) x) ≡ x
  pub offends : Offends (eval_in t condition) (links_at t.m t.conditions condition) x l
  pub smallest : (y k : ℕ) → Offends (eval_in t condition) (links_at t.m t.conditions condition) y k → x ≤ y
  pub lowest : (k : ℕ) → Offends (eval_in t condition) (links_at t.m t.conditions condition) x k → l ≤ k

-- number and place of the refusal; evaluation, m, n and k
pub record SheetValues : Type 0 where
  pub refusal : ℕ
  pub place : ℕ
  pub evaluation : ℕ
  pub m : ℕ
  pub n : ℕ
  pub k : ℕ

abbrev pub sheet_values : Result Head Refusal → SheetValues
sheet_values (Ok h) = record { refusal = 0; place = 0; evaluation = h.evaluation; m = h.m; n = h.n; k = h.k }
sheet_values (Err e) = record { refusal = e.number; place = e.place; evaluation = 0; m = 0; n = 0; k = 0 }

-- number and place of the refusal; the fresh state, and beside a refusal one of zeros. A judgement has number and place alone: `as_refusal` (`sheet/specs/Rules`).
pub record StartValues : Type 0 where
  pub refusal : ℕ
  pub place : ℕ
  pub state : State

abbrev pub start_values : Result State Refusal → StartValues
start_values (Ok s) = record { refusal = 0; place = 0; state = s }
start_values (Err e) = record { refusal = e.number; place = e.place; state = fresh_of 0 }

-- number and place of the refusal; the size
pub record SizeValues : Type 0 where
  pub refusal : ℕ
  pub place : ℕ
  pub size : ℕ

abbrev pub size_values : Result ℕ Refusal → SizeValues
size_values (Ok needed) = record { refusal = 0; place = 0; size = needed }
size_values (Err e) = record { refusal = e.number; place = e.place; size = 0 }

-- number and place of the refusal; 1 where steps are listed, 2 for "finished", 3 for "waiting" with the number of its rows
pub record StandingValues : Type 0 where
  pub refusal : ℕ
  pub place : ℕ
  pub word : ℕ
  pub rows : ℕ

abbrev pub standing_values : Result Stands Refusal → StandingValues
standing_values (Ok standing.Enabled) = record { refusal = 0; place = 0; word = 1; rows = 0 }
standing_values (Ok standing.Finished) = record { refusal = 0; place = 0; word = 2; rows = 0 }
standing_values (Ok (standing.Waiting rows)) = record { refusal = 0; place = 0; word = 3; rows = rows }
standing_values (Err e) = record { refusal = e.number; place = e.place; word = 0; rows = 0 }

-- number and place of the refusal; 1 for "act" with the activity, 2 for "set" with link and 0 or 1, 3 for "open", 4 for "clean"
pub record StepValues : Type 0 where
  pub refusal : ℕ
  pub place : ℕ
  pub word : ℕ
  pub activity : ℕ
  pub link : ℕ
  pub value : ℕ

abbrev pub step_values : Kind → StepValues
step_values (Ok (kind.Act a)) = record { refusal = 0; place = 0; word = 1; activity = a; link = 0; value = 0 }
step_values (Ok (kind.Set l v)) = record { refusal = 0; place = 0; word = 2; activity = 0; link = l; value = v }
step_values (Ok kind.Open) = record { refusal = 0; place = 0; word = 3; activity = 0; link = 0; value = 0 }
step_values (Ok kind.Clean) = record { refusal = 0; place = 0; word = 4; activity = 0; link = 0; value = 0 }
step_values (Err e) = record { refusal = e.number; place = e.place; word = 0; activity = 0; link = 0; value = 0 }

-- what a row with a step shows: its bytes, and of a JOIN whether its condition is true
unfoldable pub shown_by : ℕ → ℕ → ℕ → ℕ → StepValues
shown_by term a b value = cond (eqb term 1) (step_values (Ok (kind.Act a))) (cond (eqb term 2) (step_values (Ok (kind.Set a b))) (cond (eqb value 2) (step_values (Ok kind.Open)) (step_values (Ok kind.Clean))))

abbrev pub shown : Table → State → ℕ → StepValues
shown t s row = shown_by (get_or t.terms (row * 4) 0) (get_or t.terms (row * 4 + 1) 0) (get_or t.terms (row * 4 + 2) 0) (digit (eval_in t (get_or t.terms (row * 4 + 1) 0) (links_of s)))

-- 11: "the row asked for has no step", place "that row"
abbrev pub row_check : Table → State → ℕ → Check
row_check t s row = record { number = 11; from = row; upto = row + 1; rule = has_step t s }

abbrev pub row_checks : Table → State → ℕ → List Check
row_checks t s row = call_checks t s ++ (row_check t s row ∷ [])

-- the step of a row, taken
abbrev pub was_taken : Table → State → ℕ → Stepped
was_taken t s row = record { answer = kind_at t s row; state = stepped_of t s row }

-- "The first failure is given ... and all else in the answer is 0": the values a of a call that makes the checks, whose number is 0 exactly if all hold
pub record Answers {A : Type 0} (number : A → ℕ) (refused : ℕ → ℕ → A) (good : A) (cs : List Check) (a : A) : Type 0 where
  pub accepts : (number a ≡ 0) ↔ AllHold cs
  pub given : number a ≡ 0 → a ≡ good
  pub refusal : (number a ≡ 0 → ⊥) → a ≡ refused (checked refuse (refuse 0 0) cs).number (checked refuse (refuse 0 0) cs).place
