-- The lines of a run that was started, from the answers of the calls. Assumes nothing.
use mathlib.Core.Path.{◌≡◌, sym, ap, subst, ◌∙◌}
use mathlib.Core.Bool.{cond}
use mathlib.Core.List.{List, [], ◌++◌}
use Prim.Native.Nat.{ℕ, ◌+◌, ◌≤◌, ◌<◌}
use native.Mathlib.Omega.{arith}
use lib.ListN.{length, length-append, take, drop, drop_of_length-le, get_or}
use lib.Seq.{take_at}
use Rattle.sheet.specs.Table.{Table}
use Rattle.std.specs.Prelude.{Result, Ok, Err}
use Rattle.std.specs.Result.{is_ok}
use Rattle.sheet.specs.declared.Refusal.{Refusal}
use Rattle.state.specs.declared.State.{State}
use Rattle.moves.specs.Steps.{kind_at, has_step, stepped_of, listed_of}
use Rattle.moves.specs.Standing.{waiting_of, awaits_of}
use Rattle.moves.proofs.Standing.{awaits_length}
use Rattle.engine.specs.declared.Stepped.{Stepped}
use Rattle.sheet_engine.specs.declared.Stands.{Stands}
use Rattle.sheet_engine.specs.declared.Stands.TheVariants as standing
use Rattle.state.specs.declared.StepKind.{StepKind}
use Rattle.sheet_engine.specs.Answers.{list_answer, list_buffer, standing_of, standing_answer, standing_buffer, waits_answer, waits_buffer, step_answer}
use Rattle.sheet_engine.specs.Values.{standing_values}
use Rattle.sheet_engine.proofs.HowItStands.{stands_rows}
use Rattle.promises.specs.Calls.{Accepted, count_of}
use Rattle.promises.proofs.Calls.{refusal, unrefused, list_answers, few_listed, standing_is, few_waiting, waits_is, few_awaited, ok_is, answer_is, state_is, stepped}
use Rattle.lines.specs.Lines.{refused_line, step_line, last_line}
use Rattle.lines.proofs.Pages.{next as next_of}
use Rattle.printing.specs.Printed.{end_lines, step_lines}

-- rows at the front of a buffer
module _ (found lent rows : List ℕ) (count : ℕ) (counted : count ≡ length found) (are : rows ≡ found ++ drop (length found) lent) where
  lies : count ≤ length rows
  lies = let e : length rows ≡ length found + length (drop (length found) lent) = ap length are ∙ length-append found (drop (length found) lent) in omega (arith, e, counted)

  part : take count rows ≡ found
  part = ap (take count) are ∙ take_at found (drop (length found) lent) count (sym counted)

-- a call told how many bytes it found, and left them at the front of a lent buffer
pub record Fetched (found lent : List ℕ) (answer : Result ℕ Refusal) (left : List ℕ) : Type 0 where
  pub number : answer ≡ Ok (length found)
  pub front : left ≡ found ++ drop (length found) lent

module _ {found lent left : List ℕ} {answer : Result ℕ Refusal} (told : Fetched found lent answer left) where
  pub fetched_lies : (count : ℕ) → answer ≡ Ok count → count ≤ length left
  fetched_lies count is = lies found lent left count (ap count_of (sym is ∙ told.number)) told.front

  pub fetched_part : (count : ℕ) → answer ≡ Ok count → take count left ≡ found
  fetched_part count is = part found lent left count (ap count_of (sym is ∙ told.number)) told.front

  pub fetched_unrefused : (e : Refusal) → answer ≡ Err e → ⊥
  fetched_unrefused e is = let known : answer ≡ Ok (length found) = told.number in cc

-- a buffer of 256 bytes takes every list
module _ (t : Table) (s : State) (a : Accepted t s) (lent : List ℕ) (long : length lent ≡ 256) where
  free : (refusal t s).number ≡ 0
  free = unrefused t s a

  pub listed_fetched : (answer : Result ℕ Refusal) (left : List ℕ) → (answer ≡ list_answer t s (length lent)) × (left ≡ list_buffer t s lent) → Fetched (listed_of t s) lent answer left
  listed_fetched answer left (e, f) = let (c, b) = list_answers t s free lent (omega (arith, few_listed t s free, long)) in record { number = e ∙ c; front = f ∙ b }

  pub waits_fetched : (answer : Result ℕ Refusal) (left : List ℕ) → (answer ≡ waits_answer t s (length lent)) × (left ≡ waits_buffer t s lent) → Fetched (awaits_of t s) lent answer left
  waits_fetched answer left (e, f) = let (c, b) = waits_is t s free lent (omega (arith, few_awaited t s free, long)) in record { number = e ∙ c; front = f ∙ b }

  -- ... and every row that is waited for
  standing_told : (standing_answer t s (length lent) ≡ Ok (standing_of t s)) × (standing_buffer t s lent ≡ waiting_of t s ++ drop (length (waiting_of t s)) lent)
  standing_told = standing_is t s free lent (omega (arith, few_waiting t s free, long))

  module _ (answer : Result Stands Refusal) (told : answer ≡ standing_answer t s (length lent)) where
    stands : answer ≡ Ok (standing_of t s)
    stands = told ∙ standing_told.0

    -- ... by the arm that is gone
    given : (a b : Stands) → answer ≡ Ok a → a ≡ b → b ≡ standing_of t s
    given a b is arm = let known : answer ≡ Ok (standing_of t s) = stands in cc

    pub line_of : (a b : Stands) → answer ≡ Ok a → a ≡ b → last_line b (listed_of t s) (waiting_of t s) (awaits_of t s) ≡ last_line (standing_of t s) (listed_of t s) (waiting_of t s) (awaits_of t s)
    line_of a b is arm = ap (λ (z : Stands). last_line z (listed_of t s) (waiting_of t s) (awaits_of t s)) (given a b is arm)

    pub stand_unrefused : (e : Refusal) → answer ≡ Err e → ⊥
    stand_unrefused e is = let known : answer ≡ Ok (standing_of t s) = stands in cc

    module _ (rows : List ℕ) (z : Stands) (count : ℕ) (is : answer ≡ Ok z) (arm : z ≡ standing.Waiting count) (left : rows ≡ standing_buffer t s lent) where
      waited : count ≡ length (waiting_of t s)
      waited = ap (λ (y : Stands). (standing_values (Ok y)).rows) (given z (standing.Waiting count) is arm) ∙ (stands_rows t s).1

      pub waited_lies : count ≤ length rows
      waited_lies = lies (waiting_of t s) lent rows count waited (left ∙ standing_told.1)

      pub waited_part : take count rows ≡ waiting_of t s
      waited_part = part (waiting_of t s) lent rows count waited (left ∙ standing_told.1)

-- a byte for each row that is waited for
pub waits_matched : (t : Table) (s : State) (rows links : List ℕ) → rows ≡ waiting_of t s → links ≡ awaits_of t s → length rows ≤ length links
waits_matched t s rows links e f = omega (arith, ap length e, ap length f, awaits_length t s)

-- the next step's line, and what comes after it
module _ (t : Table) (s : State) (a : Accepted t s) (rows : List ℕ) (i : ℕ) (inside : i < length rows) (next : Stepped) (told : next ≡ step_answer t s (get_or rows i 0)) where
  abbrev r : ℕ
  r = get_or rows i 0

  ok : is_ok next.answer ≡ has_step t s r
  ok = ap (λ (z : Stepped). is_ok z.answer) told ∙ ok_is t s (unrefused t s a) r

  answer : next.answer ≡ kind_at t s r
  answer = ap (λ (z : Stepped). z.answer) told ∙ answer_is t s (unrefused t s a) r

  state : next.state ≡ stepped_of t s r
  state = ap (λ (z : Stepped). z.state) told ∙ state_is t s (unrefused t s a) r

  lines_are : step_lines t s (drop i rows) ≡ step_line r next.answer ++ cond (is_ok next.answer) (step_lines t next.state (drop (i + 1) rows)) []
  unfolding step_lines
  lines_are = rw (ok, answer, state) (ap (step_lines t s) (next_of rows i inside))

  pub lines_stop : (e : Refusal) → next.answer ≡ Err e → step_lines t s (drop i rows) ≡ refused_line e.number e.place ++ []
  unfolding step_line
  lines_stop e is = lines_are ∙ ap (λ z. step_line r z ++ cond (is_ok z) (step_lines t next.state (drop (i + 1) rows)) []) is

  pub lines_more : (k : StepKind) → next.answer ≡ Ok k → step_lines t s (drop i rows) ≡ step_line r (Ok k) ++ step_lines t next.state (drop (i + 1) rows)
  lines_more k is = lines_are ∙ ap (λ z. step_line r z ++ cond (is_ok z) (step_lines t next.state (drop (i + 1) rows)) []) is

  pub next_accepted : (k : StepKind) → next.answer ≡ Ok k → Accepted t next.state
  next_accepted k is = subst (Accepted t) (sym state) (stepped t s a r (sym ok ∙ ap is_ok is))

pub lines_end : (t : Table) (s : State) (rows : List ℕ) (i : ℕ) → length rows ≤ i → step_lines t s (drop i rows) ≡ end_lines t s
unfolding step_lines
lines_end t s rows i h = ap (step_lines t s) (drop_of_length-le rows h)
