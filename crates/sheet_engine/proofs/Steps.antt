-- The answers of the calls with a table and a state, from what the judge, the fit and the engine say. Assumes nothing.
use Rattle.std.specs.Result.{is_ok}
use Prim.Native.Nat.{ℕ, ◌<◌, ◌≤◌}
use mathlib.Core.Path.{◌≡◌, refl, sym, ◌∙◌, ap}
use mathlib.Core.Bool.{Bool, true, false, cond, not, true≢false}
use mathlib.Core.List.{List, [], ◌∷◌, ◌++◌}
use mathlib.Core.Option.{Option, none, some}
use Rattle.std.specs.Prelude.{Result, Ok, Err}
use mathlib.Core.Logic.{⊎_elim, by_cases}
use native.Mathlib.Omega.{arith}
use native.Mathlib.Decide.{ℕ_discrete}
use lib.Dec.{eqb, ltb}
use lib.ListN.{length}
use borrow.Author.Tests.{le-leb, lt-leb}
use Rattle.laws.specs.Checks.{Check, place_of, checked}
use Rattle.laws.specs.Listed.{written}
use Rattle.laws.proofs.Listed.{written_short}
use Rattle.laws.proofs.Tests.{cases, and_r}
use Rattle.laws.proofs.Checks.{checked_append}
use Rattle.calculus.specs.Places.{Turn}
use Rattle.sheet.specs.declared.Refusal.{Refusal}
use Rattle.sheet.specs.Table.{Table}
use Rattle.sheet.specs.Rules.{table_checks, refuse, no, judged, refusal_of}
use Rattle.sheet.specs.Sheet.{room}
use Rattle.sheet.specs.Accepted.{WellFormed}
use Rattle.sheet.proofs.Accepted.{meets, well_formed}
use Rattle.sheet.proofs.Refusals.{told_refused, told_accepted, judged_refused, judged_accepted, without, refused_by, accepted_by, table_refused_first, table_accepted_first, one_place_fails, one_place_holds}
use Rattle.state.specs.declared.State.{State}
use Rattle.state.specs.State.{restart_of}
use Rattle.moves.specs.Steps.{Kind, nodes, turn_at, kind_turned, kind_at, is_some, has_step, listed_of, stepped_of}
use Rattle.moves.specs.Standing.{waiting_of, awaits_of}
use Rattle.moves.specs.Fits.{mode_check, fit_checks}
use Rattle.moves.proofs.Standing.{awaits_length}
use Rattle.compacted.specs.Compacted.{compacted_sheet, restarted}
use Rattle.compacted.proofs.Compacted.{restarted_is}
use Rattle.fitting.specs.Checks.{state_checks}
use Rattle.fitting.proofs.Fitted.{state_checks_law, fits_accepted}
use Rattle.engine.specs.declared.Stepped.{Stepped}
use Rattle.engine.specs.ByValue.{taken_answer}
use Rattle.engine.proofs.Known.{refused_step, answer_refused}
use Rattle.sheet_engine.specs.declared.Compacted.{Compacted}
use Rattle.sheet_engine.specs.declared.Stands.{Stands}
use Rattle.sheet_engine.specs.Answers.{call_checks, list_answer, list_buffer, standing_of, standing_answer, standing_buffer, waits_answer, waits_buffer, kind_answer, not_taken, step_answer, not_compacted, was_compacted, compact_answer, compact_buffer}
use Rattle.sheet_engine.specs.Values.{row_check, row_checks, was_taken}

-- where none of two lists of checks fails, none of the first does
first_accepted : (cs ds : List Check) → without 0 cs ≡ true → (checked refuse (refuse 0 0) (cs ++ ds)).number ≡ 0 → (checked refuse (refuse 0 0) cs).number ≡ 0
unfolding checked without
first_accepted [] ds n e = refl
first_accepted (c ∷ cs) ds n e = at (ltb (place_of c) c.upto) (first_accepted cs ds (and_r (not (eqb c.number 0)) _ n)) e
  where
    at : (b : Bool) → ((checked refuse (refuse 0 0) (cs ++ ds)).number ≡ 0 → (checked refuse (refuse 0 0) cs).number ≡ 0) → (cond b (refuse c.number (place_of c)) (checked refuse (refuse 0 0) (cs ++ ds))).number ≡ 0 → (cond b (refuse c.number (place_of c)) (checked refuse (refuse 0 0) cs)).number ≡ 0
    at true ih e = e
    at false ih e = ih e

-- the table's refusal, or the state's
module _ (t : Table) (s : State) where
  pub table_first : (r : Refusal) → judged t ≡ Err r → Err r ≡ checked no (Ok (tt {0})) (call_checks t s)
  table_first r e = let d = judged_refused t r e in table_refused_first no (Ok tt) t (mode_check s.mode ∷ fit_checks t s) r d.0 d.1

  pub state_then : (u : Unit {0}) → judged t ≡ Ok u → (f : Result (Unit {0}) Refusal) → f ≡ checked no (Ok tt) (state_checks t.m t.n t.terms s) → f ≡ checked no (Ok tt) (call_checks t s)
  state_then u e f g = g ∙ ap (checked no (Ok tt)) (state_checks_law t s) ∙ table_accepted_first no (Ok tt) t (mode_check s.mode ∷ fit_checks t s) (refusal_of t) refl (judged_accepted t u e)

  pub call_refused : (r : Refusal) → checked no (Ok (tt {0})) (call_checks t s) ≡ Err r → (r ≡ checked refuse (refuse 0 0) (call_checks t s)) × (r.number ≡ 0 → ⊥)
  unfolding without
  call_refused r e = told_refused tt (call_checks t s) refl r e

  pub call_accepted : (u : Unit {0}) → checked no (Ok (tt {0})) (call_checks t s) ≡ Ok u → (checked refuse (refuse 0 0) (call_checks t s)).number ≡ 0
  call_accepted u e = told_accepted tt (call_checks t s) u e

-- ... told by number and place
module _ (t : Table) (s : State) where
  pub refusal_first : ((refusal_of t).number ≡ 0 → ⊥) → refuse (refusal_of t).number (refusal_of t).place ≡ checked refuse (refuse 0 0) (call_checks t s)
  refusal_first h = table_refused_first refuse (refuse 0 0) t (mode_check s.mode ∷ fit_checks t s) (refusal_of t) refl h

  pub refusal_then : (refusal_of t).number ≡ 0 → checked refuse (refuse 0 0) (state_checks t.m t.n t.terms s) ≡ checked refuse (refuse 0 0) (call_checks t s)
  refusal_then e = ap (checked refuse (refuse 0 0)) (state_checks_law t s) ∙ table_accepted_first refuse (refuse 0 0) t (mode_check s.mode ∷ fit_checks t s) (refusal_of t) refl e

-- what the call's refusal gives
module _ (t : Table) (s : State) (r : Refusal) (told : r ≡ checked refuse (refuse 0 0) (call_checks t s)) where
  pub refused_call : {A : Type 0} (answer : ℕ → ℕ → A) (good : A) → (r.number ≡ 0 → ⊥) → answer r.number r.place ≡ checked answer good (call_checks t s)
  unfolding without
  refused_call answer good h = rw told (refused_by answer good (call_checks t s) refl (λ e. h (rw told e)))

  pub accepted_call : {A : Type 0} (answer : ℕ → ℕ → A) (good : A) → r.number ≡ 0 → good ≡ checked answer good (call_checks t s)
  unfolding without
  accepted_call answer good e = accepted_by answer good (call_checks t s) refl (rw told at e)

  pub kind_refused : (row : ℕ) → (r.number ≡ 0 → ⊥) → Err r ≡ kind_answer t s row
  unfolding kind_answer
  kind_refused row h = refused_call no (kind_at t s row) h

  pub kind_given : (row : ℕ) (k : Kind) → r.number ≡ 0 → k ≡ kind_at t s row → k ≡ kind_answer t s row
  unfolding kind_answer
  kind_given row k e f = f ∙ accepted_call no (kind_at t s row) e

  pub step_refused_law : (row : ℕ) → (r.number ≡ 0 → ⊥) → not_taken s r.number r.place ≡ step_answer t s row
  unfolding step_answer
  step_refused_law row h = refused_call (not_taken s) (taken_answer t s row) h

  pub step_given : (row : ℕ) (k : Stepped) → r.number ≡ 0 → k ≡ taken_answer t s row → k ≡ step_answer t s row
  unfolding step_answer
  step_given row k e f = f ∙ accepted_call (not_taken s) (taken_answer t s row) e

  after : {A : Type 0} (answer : ℕ → ℕ → A) (good : A) (c : Check) → r.number ≡ 0 → checked answer good (c ∷ []) ≡ checked answer good (call_checks t s ++ (c ∷ []))
  after answer good c e = accepted_call answer (checked answer good (c ∷ [])) e ∙ sym (checked_append answer good (call_checks t s) (c ∷ []))

  -- rows to a lent buffer: an answer, and the buffer after
  module _ (xs lent : List ℕ) {A : Type 0} (answer : ℕ → ℕ → A) (good : A) where
    abbrev last : Check
    last = room (length xs) (length lent)

    abbrev Told : A → List ℕ → Type 0
    Told a out = (a ≡ checked answer good (call_checks t s ++ (last ∷ []))) × (out ≡ checked (λ number place. lent) (written xs lent) (call_checks t s ++ (last ∷ [])))

    rows_refused : (r.number ≡ 0 → ⊥) → Told (answer r.number r.place) lent
    rows_refused h = (
      refused_call answer (checked answer good (last ∷ [])) h ∙ sym (checked_append answer good (call_checks t s) (last ∷ [])),
      refused_call (λ number place. lent) (checked (λ number place. lent) (written xs lent) (last ∷ [])) h ∙ sym (checked_append (λ number place. lent) (written xs lent) (call_checks t s) (last ∷ [])),
    )

    module _ (e : r.number ≡ 0) (out : List ℕ) (g : out ≡ written xs lent) where
      rows_short : length lent < length xs → Told (answer 12 (length xs)) out
      rows_short h = (
        one_place_fails answer good last [] (omega arith) (lt-leb (length xs) (length lent) h) ∙ after answer good last e,
        g ∙ (sym (written_short xs lent h) ∙ (one_place_fails (λ number place. lent) (written xs lent) last [] (omega arith) (lt-leb (length xs) (length lent) h) ∙ after (λ number place. lent) (written xs lent) last e)),
      )

      rows_given : length xs ≤ length lent → Told good out
      unfolding checked
      rows_given h = (
        one_place_holds answer good last [] refl (le-leb (length xs) (length lent) h) ∙ after answer good last e,
        g ∙ (one_place_holds (λ number place. lent) (written xs lent) last [] refl (le-leb (length xs) (length lent) h) ∙ after (λ number place. lent) (written xs lent) last e),
      )

  -- ... and their number is the answer
  module _ (xs lent : List ℕ) where
    abbrev Sizes : Result ℕ Refusal → List ℕ → Type 0
    Sizes = Told xs lent no (Ok (length xs))

    size_refused : (r.number ≡ 0 → ⊥) → Sizes (Err r) lent
    size_refused h = rows_refused xs lent no (Ok (length xs)) h

    module _ (out : List ℕ) (n : ℕ) (e : r.number ≡ 0) (f : n ≡ length xs) (g : out ≡ written xs lent) where
      size_short : length lent < n → Sizes (no 12 n) out
      size_short h = rw f (rows_short xs lent no (Ok (length xs)) e out g (omega arith))

      size_given : n ≤ length lent → Sizes (Ok n) out
      size_given h = rw f (rows_given xs lent no (Ok (length xs)) e out g (omega arith))

  -- listing
  abbrev Lists : List ℕ → Result ℕ Refusal → List ℕ → Type 0
  Lists lent a out = (a ≡ list_answer t s (length lent)) × (out ≡ list_buffer t s lent)

  pub list_refused : (lent : List ℕ) → (r.number ≡ 0 → ⊥) → Lists lent (Err r) lent
  unfolding list_answer list_buffer
  list_refused lent h = size_refused (listed_of t s) lent h

  module _ (lent out : List ℕ) (n : ℕ) (e : r.number ≡ 0) (f : n ≡ length (listed_of t s)) (g : out ≡ written (listed_of t s) lent) where
    pub list_short : length lent < n → Lists lent (no 12 n) out
    unfolding list_answer list_buffer
    list_short h = size_short (listed_of t s) lent out n e f g h

    pub list_given : n ≤ length lent → Lists lent (Ok n) out
    unfolding list_answer list_buffer
    list_given h = size_given (listed_of t s) lent out n e f g h

  -- standing
  abbrev Standing : List ℕ → Result Stands Refusal → List ℕ → Type 0
  Standing lent a out = (a ≡ standing_answer t s (length lent)) × (out ≡ standing_buffer t s lent)

  pub stand_refused : (lent : List ℕ) → (r.number ≡ 0 → ⊥) → Standing lent (Err r) lent
  unfolding standing_answer standing_buffer
  stand_refused lent h = rows_refused (waiting_of t s) lent no (Ok (standing_of t s)) h

  module _ (lent out : List ℕ) (n : ℕ) (e : r.number ≡ 0) (f : n ≡ length (waiting_of t s)) (g : out ≡ written (waiting_of t s) lent) where
    pub stand_short : length lent < n → Standing lent (no 12 n) out
    unfolding standing_answer standing_buffer
    stand_short h = rw f (rows_short (waiting_of t s) lent no (Ok (standing_of t s)) e out g (omega arith))

    pub stand_given : n ≤ length lent → (a : Stands) → a ≡ standing_of t s → Standing lent (Ok a) out
    unfolding standing_answer standing_buffer
    stand_given h a q = rw q (rows_given (waiting_of t s) lent no (Ok (standing_of t s)) e out g (omega arith))

  -- what the rows wait for: a byte for each
  abbrev Tells : List ℕ → Result ℕ Refusal → List ℕ → Type 0
  Tells lent a out = (a ≡ waits_answer t s (length lent)) × (out ≡ waits_buffer t s lent)

  pub waits_refused : (lent : List ℕ) → (r.number ≡ 0 → ⊥) → Tells lent (Err r) lent
  unfolding waits_answer waits_buffer
  waits_refused lent h = rw (← awaits_length t s) (size_refused (awaits_of t s) lent h)

  module _ (lent out : List ℕ) (n : ℕ) (e : r.number ≡ 0) (f : n ≡ length (waiting_of t s)) (g : out ≡ written (awaits_of t s) lent) where
    pub waits_short : length lent < n → Tells lent (no 12 n) out
    unfolding waits_answer waits_buffer
    waits_short h = rw (← awaits_length t s) (size_short (awaits_of t s) lent out n e (f ∙ sym (awaits_length t s)) g h)

    pub waits_given : n ≤ length lent → Tells lent (Ok n) out
    unfolding waits_answer waits_buffer
    waits_given h = rw (← awaits_length t s) (size_given (awaits_of t s) lent out n e (f ∙ sym (awaits_length t s)) g h)

  -- compacting
  abbrev Compacts : List ℕ → Compacted → List ℕ → Type 0
  Compacts lent a out = (a ≡ compact_answer t s (length lent)) × (out ≡ compact_buffer t s lent)

  pub compact_refused : (lent : List ℕ) → (r.number ≡ 0 → ⊥) → Compacts lent (not_compacted s r.number r.place) lent
  unfolding compact_answer compact_buffer
  compact_refused lent h = rows_refused (compacted_sheet t s) lent (not_compacted s) (was_compacted t s) h

  module _ (lent out : List ℕ) (n : ℕ) (e : r.number ≡ 0) (f : n ≡ length (compacted_sheet t s)) (g : out ≡ written (compacted_sheet t s) lent) where
    pub compact_short : length lent < n → Compacts lent (not_compacted s 12 n) out
    unfolding compact_answer compact_buffer
    compact_short h = rw f (rows_short (compacted_sheet t s) lent (not_compacted s) (was_compacted t s) e out g (omega arith))

    pub compact_given : n ≤ length lent → (z : State) → z ≡ restarted t s → Compacts lent (record { answer = Ok n; state = z }) out
    unfolding compact_answer compact_buffer
    compact_given h z is = rw (f, is) (rows_given (compacted_sheet t s) lent (not_compacted s) (was_compacted t s) e out g (omega arith))

-- an accepted call's table is well formed
pub call_formed : (t : Table) (s : State) (r : Refusal) → r ≡ checked refuse (refuse 0 0) (call_checks t s) → r.number ≡ 0 → WellFormed t
unfolding refusal_of without
call_formed t s r told e = well_formed t (meets t (first_accepted (table_checks t) (mode_check s.mode ∷ fit_checks t s) refl (ap (λ (r : Refusal). r.number) (sym told) ∙ e)))

-- and its state, restarted, has the counts of the compacted table as it is
pub call_restarts : (t : Table) (s : State) (r : Refusal) → r ≡ checked refuse (refuse 0 0) (call_checks t s) → r.number ≡ 0 → restart_of s ≡ restarted t s
unfolding refusal_of without
call_restarts t s r told e =
    let e' : (checked refuse (refuse 0 0) (call_checks t s)).number ≡ 0 = ap (λ (r : Refusal). r.number) (sym told) ∙ e in
    let z : (refusal_of t).number ≡ 0 = first_accepted (table_checks t) (mode_check s.mode ∷ fit_checks t s) refl e' in
    let f : Refusal = checked refuse (refuse 0 0) (state_checks t.m t.n t.terms s) in
    let fits = (fits_accepted t s f refl (ap (λ (r : Refusal). r.number) (refusal_then t s z) ∙ e')).1 in
    sym (restarted_is t (well_formed t (meets t z)) s fits)

-- where no step was taken, the state is the one that was handed in
pub state_back : (t : Table) (s : State) (row : ℕ) → is_ok (step_answer t s row).answer ≡ false → (step_answer t s row).state ≡ s
unfolding taken_answer kind_at stepped_of
state_back t s row off =
    by_cases (ℕ_discrete (checked refuse (refuse 0 0) (call_checks t s)).number 0)
    (λ e.
    let k = step_given t s _ refl row (taken_answer t s row) e refl in
    ap (λ (r : Stepped). r.state) (sym k) ∙ sym (refused_step t s row (nodes t row) (turn_at t s row) (ap (λ (r : Stepped). is_ok r.answer) k ∙ off)))
    (λ h. sym (ap (λ (r : Stepped). r.state) (step_refused_law t s _ refl row h)))

-- THE STEP OF A ROW: 11 is the last check
module _ (t : Table) (s : State) (row : ℕ) where
  pub no_kind : has_step t s row ≡ false → kind_at t s row ≡ no 11 row
  unfolding has_step kind_at kind_turned
  no_kind e = at (turn_at t s row) e
    where
      at : (o : Option Turn) → is_some o ≡ false → kind_turned (nodes t row) row o ≡ no 11 row
      at none e = refl
      at (some u) e = absurd (true≢false e)

  pub kind_checked : kind_answer t s row ≡ checked no (kind_at t s row) (row_checks t s row)
  unfolding kind_answer checked
  kind_checked =
      ap (λ (k : Kind). checked no k (call_checks t s))
      (⊎_elim
      (λ e. one_place_holds no (kind_at t s row) (row_check t s row) [] refl e)
      (λ e. no_kind e ∙ one_place_fails no (kind_at t s row) (row_check t s row) [] (omega arith) e)
      (cases (has_step t s row)))
      ∙ sym (checked_append no (kind_at t s row) (call_checks t s) (row_check t s row ∷ []))

  pub step_checked : step_answer t s row ≡ checked (not_taken s) (was_taken t s row) (row_checks t s row)
  unfolding step_answer taken_answer checked
  step_checked =
      ap (λ (k : Stepped). checked (not_taken s) k (call_checks t s))
      (⊎_elim
      (λ e. one_place_holds (not_taken s) (was_taken t s row) (row_check t s row) [] refl e)
      (λ e. sym (answer_refused t s row _ (sym (no_kind e))) ∙ one_place_fails (not_taken s) (was_taken t s row) (row_check t s row) [] (omega arith) e)
      (cases (has_step t s row)))
      ∙ sym (checked_append (not_taken s) (was_taken t s row) (call_checks t s) (row_check t s row ∷ []))
