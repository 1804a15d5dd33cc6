-- The calls with a table and a state, where nothing is refused, answer what `moves` defines; and a refused one lists and takes nothing. Assumes nothing.
use Rattle.std.specs.Result.{is_ok}
use Rattle.std.specs.Prelude.{Result, Ok}
use Prim.Native.Nat.{ℕ, ◌≤◌}
use mathlib.Core.Path.{◌≡◌, refl, sym, ◌∙◌, ap, ap₂, subst}
use mathlib.Core.Bool.{true, false, true≢false}
use mathlib.Core.Option.{some}
use mathlib.Core.List.Memᴰ
use mathlib.Core.List.{List, [], ◌∷◌, ◌++◌, Memᴰ}
use mathlib.Core.Logic.{◌⊎◌, inl, inr, by_cases, ◌↔◌}
use native.Mathlib.Omega.{arith}
use native.Mathlib.Decide.{ℕ_discrete}
use lib.ListN.{length, take, drop, replicate, length-replicate}
use lib.Seq.{take_at}
use Rattle.laws.specs.Checks.{checked}
use Rattle.laws.proofs.Listed.{listed_length, written_fits}
use Rattle.calculus.specs.Places.{Turn, takes, drops}
use Rattle.steps.specs.InFront.{waiting_steps}
use Rattle.sheet.specs.declared.Refusal.{Refusal}
use Rattle.sheet.specs.Table.{Table}
use Rattle.sheet.specs.Rules.{refuse, refusal_of}
use Rattle.sheet.specs.Accepted.{WellFormed, SingleSource}
use Rattle.sheet.proofs.Accepted.{meets, well_formed, single_source}
use Rattle.state.specs.declared.State.{State}
use Rattle.state.specs.declared.StepKind.TheVariants.{Clean}
use Rattle.moves.specs.Steps.{marks_of, Sized, nodes, turn_at, kind_turned, kind_at, has_step, listed_of, stepped_of, Kind}
use Rattle.moves.specs.Standing.{waiting_of, awaits_of}
use Rattle.moves.specs.Runs.{Taken}
use Rattle.moves.specs.Runs.{Run as Steps, done as ended, take as stepping, taken as steps_taken, last as last_state}
use Rattle.moves.proofs.Allowed.{listed_rows_law}
use Rattle.moves.proofs.Moves.{has_turn, takes_kind, step_kept}
use Rattle.moves.proofs.Fits.{fits_step}
use Rattle.moves.proofs.Standing.{waiting_few, awaits_length}
use Rattle.moves.proofs.Kept.{run_length}
use Rattle.fitting.specs.Checks.{state_checks}
use Rattle.fitting.proofs.Fitted.{fits_accepted, accepts_fitting}
use Rattle.engine.specs.declared.Stepped.{Stepped}
use Rattle.engine.specs.ByValue.{taken_answer}
use Rattle.engine.proofs.Known.{kind_step}
use Rattle.sheet_engine.specs.declared.Compacted.{Compacted}
use Rattle.sheet_engine.specs.declared.Stands.{Stands}
use Rattle.sheet_engine.specs.Answers.{list_answer, call_checks, list_buffer, standing_of, standing_answer, standing_buffer, waits_answer, waits_buffer, kind_answer, step_answer, compact_answer}
use Rattle.sheet_engine.specs.Values.{size_values, standing_values, step_values}
use Rattle.sheet_engine.proofs.Steps.{refusal_first, refusal_then, kind_refused, kind_given, step_refused_law, step_given, list_refused, list_given, stand_refused, stand_given, waits_refused, waits_given, compact_refused}
use Rattle.sheet_engine.proofs.HowItStands.{stands_rows}
use Rattle.promises.specs.Calls.{Accepted, count_of, listed_in, listed_rows, waiting_in, waiting_rows, awaited_in, awaited_bytes, Run, done, more, taken, last}

-- what acceptance of the table gives
pub formed : {t : Table} {s : State} → Accepted t s → WellFormed t
formed {t} a = well_formed t (meets t a.table)

pub one_source_law : {t : Table} {s : State} → Accepted t s → SingleSource t
one_source_law {t} a = single_source t (meets t a.table)

drops_kind : (t : Table) (s : State) (r : ℕ) → turn_at t s r ≡ some drops → kind_at t s r ≡ Ok Clean
unfolding kind_at kind_turned
drops_kind t s r q = rw q refl

module _ (t : Table) (s : State) where
  -- the refusal of a call with a table and a state
  abbrev pub refusal : Refusal
  refusal = checked refuse (refuse 0 0) (call_checks t s)

  abbrev of_state : Refusal
  of_state = checked refuse (refuse 0 0) (state_checks t.m t.n t.terms s)

  pub unrefused : Accepted t s → refusal.number ≡ 0
  unrefused a = ap (λ (r : Refusal). r.number) (sym (refusal_then t s a.table) ∙ accepts_fitting t s of_state refl a.mode a.fits)

  -- such a call is not refused
  module _ (e : refusal.number ≡ 0) where
    table_accepted : (refusal_of t).number ≡ 0
    table_accepted =
        by_cases (ℕ_discrete (refusal_of t).number 0) (λ z. z)
        (λ h. absurd (h (ap (λ (r : Refusal). r.number) (refusal_first t s h) ∙ e)))

    pub accepts : Sized s → Accepted t s
    accepts size =
        let z = table_accepted in
        let (m, f) = fits_accepted t s of_state refl (ap (λ (r : Refusal). r.number) (refusal_then t s z) ∙ e) in
        record { table = z; mode = m; fits = f; sized = size }

    pub kind_is : (r : ℕ) → kind_answer t s r ≡ kind_at t s r
    kind_is r = sym (kind_given t s refusal refl r (kind_at t s r) e refl)

    pub step_is : (r : ℕ) → step_answer t s r ≡ taken_answer t s r
    step_is r = sym (step_given t s refusal refl r (taken_answer t s r) e refl)

    pub list_answers : (lent : List ℕ) → length (listed_of t s) ≤ length lent → (list_answer t s (length lent) ≡ Ok (length (listed_of t s))) × (list_buffer t s lent ≡ listed_of t s ++ drop (length (listed_of t s)) lent)
    list_answers lent h =
        let (c, b) = list_given t s refusal refl lent (listed_of t s ++ drop (length (listed_of t s)) lent) (length (listed_of t s)) e refl (written_fits (listed_of t s) lent _ h refl) h in
        (sym c, sym b)

    -- "a step list needs one byte for each listed step and no more"
    pub listed_is : (lent : List ℕ) → length (listed_of t s) ≤ length lent → listed_in t s lent ≡ listed_of t s
    unfolding listed_in
    listed_is lent h = let (c, b) = list_answers lent h in ap₂ (λ (n : Result ℕ Refusal) (out : List ℕ). take (count_of n) out) c b ∙ take_at (listed_of t s) _ _ refl

    pub few_listed : length (listed_of t s) ≤ 256
    unfolding listed_of
    few_listed = omega (arith, listed_length (has_step t s) 0 t.n, (well_formed t (meets t table_accepted)).few_terms)

    pub rows_are : listed_rows t s ≡ listed_of t s
    rows_are = listed_is (replicate 256 0) few_listed

    -- how the state stands, and the rows that it waits for, one byte each and no more
    pub standing_is : (lent : List ℕ) → length (waiting_of t s) ≤ length lent → (standing_answer t s (length lent) ≡ Ok (standing_of t s)) × (standing_buffer t s lent ≡ waiting_of t s ++ drop (length (waiting_of t s)) lent)
    standing_is lent h =
        let (c, b) = stand_given t s refusal refl lent (waiting_of t s ++ drop (length (waiting_of t s)) lent) (length (waiting_of t s)) e refl (written_fits (waiting_of t s) lent _ h refl) h (standing_of t s) refl in
        (sym c, sym b)

    pub waiting_is : (lent : List ℕ) → length (waiting_of t s) ≤ length lent → waiting_in t s lent ≡ waiting_of t s
    unfolding waiting_in
    waiting_is lent h = let (c, b) = standing_is lent h in ap₂ (λ (a : Result Stands Refusal) (out : List ℕ). take (standing_values a).rows out) c b ∙ take_at (waiting_of t s) _ _ (sym (stands_rows t s).1)

    pub few_waiting : length (waiting_of t s) ≤ 256
    few_waiting = omega (arith, waiting_few t s, (well_formed t (meets t table_accepted)).few_terms)

    pub standing_any : (lent : ℕ) → length (waiting_of t s) ≤ lent → standing_answer t s lent ≡ Ok (standing_of t s)
    standing_any lent h = let l = length-replicate {A = ℕ} lent 0 in ap (standing_answer t s) (sym l) ∙ (standing_is (replicate lent 0) (omega (arith, h, l))).0

    pub waiting_are : waiting_rows t s ≡ waiting_of t s
    waiting_are = waiting_is (replicate 256 0) few_waiting

    -- what they wait for, one byte each and no more
    pub waits_is : (lent : List ℕ) → length (awaits_of t s) ≤ length lent → (waits_answer t s (length lent) ≡ Ok (length (awaits_of t s))) × (waits_buffer t s lent ≡ awaits_of t s ++ drop (length (awaits_of t s)) lent)
    waits_is lent h =
        let (c, b) = waits_given t s refusal refl lent (awaits_of t s ++ drop (length (awaits_of t s)) lent) (length (awaits_of t s)) e (awaits_length t s) (written_fits (awaits_of t s) lent _ h refl) h in
        (sym c, sym b)

    pub awaited_is : (lent : List ℕ) → length (awaits_of t s) ≤ length lent → awaited_in t s lent ≡ awaits_of t s
    unfolding awaited_in
    awaited_is lent h = let (c, b) = waits_is lent h in ap₂ (λ (n : Result ℕ Refusal) (out : List ℕ). take (count_of n) out) c b ∙ take_at (awaits_of t s) _ _ refl

    pub few_awaited : length (awaits_of t s) ≤ 256
    few_awaited = omega (arith, awaits_length t s, few_waiting)

    pub awaited_are : awaited_bytes t s ≡ awaits_of t s
    awaited_are = awaited_is (replicate 256 0) few_awaited

    pub row_listed : (r : ℕ) → Memᴰ r (listed_rows t s) ↔ (has_step t s r ≡ true)
    row_listed r = subst (λ (l : List ℕ). Memᴰ r l ↔ (has_step t s r ≡ true)) (sym rows_are) (listed_rows_law t s r)

    pub ok_is : (r : ℕ) → is_ok (step_answer t s r).answer ≡ has_step t s r
    unfolding taken_answer
    ok_is r = ap (λ (k : Stepped). is_ok k.answer) (step_is r) ∙ kind_step t s r

    pub answer_is : (r : ℕ) → (step_answer t s r).answer ≡ kind_at t s r
    unfolding taken_answer
    answer_is r = ap (λ (k : Stepped). k.answer) (step_is r)

    pub state_is : (r : ℕ) → (step_answer t s r).state ≡ stepped_of t s r
    unfolding taken_answer
    state_is r = ap (λ (k : Stepped). k.state) (step_is r)

    -- a listed step takes its row or drops it
    pub turned : (r : ℕ) → Memᴰ r (listed_rows t s) → ((turn_at t s r ≡ some takes) × (kind_answer t s r ≡ Ok Clean → ⊥)) ⊎ ((turn_at t s r ≡ some drops) × (kind_answer t s r ≡ Ok Clean))
    turned r m = let (u, q) = has_turn t s r ((row_listed r).0 m) in at u q
      where
        at : (u : Turn) → turn_at t s r ≡ some u → ((turn_at t s r ≡ some takes) × (kind_answer t s r ≡ Ok Clean → ⊥)) ⊎ ((turn_at t s r ≡ some drops) × (kind_answer t s r ≡ Ok Clean))
        at takes q = inl (q, λ z. takes_kind t s r q (sym (kind_is r) ∙ z))
        at drops q = inr (q, kind_is r ∙ drops_kind t s r q)

  -- a refused call lists and takes nothing
  module _ (h : refusal.number ≡ 0 → ⊥) where
    none_listed : (lent : List ℕ) → listed_in t s lent ≡ []
    unfolding listed_in
    none_listed lent = ap (λ (n : Result ℕ Refusal). take (count_of n) (list_buffer t s lent)) (sym (list_refused t s refusal refl lent h).0)

    none_waiting : (lent : List ℕ) → waiting_in t s lent ≡ []
    unfolding waiting_in
    none_waiting lent = ap (λ (a : Result Stands Refusal). take (standing_values a).rows (standing_buffer t s lent)) (sym (stand_refused t s refusal refl lent h).0)

    none_awaited : (lent : List ℕ) → awaited_in t s lent ≡ []
    unfolding awaited_in
    none_awaited lent = ap (λ (n : Result ℕ Refusal). take (count_of n) (waits_buffer t s lent)) (sym (waits_refused t s refusal refl lent h).0)

    none_taken : (r : ℕ) → is_ok (step_answer t s r).answer ≡ false
    none_taken r = ap (λ (k : Stepped). is_ok k.answer) (sym (step_refused_law t s refusal refl r h))

  -- so what is told of the rows that a caller reads, or of a step, is told of both
  module _ (read : List ℕ → List ℕ) (whole : List ℕ) (is : refusal.number ≡ 0 → (lent : List ℕ) → length whole ≤ length lent → read lent ≡ whole) (few : refusal.number ≡ 0 → length whole ≤ 256) (none : (refusal.number ≡ 0 → ⊥) → (lent : List ℕ) → read lent ≡ []) where
    read_in : (C : List ℕ → Type 0) (lent : List ℕ) → C [] → (refusal.number ≡ 0 → C (read lent)) → C (read lent)
    read_in C lent nothing answered = by_cases (ℕ_discrete refusal.number 0) answered (λ h. subst C (sym (none h lent)) nothing)

    read_any : (lent : List ℕ) → length (read (replicate 256 0)) ≤ length lent → read lent ≡ read (replicate 256 0)
    read_any lent room =
        by_cases (ℕ_discrete refusal.number 0)
        (λ e. let all = is e (replicate 256 0) (few e) in rw all (is e lent (rw all at room)))
        (λ h. none h lent ∙ sym (none h (replicate 256 0)))

  pub listed_in_law : (C : List ℕ → Type 0) (lent : List ℕ) → C [] → (refusal.number ≡ 0 → C (listed_in t s lent)) → C (listed_in t s lent)
  listed_in_law = read_in (listed_in t s) (listed_of t s) listed_is few_listed none_listed

  pub listed_any : (lent : List ℕ) → length (listed_rows t s) ≤ length lent → listed_in t s lent ≡ listed_rows t s
  listed_any = read_any (listed_in t s) (listed_of t s) listed_is few_listed none_listed

  pub waiting_in_law : (C : List ℕ → Type 0) (lent : List ℕ) → C [] → (refusal.number ≡ 0 → C (waiting_in t s lent)) → C (waiting_in t s lent)
  waiting_in_law = read_in (waiting_in t s) (waiting_of t s) waiting_is few_waiting none_waiting

  pub waiting_any : (lent : List ℕ) → length (waiting_rows t s) ≤ length lent → waiting_in t s lent ≡ waiting_rows t s
  waiting_any = read_any (waiting_in t s) (waiting_of t s) waiting_is few_waiting none_waiting

  pub awaited_any : (lent : List ℕ) → length (awaited_bytes t s) ≤ length lent → awaited_in t s lent ≡ awaited_bytes t s
  awaited_any = read_any (awaited_in t s) (awaits_of t s) awaited_is few_awaited none_awaited

  pub ok_listed : (r : ℕ) → (is_ok (step_answer t s r).answer ≡ true) ↔ Memᴰ r (listed_rows t s)
  ok_listed r =
      by_cases (ℕ_discrete refusal.number 0)
      (λ e. ((λ ok. (row_listed e r).1 (sym (ok_is e r) ∙ ok)), (λ m. ok_is e r ∙ (row_listed e r).0 m)))
      (λ h. ((λ ok. absurd (true≢false (sym ok ∙ none_taken h r))), (λ m. absurd (Memᴰ.not-nil (subst (Memᴰ r) (none_listed h (replicate 256 0)) m)))))

  -- of a state of the right size, an answer that is no refusal says that it is accepted
  module _ (size : Sized s) where
    told : (number : ℕ) → ((refusal.number ≡ 0 → ⊥) → refusal.number ≡ number) → number ≡ 0 → Accepted t s
    told number same z = by_cases (ℕ_discrete refusal.number 0) (λ e. accepts e size) (λ h. absurd (h (same h ∙ z)))

    pub list_unrefused : (lent : List ℕ) → (size_values (list_answer t s (length lent))).refusal ≡ 0 → Accepted t s
    list_unrefused lent = told _ (λ h. ap (λ (n : Result ℕ Refusal). (size_values n).refusal) (list_refused t s refusal refl lent h).0)

    pub standing_unrefused : (lent : List ℕ) → (standing_values (standing_answer t s (length lent))).refusal ≡ 0 → Accepted t s
    standing_unrefused lent = told _ (λ h. ap (λ (a : Result Stands Refusal). (standing_values a).refusal) (stand_refused t s refusal refl lent h).0)

    pub waits_unrefused : (lent : List ℕ) → (size_values (waits_answer t s (length lent))).refusal ≡ 0 → Accepted t s
    waits_unrefused lent = told _ (λ h. ap (λ (n : Result ℕ Refusal). (size_values n).refusal) (waits_refused t s refusal refl lent h).0)

    pub kind_unrefused : (r : ℕ) → (step_values (kind_answer t s r)).refusal ≡ 0 → Accepted t s
    kind_unrefused r = told _ (λ h. ap (λ (k : Kind). (step_values k).refusal) (kind_refused t s refusal refl r h))

    pub step_unrefused : (r : ℕ) → (step_values (step_answer t s r).answer).refusal ≡ 0 → Accepted t s
    step_unrefused r = told _ (λ h. ap (λ (k : Stepped). (step_values k.answer).refusal) (step_refused_law t s refusal refl r h))

    pub compact_unrefused : (lent : List ℕ) → (size_values (compact_answer t s (length lent)).answer).refusal ≡ 0 → Accepted t s
    compact_unrefused lent = told _ (λ h. ap (λ (c : Compacted). (size_values c.answer).refusal) (compact_refused t s refusal refl lent h).0)

  -- of an accepted state a list is answered where there is room for 256 rows, and the state after a step is one of the table
  module _ (a : Accepted t s) where
    pub accepted_listed : (lent : ℕ) → 256 ≤ lent → (size_values (list_answer t s lent)).refusal ≡ 0
    accepted_listed lent room =
        let e = unrefused a in
        let (c, _) = list_answers e (replicate lent 0) (omega (arith, few_listed e, room, length-replicate {A = ℕ} lent 0)) in
        ap (λ (n : Result ℕ Refusal). (size_values n).refusal) (ap (list_answer t s) (sym (length-replicate {A = ℕ} lent 0)) ∙ c)

    pub stepped : (r : ℕ) → has_step t s r ≡ true → Accepted t (stepped_of t s r)
    stepped r h =
        let (size, mode) = step_kept t (formed a) s a.sized r h in
        record { table = a.table; mode = subst (λ (m : ℕ). m ≤ 1) (sym mode) a.mode; fits = fits_step t (formed a) (one_source_law a) s a.sized r h a.fits; sized = size }

    pub taken_keeps : (r : ℕ) → is_ok (step_answer t s r).answer ≡ true → Accepted t (step_answer t s r).state
    taken_keeps r ok = subst (Accepted t) (sym (state_is (unrefused a) r)) (stepped r (sym (ok_is (unrefused a) r) ∙ ok))

-- A run of the calls is one of `moves`, with the same steps and the same state after it ...
pub to_steps : {t : Table} {s : State} → Accepted t s → (G : Run t s) → (R : Steps t s) × (steps_taken R ≡ taken G) × (last_state R ≡ last G)
unfolding taken last steps_taken last_state
to_steps a done = (ended, refl, refl)
to_steps {t} {s} a (more r m ok G) =
    let e = unrefused t s a in
    let (R, p, q) = subst (λ (z : State). (R : Steps t z) × (steps_taken R ≡ taken G) × (last_state R ≡ last G)) (state_is t s e r) (to_steps (taken_keeps t s a r ok) G) in
    (stepping r (sym (ok_is t s e r) ∙ ok) R, (λ i. record { row = r; kind = sym (answer_is t s e r) i } ∷ p i), q)

-- ... and the other way
pub from_steps : {t : Table} {s : State} → Accepted t s → (R : Steps t s) → (G : Run t s) × (taken G ≡ steps_taken R) × (last G ≡ last_state R)
unfolding taken last steps_taken last_state
from_steps a ended = (done, refl, refl)
from_steps {t} {s} a (stepping r h R) =
    let e = unrefused t s a in
    let (G, p, q) = subst (λ (z : State). (G : Run t z) × (taken G ≡ steps_taken R) × (last G ≡ last_state R)) (sym (state_is t s e r)) (from_steps (stepped t s a r h) R) in
    (more r ((row_listed t s e r).1 h) (ok_is t s e r ∙ h) G, (λ i. record { row = r; kind = answer_is t s e r i } ∷ p i), q)

-- a run leads to a state of the table
pub run_keeps : {t : Table} {s : State} → Accepted t s → (G : Run t s) → Accepted t (last G)
unfolding last
run_keeps a done = a
run_keeps {t} {s} a (more r m ok G) = run_keeps (taken_keeps t s a r ok) G

-- a run is no longer than its rows that wait
pub run_short : {t : Table} {s : State} → Accepted t s → (G : Run t s) → length (taken G) ≤ waiting_steps (nodes t) (marks_of s) t.n
run_short {t} {s} a G =
    let (R, p, _) = to_steps a G in
    subst (λ (l : List Taken). length l ≤ waiting_steps (nodes t) (marks_of s) t.n) p (run_length t (formed a) a.sized R)
