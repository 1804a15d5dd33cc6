-- THE VALUES OF AN ANSWER: number 0 exactly if every check holds, and then what was asked for; else number and place of the first check that fails, and 0 in all other places. Assumes nothing.
use Prim.Native.Nat.{ℕ, ◌<◌}
use mathlib.Core.Path.{◌≡◌, refl, sym, ◌∙◌, ap}
use mathlib.Core.Bool.{Bool, true, false, cond, true≢false}
use mathlib.Core.List.{List, [], ◌∷◌}
use mathlib.Core.Option.{Option, none, some}
use Rattle.std.specs.Prelude.{Result, Ok}
use mathlib.Core.Logic.{by_cases, ⊎_elim}
use native.Mathlib.Omega.{arith}
use native.Mathlib.Decide.{ℕ_discrete}
use lib.Dec.{eqb, ltb}
use lib.ListN.{length}
use borrow.Author.Tests.{ltb-true, eqb-true}
use Rattle.laws.specs.Tests.{bit}
use Rattle.laws.specs.Checks.{Check, checked, AllHold}
use Rattle.laws.proofs.Tests.{cases, cond_all, and_l, and_r}
use Rattle.laws.proofs.Checks.{checked_append, checked_map, unrefused, all_hold}
use Rattle.calculus.specs.Process.{Prefix, act, out, join, pick, flow}
use Rattle.calculus.specs.Status.{Value, Unset, False, True, Links}
use Rattle.calculus.specs.Places.{Turn, drops, Mode, cleans}
use Rattle.calculus.specs.Steps.{join_turn, turn_of}
use Rattle.conditions.specs.Numbers.{digit}
use Rattle.steps.specs.Rows.{Row, NIL, PREFIX, BRANCH}
use Rattle.steps.specs.InFront.{in_front}
use Rattle.sheet.specs.declared.Head.{Head}
use Rattle.sheet.specs.Table.{Table, row_by, row_at, eval_in}
use Rattle.sheet.specs.declared.Refusal.{Refusal}
use Rattle.sheet.specs.Rules.{term_rule, term_ok, refuse, refusal_of, no, judged, as_refusal, table_checks}
use Rattle.sheet.specs.Sheet.{size_of, head_of, sheet_checks}
use Rattle.sheet.proofs.Refusals.{without, judge_tells, refused_by, accepted_by, one_place_fails, one_place_holds}
use Rattle.codec.specs.Answers.{read_of, write_checks, write_of}
use Rattle.state.specs.declared.State.{State}
use Rattle.state.specs.declared.StepKind.TheVariants as kind
use Rattle.moves.specs.Steps.{mode_of, marks_of, links_of, nodes, turn_by, turn_at, kind_of, kind_by, kind_turned, kind_at, is_some, has_step, listed_of, start_of}
use Rattle.moves.specs.Standing.{waiting_of}
use Rattle.compacted.specs.Compacted.{compacted_sheet}
use Rattle.engine.specs.declared.Stepped.{Stepped}
use Rattle.engine.specs.ByValue.{taken_answer}
use Rattle.verdict.specs.Verdict.{verdict_of}
use Rattle.damage.specs.Damage.{shown_sheet}
use Rattle.sheet_engine.specs.declared.Compacted.{Compacted}
use Rattle.sheet_engine.specs.Answers.{verdict_answer, start_checks, start_answer, call_checks, list_checks, list_answer, standing_of, standing_checks, standing_answer, waits_answer, kind_answer, not_taken, step_answer, compact_checks, not_compacted, was_compacted, compact_answer, damage_checks, damage_answer}
use Rattle.sheet_engine.specs.Values.{VerdictValues, verdict_values, SheetValues, sheet_values, StartValues, start_values, SizeValues, size_values, StandingValues, standing_values, StepValues, step_values, shown_by, shown, row_check, row_checks, Answers}
use Rattle.sheet_engine.proofs.Promises.{verdict_unrefused}
use Rattle.sheet_engine.proofs.Steps.{no_kind}
use Rattle.sheet_engine.proofs.HowItStands.{stands_rows}

-- every check holds where none gives its number
pub all_held : (cs : List Check) → without 0 cs ≡ true → (checked refuse (refuse 0 0) cs).number ≡ 0 → AllHold cs
all_held cs n e = unrefused (λ n p. false) true cs (λ _ _ z. true≢false (accepted_by (λ n p. false) true cs n e ∙ z))

module _ {A : Type 0} (number : A → ℕ) (refused : ℕ → ℕ → A) (good : A) (told : (n p : ℕ) → number (refused n p) ≡ n) (zero : number good ≡ 0) (cs : List Check) (Some-number : without 0 cs ≡ true) where
  abbrev first : ℕ
  first = (checked refuse (refuse 0 0) cs).number

  none_fails : number (checked refused good cs) ≡ 0 → first ≡ 0
  none_fails e =
      by_cases (ℕ_discrete first 0) (λ z. z)
      (λ h. sym (told _ _) ∙ (ap number (refused_by refused good cs Some-number h) ∙ e))

  pub answers : Answers number refused good cs (checked refused good cs)
  answers = record {
    accepts = ((λ e. all_held cs Some-number (none_fails e)), λ h. ap number (all_hold refused good cs h) ∙ zero);
    given = λ e. sym (accepted_by refused good cs Some-number (none_fails e));
    refusal = λ h. sym (refused_by refused good cs Some-number (λ z. h (ap number (sym (accepted_by refused good cs Some-number z)) ∙ zero)));
  }

-- reading
pub read_answers : (s : List ℕ) → Answers (λ (v : SheetValues). v.refusal) (λ n p. sheet_values (no n p)) (sheet_values (Ok (head_of s))) (sheet_checks s) (sheet_values (read_of s))
unfolding read_of without
read_answers s = rw (checked_map sheet_values no (Ok (head_of s)) (sheet_checks s)) (answers _ _ _ (λ n p. refl) refl (sheet_checks s) refl)

-- judging
pub judge_answers : (t : Table) → Answers (λ (r : Refusal). r.number) refuse (refuse 0 0) (table_checks t) (as_refusal (judged t))
unfolding refusal_of without
judge_answers t = rw (judge_tells t) (answers _ _ _ (λ n p. refl) refl (table_checks t) refl)

-- starting
pub begin_answers : (t : Table) (mode : ℕ) → Answers (λ (v : StartValues). v.refusal) (λ n p. start_values (no n p)) (start_values (Ok (start_of t mode))) (start_checks t mode) (start_values (start_answer t mode))
unfolding start_answer without
begin_answers t mode = rw (checked_map start_values no (Ok (start_of t mode)) (start_checks t mode)) (answers _ _ _ (λ n p. refl) refl (start_checks t mode) refl)

-- writing, listing, what the rows wait for, compacting, showing the damage
abbrev SizeAnswers : ℕ → List Check → Result ℕ Refusal → Type 0
SizeAnswers n cs a = Answers (λ (v : SizeValues). v.refusal) (λ n p. size_values (no n p)) (size_values (Ok n)) cs (size_values a)

size_answers : (n : ℕ) (cs : List Check) → without 0 cs ≡ true → SizeAnswers n cs (checked no (Ok n) cs)
size_answers n cs Some-number = rw (checked_map size_values no (Ok n) cs) (answers _ _ _ (λ n p. refl) refl cs Some-number)

pub write_answers : (h : Head) (ts cs : List ℕ) (lent : ℕ) → SizeAnswers (size_of h) (write_checks h ts cs lent) (write_of h ts cs lent)
unfolding write_of without
write_answers h ts cs lent = size_answers (size_of h) (write_checks h ts cs lent) refl

pub list_answers : (t : Table) (s : State) (lent : ℕ) → SizeAnswers (length (listed_of t s)) (list_checks t s lent) (list_answer t s lent)
unfolding list_answer without
list_answers t s lent = size_answers (length (listed_of t s)) (list_checks t s lent) refl

pub waits_answers : (t : Table) (s : State) (lent : ℕ) → SizeAnswers (length (waiting_of t s)) (standing_checks t s lent) (waits_answer t s lent)
unfolding waits_answer without
waits_answers t s lent = size_answers (length (waiting_of t s)) (standing_checks t s lent) refl

pub compact_answers : (t : Table) (s : State) (lent : ℕ) → SizeAnswers (length (compacted_sheet t s)) (compact_checks t s lent) (compact_answer t s lent).answer
unfolding compact_answer without
compact_answers t s lent = rw (checked_map (λ (c : Compacted). c.answer) (not_compacted s) (was_compacted t s) (compact_checks t s lent)) (size_answers (length (compacted_sheet t s)) (compact_checks t s lent) refl)

pub damage_answers : (t : Table) (row lent : ℕ) → SizeAnswers (length (shown_sheet t row)) (damage_checks t row lent) (damage_answer t row lent)
unfolding damage_answer without
damage_answers t row lent = size_answers (length (shown_sheet t row)) (damage_checks t row lent) refl

pub verdict_answers : (t : Table) → Answers (λ (v : VerdictValues). v.refusal) (λ n p. verdict_values (no n p)) (verdict_values (Ok (verdict_of t))) (table_checks t) (verdict_values (verdict_answer t))
unfolding verdict_answer without
verdict_answers t = rw (checked_map verdict_values no (Ok (verdict_of t)) (table_checks t)) (answers _ _ _ (λ n p. refl) (verdict_unrefused (verdict_of t)).0 (table_checks t) refl)

pub standing_answers : (t : Table) (s : State) (lent : ℕ) → Answers (λ (v : StandingValues). v.refusal) (λ n p. standing_values (no n p)) (standing_values (Ok (standing_of t s))) (standing_checks t s lent) (standing_values (standing_answer t s lent))
unfolding standing_answer without
standing_answers t s lent = rw (checked_map standing_values no (Ok (standing_of t s)) (standing_checks t s lent)) (answers _ _ _ (λ n p. refl) (stands_rows t s).0 (standing_checks t s lent) refl)

-- a step: its values are the bytes of its row
abbrev step_refused : ℕ → ℕ → StepValues
step_refused number place = step_values (no number place)

out_value : (m n k row term a b c : ℕ) → term_rule m n k row term a b c ≡ true → term ≡ 2 → bit (eqb b 1) ≡ b
unfolding term_rule
out_value m n k row term a b c o e =
    let h : b < 2 = ltb-true b 2 (and_l _ _ (and_r (ltb a m) _ (rw e at o))) in
    by_cases (ℕ_discrete b 1) (λ z. rw z refl) (λ z. let y : b ≡ 0 = omega arith in rw y refl)

module _ (eval : ℕ → Links → Value) (m : Mode) (v : Links) (r : ℕ) where
  abbrev turn : Prefix → Option Turn
  turn π = turn_of eval m π v

  join_shown : (a c : ℕ) (x : Value) → is_some (join_turn m x) ≡ true → step_values (kind_turned (PREFIX (join a) c) r (join_turn m x)) ≡ cond (eqb (digit x) 2) (step_values (Ok kind.Open)) (step_values (Ok kind.Clean))
  unfolding join_turn kind_turned kind_by kind_of digit
  join_shown a c Unset e = absurd (true≢false (sym e))
  join_shown a c True e = refl
  join_shown a c False e = at (cleans m) e
    where
      at : (b : Bool) → is_some (cond b (some drops) none) ≡ true → step_values (kind_turned (PREFIX (join a) c) r (cond b (some drops) none)) ≡ step_values (Ok kind.Clean)
      at true e = refl
      at false e = absurd (true≢false (sym e))

  abbrev Shown : Row → StepValues → Type 0
  Shown N values = is_some (turn_by turn N) ≡ true → step_values (kind_turned N r (turn_by turn N)) ≡ values

  row_shown : (term a b c : ℕ) → (term ≡ 2 → bit (eqb b 1) ≡ b) → Shown (row_by term a b c) (shown_by term a b (digit (eval a v)))
  unfolding turn_by turn_of kind_turned kind_by kind_of row_by shown_by
  row_shown term a b c o = at (eqb term 0) (eqb term 1) (eqb term 2) (eqb term 3) (eqb term 4) (eqb term 5) (λ e. o (eqb-true term 2 e))
    where
      at : (t₀ t₁ t₂ t₃ t₄ t₅ : Bool) → (t₂ ≡ true → bit (eqb b 1) ≡ b) → Shown (cond t₀ NIL (cond t₁ (PREFIX (act a) b) (cond t₂ (PREFIX (out a (eqb b 1)) c) (cond t₃ (PREFIX (join a) b) (cond t₄ (BRANCH pick a b) (cond t₅ (BRANCH flow a b) NIL)))))) (cond t₁ (step_values (Ok (kind.Act a))) (cond t₂ (step_values (Ok (kind.Set a b))) (cond (eqb (digit (eval a v)) 2) (step_values (Ok kind.Open)) (step_values (Ok kind.Clean)))))
      at true t₁ t₂ t₃ t₄ t₅ o e = absurd (true≢false (sym e))
      at false true t₂ t₃ t₄ t₅ o e = refl
      at false false true t₃ t₄ t₅ o e = ap (λ (y : ℕ). step_values (Ok (kind.Set a y))) (o refl)
      at false false false true t₄ t₅ o e = join_shown a b (eval a v) e
      at false false false false true t₅ o e = absurd (true≢false (sym e))
      at false false false false false true o e = absurd (true≢false (sym e))
      at false false false false false false o e = absurd (true≢false (sym e))

shown_unrefused : (term a b value : ℕ) → (shown_by term a b value).refusal ≡ 0
unfolding shown_by
shown_unrefused term a b value = cond_all (λ (v : StepValues). v.refusal ≡ 0) (eqb term 1) refl (cond_all (λ (v : StepValues). v.refusal ≡ 0) (eqb term 2) refl (cond_all (λ (v : StepValues). v.refusal ≡ 0) (eqb value 2) refl refl))

module _ (t : Table) (s : State) (row : ℕ) where
  step_shown : AllHold (call_checks t s) → has_step t s row ≡ true → step_values (kind_at t s row) ≡ shown t s row
  unfolding AllHold has_step turn_at kind_at term_ok row_at in_front
  step_shown g e = at (in_front (nodes t) (marks_of s) t.n row) refl e
    where
      here : Prefix → Option Turn
      here = turn (eval_in t) (mode_of s.mode) (links_of s) row

      at : (b : Bool) → in_front (nodes t) (marks_of s) t.n row ≡ b → is_some (cond b (turn_by here (nodes t row)) none) ≡ true → step_values (kind_turned (nodes t row) row (cond b (turn_by here (nodes t row)) none)) ≡ shown t s row
      at true f e = row_shown (eval_in t) (mode_of s.mode) (links_of s) row _ _ _ _ (out_value _ _ _ _ _ _ _ _ (g.1.1.1.0 row (omega arith) (ltb-true row t.n (and_l _ _ (and_l _ _ f))))) e
      at false f e = absurd (true≢false (sym e))

  row_told : AllHold (call_checks t s) → step_values (kind_at t s row) ≡ checked step_refused (shown t s row) (row_check t s row ∷ [])
  unfolding checked
  row_told g =
      ⊎_elim
      (λ e. step_shown g e ∙ one_place_holds step_refused (shown t s row) (row_check t s row) [] refl e)
      (λ e. ap step_values (no_kind t s row e) ∙ one_place_fails step_refused (shown t s row) (row_check t s row) [] (omega arith) e)
      (cases (has_step t s row))

  kind_told : step_values (kind_answer t s row) ≡ checked step_refused (shown t s row) (row_checks t s row)
  unfolding kind_answer without
  kind_told =
      checked_map step_values no (kind_at t s row) (call_checks t s)
      ∙ by_cases (ℕ_discrete (checked refuse (refuse 0 0) (call_checks t s)).number 0)
      (λ e. ap (λ (x : StepValues). checked step_refused x (call_checks t s)) (row_told (all_held (call_checks t s) refl e)))
      (λ h. sym (refused_by step_refused _ (call_checks t s) refl h) ∙ refused_by step_refused _ (call_checks t s) refl h)
      ∙ sym (checked_append step_refused (shown t s row) (call_checks t s) (row_check t s row ∷ []))

  pub kind_answers : Answers (λ (v : StepValues). v.refusal) step_refused (shown t s row) (row_checks t s row) (step_values (kind_answer t s row))
  unfolding without
  kind_answers = rw kind_told (answers (λ (v : StepValues). v.refusal) step_refused (shown t s row) (λ n p. refl) (shown_unrefused _ _ _ _) (row_checks t s row) refl)

  -- taking a step answers as asking for its kind
  pub step_answers : Answers (λ (v : StepValues). v.refusal) step_refused (shown t s row) (row_checks t s row) (step_values (step_answer t s row).answer)
  unfolding step_answer kind_answer taken_answer
  step_answers = rw (checked_map (λ (r : Stepped). r.answer) (not_taken s) (taken_answer t s row) (call_checks t s)) kind_answers
