-- WHAT A CALLER MAY RELY ON: from the answers, and from the contract of the call that gives them. Assumes nothing.
use Prim.Native.Nat.{ℕ, ◌<◌, ◌≤◌}
use mathlib.Core.Path.{◌≡◌, refl, sym, ◌∙◌, ap, subst}
use mathlib.Core.Logic.{by_cases, ◌↔◌}
use Rattle.std.specs.Prelude.{Result, Ok, Err}
use native.Mathlib.Omega.{arith}
use native.Mathlib.Decide.{dec_lt, ℕ_discrete}
use borrow.Fn.World.{ArgsD, ResD}
use borrow.Fn.Kinds.{ended_of}
use contract.Lifetimes.{Lfts}
use denote.Triple.Clauses.{AtExit}
use Rattle.laws.specs.Checks.{checked}
use Rattle.laws.proofs.Checks.{checked_map}
use Rattle.conditions.specs.Conditions.{condition}
use Rattle.conditions.proofs.Numbers.{links_number}
use Rattle.steps.specs.Rows.{condition_of}
use Rattle.steps.specs.Verdict.{SheetPasses}
use Rattle.sheet.specs.Table.{Table, row_at, condition_row_at, eval_in, lent_table}
use Rattle.sheet.specs.declared.Refusal.{Refusal}
use Rattle.sheet.specs.Rules.{table_checks, refuse, no, as_refusal, refusal_of}
use Rattle.sheet.proofs.Accepted.{meets, well_formed, single_source}
use Rattle.failure.specs.Failure.{number_at, link_at}
use Rattle.state.specs.declared.State.{State}
use Rattle.moves.specs.Steps.{start_of}
use Rattle.moves.specs.Fits.{Fits}
use Rattle.moves.specs.Runs.{Demand3}
use Rattle.moves.proofs.Fits.{fresh_fits}
use Rattle.moves.proofs.Demand.{demand_3}
use Rattle.verdict.specs.declared.Verdict.{Verdict}
use Rattle.verdict.specs.declared.Verdict.TheVariants.{Pass, Fail}
use Rattle.verdict.specs.Verdict.{failing, verdict_of}
use Rattle.verdict.proofs.Joins.{verdict_pass}
use Rattle.verdict.proofs.Judged.{accepted_judged}
use Rattle.verdict.proofs.Exactly.{number_offends, none_smaller, none_lower, pass_exactly, fail_is_given, fail_is_join, fail_lowest_row, row_fails}
use Rattle.sheet_engine.specs.Answers.{verdict_answer, start_answer}
use Rattle.sheet_engine.specs.Values.{verdict_values, FailsAt}
use Rattle.sheet_engine.specs.contracts.give_verdict as give-verdict
use Rattle.sheet_engine.proofs.give_verdict.Reads as reads
use Rattle.sheet_engine.proofs.give_verdict.Kinds as kinds
use Rattle.sheet_engine.proofs.Calls.{verdict_given, start_refused, start_bad_mode, start_fresh}

-- the values of an answer
abbrev pub refusal_in : Result Verdict Refusal → ℕ
refusal_in a = (verdict_values a).refusal

abbrev pub place_in : Result Verdict Refusal → ℕ
place_in a = (verdict_values a).place

abbrev fails_in : Result Verdict Refusal → ℕ
fails_in a = (verdict_values a).fails

pub verdict_unrefused : (v : Verdict) → (refusal_in (Ok v) ≡ 0) × (place_in (Ok v) ≡ 0)
verdict_unrefused Pass = (refl, refl)
verdict_unrefused (Fail row number link) = (refl, refl)

module _ (t : Table) where
  -- the table is accepted
  abbrev pub Accepted : Type 0
  Accepted = (refusal_of t).number ≡ 0

  -- A REFUSAL IS ANSWERED exactly as the table's, number and place; 0 and 0 where it is accepted.
  pub refusal_answered : ((verdict_values (verdict_answer t)).refusal ≡ (refusal_of t).number) × ((verdict_values (verdict_answer t)).place ≡ (refusal_of t).place)
  unfolding verdict_answer refusal_of
  refusal_answered =
      let (n, p) = verdict_unrefused (verdict_of t) in (
        checked_map refusal_in no (Ok (verdict_of t)) (table_checks t) ∙ (ap (λ (x : ℕ). checked (λ n p. n) x (table_checks t)) n ∙ sym (checked_map (λ (r : Refusal). r.number) refuse (refuse 0 0) (table_checks t))),
        checked_map place_in no (Ok (verdict_of t)) (table_checks t) ∙ (ap (λ (x : ℕ). checked (λ n p. p) x (table_checks t)) p ∙ sym (checked_map (λ (r : Refusal). r.place) refuse (refuse 0 0) (table_checks t))),
      )

  told_accepted : (a : Result Verdict Refusal) → verdict_answer t ≡ a → refusal_in a ≡ 0 → Accepted
  told_accepted a v z = sym refusal_answered.0 ∙ (ap refusal_in v ∙ z)

  -- PASS IS ANSWERED exactly if the table is accepted and the condition of every JOIN row meets R's condition (2).
  pub pass_answered : (verdict_answer t ≡ Ok Pass) ↔ (Accepted × SheetPasses (eval_in t) (row_at t.terms) t.n)
  pass_answered = (
    (λ v.
        let e = told_accepted (Ok Pass) v refl in
        (e, (pass_exactly t (accepted_judged t e)).0 (let k : Ok (verdict_of t) ≡ Ok Pass = verdict_given t (refusal_of t) refl e (verdict_of t) refl ∙ v in cc))),
    (λ (e, s). sym (verdict_given t (refusal_of t) refl e Pass (sym ((pass_exactly t (accepted_judged t e)).1 s)))),
  )

  -- DEMAND 3 for a table whose verdict is answered as pass
  pub pass_demand_3 : verdict_answer t ≡ Ok Pass → Demand3 t
  pass_demand_3 v =
      let (e, s) = pass_answered.0 v in
      let g = meets t e in
      demand_3 t (well_formed t g) (single_source t g) s

  -- FAIL IS ANSWERED exactly if the table is accepted and the condition of some JOIN row does not meet (2) ...
  fail_at_law : Accepted → failing t < t.n → verdict_answer t ≡ Ok (Fail (failing t) (number_at t.evaluation t.m t.conditions (condition_of (row_at t.terms (failing t)))) (link_at t.evaluation t.m t.conditions (condition_of (row_at t.terms (failing t)))))
  fail_at_law e h = sym (verdict_given t (refusal_of t) refl e _ (sym (fail_is_given t (accepted_judged t e) h)))

  pub fail_answered : ((j : ℕ) × (x : ℕ) × (l : ℕ) × (verdict_answer t ≡ Ok (Fail j x l))) ↔ (Accepted × (SheetPasses (eval_in t) (row_at t.terms) t.n → ⊥))
  fail_answered = (
    (λ (j, x, l, v).
        let e = told_accepted (Ok (Fail j x l)) v refl in
        (e, (λ s. let z : ◌≡◌ {A = ℕ} 0 1 = ap fails_in (sym (pass_answered.1 (e, s)) ∙ v) in omega arith))),
    (λ (e, h). by_cases (dec_lt (failing t) t.n) (λ g. (failing t, _, _, fail_at_law e g)) (λ g. absurd (h ((pass_exactly t (accepted_judged t e)).0 (sym (verdict_pass t (failing t) (omega arith) refl)))))),
  )

  -- ... and then row, number and link are those that document 01 names
  pub fail_values : (j x l : ℕ) → verdict_answer t ≡ Ok (Fail j x l) → FailsAt t j x l
  fail_values j x l v =
      let (e, h) = fail_answered.0 (j, x, l, v) in
      let g = accepted_judged t e in
      by_cases (dec_lt (failing t) t.n)
      (λ b.
      let (d, is) = fail_is_join t g b in
      subst (λ (a : Result Verdict Refusal). FailsAt t (verdict_values a).row (verdict_values a).number (verdict_values a).link) (sym (fail_at_law e b) ∙ v) record {
        condition = condition_of (row_at t.terms (failing t));
        child = d;
        inside = b;
        row_is_join = is;
        lower_rows_pass = fail_lowest_row t g b;
        sum = links_number t.m (condition (condition_row_at t.conditions) (condition_of (row_at t.terms (failing t)))) _ (number_offends t _ (row_fails t g b)).small;
        offends = number_offends t _ (row_fails t g b);
        smallest = none_smaller t _;
        lowest = none_lower t _;
      })
      (λ b. absurd (h ((pass_exactly t g).0 (sym (verdict_pass t (failing t) (omega arith) refl)))))

  module _ (mode : ℕ) where
    refused_first : {r : Refusal} → Err r ≡ start_answer t mode → (as_refusal (start_answer t mode)).number ≡ r.number
    refused_first e = ap (λ (a : Result State Refusal). (as_refusal a).number) (sym e)

    start_accepted : (as_refusal (start_answer t mode)).number ≡ 0 → Accepted
    start_accepted s =
        by_cases (ℕ_discrete (refusal_of t).number 0) (λ e. e)
        (λ h. absurd (h (sym (refused_first (start_refused t (refusal_of t) refl mode h)) ∙ s)))

    start_in_mode : (as_refusal (start_answer t mode)).number ≡ 0 → mode ≤ 1
    start_in_mode s =
        by_cases (dec_lt 1 mode)
        (λ h. absurd (let z : 9 ≡ 0 = sym (refused_first (start_bad_mode t (refusal_of t) refl mode (start_accepted s) h)) ∙ s in omega arith))
        (λ h. omega arith)

    -- A SHEET IS STARTED exactly if the table is accepted and the mode is 0 or 1 ...
    pub start_answered : ((as_refusal (start_answer t mode)).number ≡ 0) ↔ (Accepted × (mode ≤ 1))
    start_answered = (
      (λ s. (start_accepted s, start_in_mode s)),
      (λ (e, h). ap (λ (a : Result State Refusal). (as_refusal a).number) (sym (start_fresh t (refusal_of t) refl mode e h (start_of t mode) refl))),
    )

    -- ... and then the state is fresh, and fits
    pub start_is_fresh : (as_refusal (start_answer t mode)).number ≡ 0 → start_answer t mode ≡ Ok (start_of t mode)
    start_is_fresh s = sym (start_fresh t (refusal_of t) refl mode (start_accepted s) (start_in_mode s) (start_of t mode) refl)

    pub start_fits : (z : State) → start_answer t mode ≡ Ok z → Fits t z
    start_fits z e =
        let k : Ok (start_of t mode) ≡ Ok z = sym (start_is_fresh (ap (λ (a : Result State Refusal). (as_refusal a).number) e)) ∙ e in
        let is : start_of t mode ≡ z = cc in
        subst (Fits t) is (fresh_fits t mode)

-- WHATEVER `give_verdict` RETURNS: if it is pass, demand 3 holds of the table in the caller's bytes.
pub returned_pass_demand_3 : (κs : Lfts 2) (a : ArgsD give-verdict.signature κs) (z : AtExit (ended_of 2 kinds.ps kinds.r) κs) (r : ResD give-verdict.signature κs) → reads.Post κs a r z → r ≡ Ok Pass → Demand3 (lent_table a.0.now)
returned_pass_demand_3 κs a z r told e = pass_demand_3 _ (sym told ∙ e)
