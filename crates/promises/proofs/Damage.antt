-- DOCUMENT 02, REQUEST 9: the small sheet that `damage_sheet` hands out is accepted, activities 1, 2 in that order can run on it with cleaning, and no plain run has them; and 15 is given exactly where the request says. Assumes nothing.
use Rattle.std.specs.Prelude.{Result, Ok}
use Prim.Native.Nat.{ℕ, ◌<◌, ◌≤◌}
use mathlib.Core.Path.{◌≡◌, refl, sym, ◌∙◌, ap, ap₂, subst}
use mathlib.Core.Bool.{true, false}
use mathlib.Core.List.{List, [], ◌∷◌}
use mathlib.Core.Logic.{◌⊎◌, inl, inr, ⊎_elim, ◌↔◌}
use native.Mathlib.Omega.{arith}
use lib.Dec.{ltb}
use lib.ListN.{length, take}
use lib.Seq.{take_at}
use borrow.Author.Tests.{lt-ltb, le-leb, ltb-true, leb-true}
use Rattle.laws.specs.Checks.{Check, checked, AllHold}
use Rattle.laws.specs.Listed.{written}
use Rattle.laws.proofs.Checks.{all_hold, in_two}
use Rattle.laws.proofs.Listed.{written_fits}
use Rattle.laws.proofs.Tests.{and_l, and_r, refuted, not_both}
use Rattle.calculus.specs.Process.{join}
use Rattle.calculus.specs.Order.{Condition2}
use Rattle.conditions.specs.Conditions.{condition}
use Rattle.conditions.specs.Numbers.{Offends}
use Rattle.conditions.proofs.Failure.{condition_fails}
use Rattle.steps.specs.Rows.{PREFIX, is_join_prefix, is_join, condition_of_prefix, condition_of}
use Rattle.steps.proofs.Rows.{join_of}
use Rattle.sheet.specs.declared.Refusal.{Refusal}
use Rattle.sheet.specs.Table.{Table, table_of, row_at, condition_row_at, evaluation_of, lazy_of, is_compacted, eval_in}
use Rattle.sheet.specs.Rules.{table_checks, refuse, refusal_of, no}
use Rattle.sheet.specs.Sheet.{table_in, room}
use Rattle.sheet.proofs.Refusals.{without}
use Rattle.sheet.proofs.Accepted.{meets}
use Rattle.sheet.proofs.Beyond.{meets_accepted}
use Rattle.codec.specs.Answers.{read_of}
use Rattle.codec.proofs.RoundTrip.{head_back, terms_back, conditions_back, read_of_sheet}
use Rattle.failure.specs.Failure.{fails_at, number_at}
use Rattle.verdict.specs.Verdict.{fails_in}
use Rattle.verdict.proofs.Judged.{accepted_judged}
use Rattle.verdict.proofs.Exactly.{number_offends, none_smaller, none_lower}
use Rattle.layout.specs.InOrder.{in_order}
use Rattle.damage.specs.Damage.{its_links, named, rank, damage_process, damage_conditions, damage_head, damage_sheet, condition_at, shown_table, shown_sheet, showable, show_check, show_checks}
use Rattle.damage.specs.Activities.{activities_of}
use Rattle.damage.proofs.Kept.{as_judged, damage_whole, same_value}
use Rattle.damage.proofs.Damage.{shown_inside, shown_meets, runs_with_cleaning, never_plain}
use Rattle.sheet_engine.specs.Answers.{damage_checks, damage_answer, damage_buffer}
use Rattle.sheet_engine.specs.Values.{SizeValues, size_values}
use Rattle.sheet_engine.proofs.Values.{all_held, damage_answers}
use Rattle.promises.specs.Calls.{count_of, fresh_in, Run, taken}
use Rattle.promises.specs.Damage.{sheet_shown, table_shown, ShownFor}
use Rattle.promises.proofs.Refused.{place_fails, first_fails, refused_there, values_told}
use Rattle.promises.proofs.Fresh.{begun, run_of}

-- "the row asked for is" a "JOIN whose condition fails": exactly where the rule of 15 says so
module _ (t : Table) (row : ℕ) (accepted : (refusal_of t).number ≡ 0) where
  fails_exactly : (q d : ℕ) → row < t.n → row_at t.terms row ≡ PREFIX (join q) d → (fails_in t q ≡ true) ↔ (Condition2 (eval_in t q) → ⊥)
  unfolding fails_at
  fails_exactly q d h is = let g = accepted_judged t accepted in condition_fails (evaluation_of t.evaluation) t.m (condition (condition_row_at t.conditions) q) (λ l r. g.link_below_m q l (g.join_below_k row q d h is) r)

  pub shown_exactly : (showable t row ≡ true) ↔ ShownFor t row
  unfolding showable is_join is_join_prefix condition_of condition_of_prefix
  shown_exactly = (
    λ e.
        let h = ltb-true _ _ (and_l (ltb row t.n) _ e) in
        let rest = and_r (ltb row t.n) _ e in
        let (d, is) = join_of (row_at t.terms row) (and_l _ _ rest) in
        let ends = and_r (is_join (row_at t.terms row)) _ rest in
        record {
          condition = condition_at t row;
          child = d;
          inside = h;
          row_is_join = is;
          fails = (fails_exactly (condition_at t row) d h is).0 (and_l _ _ ends);
          few_conditions = leb-true _ _ (and_r (fails_in t (condition_at t row)) _ ends);
        },
    λ w. rw (w.row_is_join, lt-ltb _ _ w.inside, (fails_exactly w.condition w.child w.inside w.row_is_join).1 w.fails) (le-leb _ _ w.few_conditions),
  )

-- "Refusals: 15 where the row asked for is no JOIN whose condition fails, or the new sheet would have more than 256 condition rows, place that row": given exactly there, by the number and values of the answer
pub damage_sheet_15 : (t : Table) (row lent place : ℕ) → (((size_values (damage_answer t row lent)).refusal ≡ 15) × ((size_values (damage_answer t row lent)).place ≡ place)) ↔ (((refusal_of t).number ≡ 0) × (place ≡ row) × (ShownFor t row → ⊥))
unfolding without refusal_of
damage_sheet_15 t row lent place = (
  λ given.
      let e = told.0 given in
      let (held, here, inside) = refused_there (table_checks t) (show_check t row) (twelve ∷ []) place (λ z. omega arith) refl refl e in
      let (low, breaks, _) = place_fails (show_check t row) place here inside in
      let same : place ≡ row = omega arith in
      let accepted = ap (λ (r : Refusal). r.number) (all_hold refuse (refuse 0 0) (table_checks t) held) in
      (accepted, same, λ w. not_both ((shown_exactly t row accepted).1 w) (rw same at breaks)),
  λ (accepted, same, none). told.1 (first_fails refuse (refuse 0 0) record {
    before = table_checks t;
    check = show_check t row;
    after = twelve ∷ [];
    order = refl;
    before_hold = all_held (table_checks t) refl accepted;
    its_number = refl;
    from = omega arith;
    inside = omega arith;
    breaks = rw same (refuted (showable t row) (λ e. none ((shown_exactly t row accepted).0 e)));
    lowest = λ p a b. absurd (omega arith);
  }),
)
  where
    twelve : Check
    twelve = room (length (shown_sheet t row)) lent

    told : (((size_values (damage_answer t row lent)).refusal ≡ 15) × ((size_values (damage_answer t row lent)).place ≡ place)) ↔ (checked refuse (refuse 0 0) (damage_checks t row lent) ≡ refuse 15 place)
    told = values_told (λ (v : SizeValues). v.refusal) (λ v. v.place) (damage_answers t row lent) (λ n p. (refl, refl)) 15 place (λ z. omega arith)

-- WHERE `damage_sheet` IS NOT REFUSED, of any table and row
module _ (t : Table) (row : ℕ) (lent : List ℕ) (answered : (size_values (damage_answer t row (length lent))).refusal ≡ 0) where
  all : AllHold (damage_checks t row (length lent))
  all = (damage_answers t row (length lent)).accepts.0 answered

  -- the table is accepted, and the row is a JOIN whose condition fails
  pub was_accepted : (refusal_of t).number ≡ 0
  unfolding refusal_of
  was_accepted = ap (λ (r : Refusal). r.number) (all_hold refuse (refuse 0 0) (table_checks t) (in_two (table_checks t) (show_checks t row (length lent)) all).0)

  last_two : AllHold (show_checks t row (length lent))
  last_two = (in_two (table_checks t) (show_checks t row (length lent)) all).1

  shows : showable t row ≡ true
  unfolding AllHold
  shows = last_two.0 row (omega arith) (omega arith)

  pub shown_for : ShownFor t row
  shown_for = (shown_exactly t row was_accepted).0 shows

  -- the number and the link by which the sheet is made are those of its condition, whichever row the verdict names: the smallest number that offends, and the lowest link
  abbrev c : ℕ
  c = condition_at t row

  pub its_failure :
      Offends (eval_in t c) (its_links t c) (number_at t.evaluation t.m t.conditions c) (named t c)
      × ((x l : ℕ) → Offends (eval_in t c) (its_links t c) x l → number_at t.evaluation t.m t.conditions c ≤ x)
      × ((l : ℕ) → Offends (eval_in t c) (its_links t c) (number_at t.evaluation t.m t.conditions c) l → named t c ≤ l)
  unfolding showable named
  its_failure = (number_offends t c (and_l _ _ (and_r (is_join (row_at t.terms row)) _ (and_r (ltb row t.n) _ shows))), none_smaller t c, none_lower t c)

  fits : length (shown_sheet t row) ≤ length lent
  unfolding AllHold
  fits = leb-true _ _ (last_two.1.0 (length (shown_sheet t row)) (omega arith) (omega arith))

  -- the small sheet: the bytes at the buffer's front
  pub sheet_shown_law : sheet_shown t row lent ≡ shown_sheet t row
  unfolding damage_answer damage_buffer
  sheet_shown_law =
      ap₂ (λ (a : Result ℕ Refusal) (out : List ℕ). take (count_of a) out)
      (all_hold no (Ok (length (shown_sheet t row))) (damage_checks t row (length lent)) all)
      (all_hold (λ number place. lent) (written (shown_sheet t row) lent) (damage_checks t row (length lent)) all ∙ sym (written_fits (shown_sheet t row) lent _ fits refl)) ∙
      take_at (shown_sheet t row) _ _ refl

  held : (refusal_of (shown_table t row)).number ≡ 0
  unfolding refusal_of
  held = ap (λ (r : Refusal). r.number) (meets_accepted refuse (refuse 0 0) (shown_table t row) (shown_meets t (meets t was_accepted) row shows))

  abbrev made : Table
  made = table_shown t row lent

  -- "Prove that the sheet is accepted": it is read, and its table is accepted
  pub sheet_read_law : read_of (sheet_shown t row lent) ≡ Ok (damage_head t c)
  unfolding damage_sheet
  sheet_read_law = ap read_of sheet_shown_law ∙ read_of_sheet (damage_head t c) (in_order 0 (damage_process t c)) (damage_conditions t c) held

  pub table_shown_law : made ≡ shown_table t row
  unfolding damage_sheet
  table_shown_law =
      let h = damage_head t c in
      let ts = in_order 0 (damage_process t c) in
      let cs = damage_conditions t c in
      ap table_in sheet_shown_law ∙ ((λ i. table_of (head_back h ts cs held i) (terms_back h ts cs held i) (conditions_back h ts cs held i)) ∙ damage_whole t c)

  pub made_accepted : (refusal_of made).number ≡ 0
  made_accepted = rw table_shown_law held

  -- it "waits on the same condition": at its new number it has the value that it had, at all links; "Evaluation is strict or lazy as in the sheet judged, never compacted"; "The link count stays"
  pub same_condition : eval_in made (rank t c c) ≡ eval_in t c
  same_condition = ap (λ (u : Table). eval_in u (rank t c c)) table_shown_law ∙ same_value t (meets t was_accepted) c (shown_inside t (meets t was_accepted) row shows)

  pub same_settings : (lazy_of made.evaluation ≡ lazy_of t.evaluation) × (is_compacted made.evaluation ≡ false) × (made.m ≡ t.m)
  same_settings = subst (λ (u : Table). (lazy_of u.evaluation ≡ lazy_of t.evaluation) × (is_compacted u.evaluation ≡ false) × (u.m ≡ t.m)) (sym table_shown_law) (as_judged t c)

  -- "that activities 1, 2 in that order can run with cleaning"
  pub with_cleaning : (H : Run made (fresh_in made 1)) × (activities_of (taken H) ≡ 1 ∷ 2 ∷ [])
  with_cleaning = subst (λ (u : Table). (H : Run u (fresh_in u 1)) × (activities_of (taken H) ≡ 1 ∷ 2 ∷ [])) (sym table_shown_law)
      (let (S, e) = runs_with_cleaning t (meets t was_accepted) row shows in
      let (H, a, _) = run_of (shown_table t row) held 1 (omega arith) S in
      (H, ap activities_of a ∙ e))

  -- "and that no plain run has them": it has none of the two, or 1
  pub no_plain_run : (G : Run made (fresh_in made 0)) → (activities_of (taken G) ≡ []) ⊎ (activities_of (taken G) ≡ 1 ∷ [])
  no_plain_run = subst (λ (u : Table). (G : Run u (fresh_in u 0)) → (activities_of (taken G) ≡ []) ⊎ (activities_of (taken G) ≡ 1 ∷ [])) (sym table_shown_law)
      (λ G.
      let (S, a, _) = begun (shown_table t row) held 0 (omega arith) G in
      ⊎_elim (λ e. inl (ap activities_of (sym a) ∙ e)) (λ e. inr (ap activities_of (sym a) ∙ e)) (never_plain t (meets t was_accepted) row shows S))
