-- DOCUMENT 02, REQUEST 3: a join on a link nobody sets, over what the calls answer. "Demands 2 and 3 concern the sheets still accepted": they ask that a table is accepted, so they speak of those alone. Assumes nothing.
use Rattle.std.specs.Prelude.{Ok}
use Prim.Native.Nat.{ℕ, ◌<◌}
use mathlib.Core.Path.{◌≡◌, refl, sym, ◌∙◌, ap, ap₂}
use mathlib.Core.Bool.{true, false}
use mathlib.Core.List.{List, ◌∷◌, ◌++◌}
use mathlib.Core.Logic.Iff
use mathlib.Core.Logic.{◌↔◌}
use native.Mathlib.Omega.{arith}
use lib.ListN.{length}
use Rattle.laws.specs.Checks.{Check, Holds, checked, AllHold}
use Rattle.laws.proofs.Tests.{not_both, upheld}
use Rattle.laws.proofs.Checks.{checked_map, all_hold}
use Rattle.sheet.specs.declared.Head.{Head}
use Rattle.sheet.specs.declared.Refusal.{Refusal}
use Rattle.sheet.specs.Table.{Table, table_of}
use Rattle.sheet.specs.Rules.{sourced, from8, table_checks, refuse, no, as_refusal, refusal_of, judged}
use Rattle.sheet.specs.Accepted.{Sourced, UnsourcedJoin}
use Rattle.sheet.specs.Sheet.{sheet_size, contents, table_in}
use Rattle.sheet.proofs.Accepted.{meets, sourced_joins, all_sourced, row_unsourced}
use Rattle.sheet.proofs.Refusals.{without, judge_tells}
use Rattle.codec.specs.Answers.{read_of, write_of}
use Rattle.state.specs.declared.State.{State}
use Rattle.moves.specs.Steps.{start_of}
use Rattle.sheet_engine.specs.Answers.{verdict_answer, start_checks, start_answer, list_answer, standing_answer, waits_answer, kind_answer, step_answer, compact_answer, damage_answer}
use Rattle.sheet_engine.specs.Values.{VerdictValues, verdict_values, SheetValues, sheet_values, SizeValues, size_values, StandingValues, standing_values, StepValues, step_values, Answers}
use Rattle.sheet_engine.proofs.Values.{all_held, read_answers, write_answers, verdict_answers, list_answers, standing_answers, waits_answers, kind_answers, step_answers, compact_answers, damage_answers}
use Rattle.promises.specs.Sources.{up_to7, Thirteen}
use Rattle.promises.proofs.Refused.{place_fails, refused_there, one_out, first_fails, Reads, values_told}

-- "A sheet in which a JOIN's condition reaches a link with no OUT row is to be refused": of an accepted table, each link that a JOIN's condition reaches has one, unless the sheet was compacted (request 8)
pub accepted_sourced : (t : Table) → (refusal_of t).number ≡ 0 → Sourced t
accepted_sourced t e = sourced_joins t (meets t e)

-- "the sheets still accepted": a table is accepted exactly if it meets the checks of document 01 and each link that a JOIN's condition wants has an OUT row: each that it reaches, and of a compacted sheet none
pub accepted_exactly : (t : Table) → (refusal_of t ≡ refuse 0 0) ↔ (AllHold (up_to7 t ++ from8 t) × Sourced t)
unfolding refusal_of AllHold without
accepted_exactly t = (
  λ e.
      let (rest, thirteen) = (one_out (up_to7 t) (sourced t) (from8 t)).0 (all_held (table_checks t) refl (ap (λ (r : Refusal). r.number) e)) in
      (rest, (all_sourced t rest.1.1.1.0 rest.1.1.0).0 thirteen),
  λ (rest, s). all_hold refuse (refuse 0 0) (table_checks t) ((one_out (up_to7 t) (sourced t) (from8 t)).1 (rest, (all_sourced t rest.1.1.1.0 rest.1.1.0).1 s)),
)

-- a row breaks 13 exactly if it is a JOIN whose condition wants a link with no OUT row
broken : (t : Table) → AllHold (up_to7 t) → (j : ℕ) → j < t.n → ((sourced t).rule j ≡ false) ↔ UnsourcedJoin t j
unfolding AllHold
broken t hold = row_unsourced t hold.1.1.1.0 hold.1.1.0

-- 13 in a list of checks, no other of which has its number
module _ (t : Table) (place : ℕ) (before after : List Check) (earlier : AllHold before → AllHold (up_to7 t)) where
  told : without 13 before ≡ true → without 13 after ≡ true → checked refuse (refuse 0 0) (before ++ (sourced t ∷ after)) ≡ refuse 13 place → AllHold before × Thirteen t place
  told b a e =
      let (held, here, inside) = refused_there before (sourced t) after place (λ z. omega arith) b a e in
      let hold = earlier held in
      let (low, breaks, below) = place_fails (sourced t) place here inside in
      (held, record { earlier_hold = hold; inside = inside; unsourced = (broken t hold place inside).0 breaks; lowest = λ j h u. not_both (below j (omega arith) h) ((broken t hold j (omega arith)).1 u) })

  given : AllHold before → Thirteen t place → checked refuse (refuse 0 0) (before ++ (sourced t ∷ after)) ≡ refuse 13 place
  given held w = first_fails refuse (refuse 0 0) record {
    before = before;
    check = sourced t;
    after = after;
    order = refl;
    before_hold = held;
    its_number = refl;
    from = omega arith;
    inside = w.inside;
    breaks = (broken t w.earlier_hold place w.inside).1 w.unsourced;
    lowest = λ j a h. upheld _ (λ e. w.lowest j h ((broken t w.earlier_hold j (omega (arith, w.inside))).0 e));
  }

-- "it stands after 7 and before 8"
pub thirteen_stands : (t : Table) → table_checks t ≡ up_to7 t ++ (sourced t ∷ from8 t)
thirteen_stands t = refl

-- "Refusals: 13, place the lowest JOIN row": each call that judges a table answers 13 and a place exactly there, by its number and values. `step_in_place` answers what `take_step` does.
module _ (t : Table) (place : ℕ) where
  of_table : (after : List Check) → without 13 after ≡ true → (checked refuse (refuse 0 0) (up_to7 t ++ (sourced t ∷ after)) ≡ refuse 13 place) ↔ Thirteen t place
  unfolding without
  of_table after a = ((λ e. (told t place (up_to7 t) after (λ h. h) refl a e).1), λ w. given t place (up_to7 t) after (λ h. h) w.earlier_hold w)

  module _ {A : Type 0} (number at : A → ℕ) {refused : ℕ → ℕ → A} {good a : A} (after : List Check) where
    of_call : Answers number refused good (up_to7 t ++ (sourced t ∷ after)) a → Reads number at refused → without 13 after ≡ true → ((number a ≡ 13) × (at a ≡ place)) ↔ Thirteen t place
    of_call answers is w = Iff.trans (values_told number at answers is 13 place (λ z. omega arith)) (of_table after w)

  -- ... the refusal of a table, which is what `judge_table` answers (`judge_tells`)
  pub table_13 : (refusal_of t ≡ refuse 13 place) ↔ Thirteen t place
  unfolding refusal_of without
  table_13 = of_table (from8 t) refl

  pub judge_table_13 : (as_refusal (judged t) ≡ refuse 13 place) ↔ Thirteen t place
  judge_table_13 = rw (judge_tells t) table_13

  pub give_verdict_13 : (((verdict_values (verdict_answer t)).refusal ≡ 13) × ((verdict_values (verdict_answer t)).place ≡ place)) ↔ Thirteen t place
  unfolding without
  give_verdict_13 = of_call (λ (v : VerdictValues). v.refusal) (λ v. v.place) _ (verdict_answers t) (λ n p. (refl, refl)) refl

  pub start_13 : (mode : ℕ) → (((as_refusal (start_answer t mode)).number ≡ 13) × ((as_refusal (start_answer t mode)).place ≡ place)) ↔ Thirteen t place
  unfolding start_answer without
  start_13 mode =
      let e : refuse (as_refusal (start_answer t mode)).number (as_refusal (start_answer t mode)).place ≡ checked refuse (refuse 0 0) (start_checks t mode) = checked_map as_refusal no (Ok (start_of t mode)) (start_checks t mode) in
      Iff.trans ((λ (n, p). sym e ∙ ap₂ refuse n p), λ z. (ap (λ (r : Refusal). r.number) (e ∙ z), ap (λ (r : Refusal). r.place) (e ∙ z))) (of_table _ refl)

  pub damage_sheet_13 : (row lent : ℕ) → (((size_values (damage_answer t row lent)).refusal ≡ 13) × ((size_values (damage_answer t row lent)).place ≡ place)) ↔ Thirteen t place
  unfolding without
  damage_sheet_13 row lent = of_call (λ (v : SizeValues). v.refusal) (λ v. v.place) _ (damage_answers t row lent) (λ n p. (refl, refl)) refl

  module _ (s : State) where
    pub list_steps_13 : (lent : ℕ) → (((size_values (list_answer t s lent)).refusal ≡ 13) × ((size_values (list_answer t s lent)).place ≡ place)) ↔ Thirteen t place
    unfolding without
    list_steps_13 lent = of_call (λ (v : SizeValues). v.refusal) (λ v. v.place) _ (list_answers t s lent) (λ n p. (refl, refl)) refl

    pub standing_13 : (lent : ℕ) → (((standing_values (standing_answer t s lent)).refusal ≡ 13) × ((standing_values (standing_answer t s lent)).place ≡ place)) ↔ Thirteen t place
    unfolding without
    standing_13 lent = of_call (λ (v : StandingValues). v.refusal) (λ v. v.place) _ (standing_answers t s lent) (λ n p. (refl, refl)) refl

    pub waits_for_13 : (lent : ℕ) → (((size_values (waits_answer t s lent)).refusal ≡ 13) × ((size_values (waits_answer t s lent)).place ≡ place)) ↔ Thirteen t place
    unfolding without
    waits_for_13 lent = of_call (λ (v : SizeValues). v.refusal) (λ v. v.place) _ (waits_answers t s lent) (λ n p. (refl, refl)) refl

    pub step_kind_13 : (row : ℕ) → (((step_values (kind_answer t s row)).refusal ≡ 13) × ((step_values (kind_answer t s row)).place ≡ place)) ↔ Thirteen t place
    unfolding without
    step_kind_13 row = of_call (λ (v : StepValues). v.refusal) (λ v. v.place) _ (kind_answers t s row) (λ n p. (refl, refl)) refl

    pub take_step_13 : (row : ℕ) → (((step_values (step_answer t s row).answer).refusal ≡ 13) × ((step_values (step_answer t s row).answer).place ≡ place)) ↔ Thirteen t place
    unfolding without
    take_step_13 row = of_call (λ (v : StepValues). v.refusal) (λ v. v.place) _ (step_answers t s row) (λ n p. (refl, refl)) refl

    pub compact_13 : (lent : ℕ) → (((size_values (compact_answer t s lent).answer).refusal ≡ 13) × ((size_values (compact_answer t s lent).answer).place ≡ place)) ↔ Thirteen t place
    unfolding without
    compact_13 lent = of_call (λ (v : SizeValues). v.refusal) (λ v. v.place) _ (compact_answers t s lent) (λ n p. (refl, refl)) refl

pub write_sheet_13 : (h : Head) (ts cs : List ℕ) (lent place : ℕ) → (((size_values (write_of h ts cs lent)).refusal ≡ 13) × ((size_values (write_of h ts cs lent)).place ≡ place)) ↔ Thirteen (table_of h ts cs) place
unfolding without
write_sheet_13 h ts cs lent place = of_call (table_of h ts cs) place (λ (v : SizeValues). v.refusal) (λ v. v.place) _ (write_answers h ts cs lent) (λ n p. (refl, refl)) refl

-- ... and in reading, where 1 and 2 of the sheet come first
pub read_sheet_13 : (s : List ℕ) (place : ℕ) → (((sheet_values (read_of s)).refusal ≡ 13) × ((sheet_values (read_of s)).place ≡ place)) ↔ (Holds (sheet_size (length s)) × Holds (contents s) × Thirteen (table_in s) place)
unfolding without AllHold
read_sheet_13 s place = Iff.trans (values_told (λ (v : SheetValues). v.refusal) (λ v. v.place) (read_answers s) (λ n p. (refl, refl)) 13 place (λ z. omega arith)) (
  λ e. let (held, w) = told (table_in s) place before (from8 (table_in s)) (λ h. h.1.1) refl refl e in (held.0, held.1.0, w),
  λ (one, two, w). given (table_in s) place before (from8 (table_in s)) (λ h. h.1.1) (one, (two, w.earlier_hold)) w,
)
  where
    before : List Check
    before = sheet_size (length s) ∷ contents s ∷ up_to7 (table_in s)
