-- WHICH ROWS HAVE A SMALL SHEET: one that is a JOIN whose condition fails, and what is known of it. Assumes nothing.
use Prim.Native.Nat.{ℕ, ◌<◌, ◌≤◌}
use mathlib.Core.Path.{◌≡◌, refl, sym, ◌∙◌, ap}
use mathlib.Core.Bool.{Bool, true, false, cond}
use mathlib.Core.List.{List}
use Rattle.std.specs.Prelude.{Some, None}
use native.Mathlib.Omega.{arith}
use lib.Dec.{ltb}
use lib.ListN.{get_or}
use borrow.Author.Tests.{ltb-true, eqb-true}
use Rattle.laws.specs.Up.{Filled}
use Rattle.laws.proofs.Tests.{and_l, and_r, refuted, not_both}
use Rattle.steps.specs.Rows.{is_join}
use Rattle.sheet.specs.Table.{Table, row_at}
use Rattle.sheet.specs.Rules.{refusal_of}
use Rattle.sheet.proofs.Rows.{row_join}
use Rattle.reach.specs.Masks.{mask_at}
use Rattle.failure.specs.declared.Failure.{Failure}
use Rattle.failure.specs.Failure.{number_at, link_at, failure_of}
use Rattle.verdict.specs.Verdict.{fails_in}
use Rattle.verdict.proofs.Judged.{accepted_judged}
use Rattle.verdict.proofs.Joins.{kind_at, second_at, join_is, join_condition_law, narrow}
use Rattle.damage.specs.Damage.{condition_at, showable}
use Rattle.showing.specs.Asked.{Asked}

-- a failure is told exactly if the condition fails
passes_by : (f : Bool) (x : Failure) → cond f (Some x) None ≡ None → f ≡ false
passes_by true x e = absurd (let z : ◌≡◌ {A = ℕ} 0 1 = cc in omega arith)
passes_by false x e = refl

fails_by : (f : Bool) (y x : Failure) → cond f (Some y) None ≡ Some x → (f ≡ true) × (x ≡ y)
fails_by true y x e = (refl, cc)
fails_by false y x e = absurd (let z : ◌≡◌ {A = ℕ} 0 1 = cc in omega arith)

module _ (t : Table) (row : ℕ) where
  shows_inside : showable t row ≡ true → row < t.n
  unfolding showable
  shows_inside e = ltb-true row t.n (and_l _ _ e)

  shows_join : showable t row ≡ true → is_join (row_at t.terms row) ≡ true
  unfolding showable
  shows_join e = and_l _ _ (and_r (ltb row t.n) _ e)

  shows_failing : showable t row ≡ true → fails_in t (condition_at t row) ≡ true
  unfolding showable
  shows_failing e = and_l _ _ (and_r (is_join (row_at t.terms row)) _ (and_r (ltb row t.n) _ e))

  pub not_inside : t.n ≤ row → showable t row ≡ false
  not_inside h = refuted (showable t row) (λ e. let z : ⊥ = omega (arith, shows_inside e) in z)

  pub not_join : (kind_at t.terms row ≡ 3 → ⊥) → showable t row ≡ false
  not_join h = refuted (showable t row) (λ e. h (eqb-true _ 3 (sym (row_join t.terms row) ∙ shows_join e)))

  module _ (is : kind_at t.terms row ≡ 3) (c : ℕ) (at_row : c ≡ second_at t.terms row) where
    there : condition_at t row ≡ c
    there = join_condition_law t.terms row is ∙ sym at_row

    pub not_failing : failure_of t.evaluation t.m t.conditions c ≡ None → showable t row ≡ false
    unfolding failure_of
    not_failing e = refuted (showable t row) (λ s. not_both (shows_failing s) (ap (fails_in t) there ∙ passes_by (fails_in t c) _ e))

    pub asked_at_law : (refusal_of t).number ≡ 0 → row < t.n → (masks : List ℕ) → Filled 0 (mask_at t.conditions) t.k masks → (mask : ℕ) → mask ≡ get_or masks c 0 → (x : Failure) → failure_of t.evaluation t.m t.conditions c ≡ Some x → Asked t row mask x.number x.link
    unfolding failure_of
    asked_at_law accepted inside masks filled mask at-mask x e =
        let (failing, is_it) = fails_by (fails_in t c) (record { number = number_at t.evaluation t.m t.conditions c; link = link_at t.evaluation t.m t.conditions c }) x e in
        record {
          accepted = accepted;
          inside = inside;
          row_is_join = join_is t.terms row is;
          fails = ap (fails_in t) there ∙ failing;
          narrow = narrow t (accepted_judged t accepted) masks filled row inside is (condition_at t row) mask (there ∙ at_row) (at-mask ∙ ap (λ (i : ℕ). get_or masks i 0) at_row);
          its_number = ap (λ (f : Failure). f.number) is_it ∙ ap (number_at t.evaluation t.m t.conditions) (sym there);
          its_link = ap (λ (f : Failure). f.link) is_it ∙ ap (link_at t.evaluation t.m t.conditions) (sym there);
        }
