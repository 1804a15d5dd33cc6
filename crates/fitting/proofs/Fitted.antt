-- A state is accepted exactly if its mode is one and it fits; a refusal, told in the words of any call's answer. Assumes nothing.
use Prim.Native.Nat.{ℕ, ◌≤◌}
use mathlib.Core.Path.{◌≡◌, refl, sym, ◌∙◌, ap}
use mathlib.Core.List.{List, [], ◌∷◌}
use Rattle.std.specs.Prelude.{Ok, Err}
use native.Mathlib.Omega.{arith}
use borrow.Author.Tests.{le-leb, leb-true}
use Rattle.laws.specs.Checks.{Holds, checked, AllHold}
use Rattle.laws.proofs.Checks.{all_hold}
use Rattle.sheet.specs.declared.Refusal.{Refusal}
use Rattle.sheet.specs.Table.{Table}
use Rattle.sheet.specs.Rules.{refuse}
use Rattle.sheet.proofs.Accepted.{none_refused}
use Rattle.sheet.proofs.Refusals.{without, refused_by, told_refused, told_accepted}
use Rattle.state.specs.declared.State.{State}
use Rattle.moves.specs.Steps.{mode_of, marks_of}
use Rattle.moves.specs.Fits.{mode_check, marks_fit, links_fit, waits_fit, clear_fit, counts_fit, fit_checks, Fits}
use Rattle.fitting.specs.Checks.{from_e, from_d, from_c, from_b, from_a, state_checks, fitted}

-- the checks of a table's state are the mode's and those of fitting
pub state_checks_law : (t : Table) (s : State) → state_checks t.m t.n t.terms s ≡ mode_check s.mode ∷ fit_checks t s
state_checks_law t s = refl

module _ (t : Table) (s : State) (r : Refusal) (told : r ≡ checked refuse (refuse 0 0) (state_checks t.m t.n t.terms s)) where
  pub fits_accepted : r.number ≡ 0 → (s.mode ≤ 1) × Fits t s
  fits_accepted none =
      let a = none_refused (mode_check s.mode) (from_a t.m t.n t.terms s) (λ z. omega arith) (ap (λ (r : Refusal). r.number) (sym told) ∙ none) in
      let b = none_refused (marks_fit t.terms t.n (mode_of s.mode) (marks_of s)) (from_b t.m t.n t.terms s) (λ z. omega arith) a.1 in
      let c = none_refused (links_fit t.m s.links) (from_c t.m t.n t.terms s) (λ z. omega arith) b.1 in
      let d = none_refused (waits_fit t.terms t.n (marks_of s)) (from_d t.m t.n t.terms s) (λ z. omega arith) c.1 in
      let e = none_refused (clear_fit t.terms t.n (marks_of s) s.links) (from_e t.m t.n t.terms s) (λ z. omega arith) d.1 in
      let f = none_refused (counts_fit t.m t.terms t.n s) [] (λ z. omega arith) e.1 in
      (leb-true s.mode 1 (a.0 s.mode (omega arith) (omega arith)), record { marks_fit_holds = b.0; links_fit_holds = c.0; waits_fit_holds = d.0; clear_fit_holds = e.0; counts_fit_holds = f.0 })

  -- ... and the other way
  mode_holds : s.mode ≤ 1 → Holds (mode_check s.mode)
  mode_holds h p low high = le-leb p 1 (omega arith)

  pub accepts_fitting : s.mode ≤ 1 → Fits t s → r ≡ refuse 0 0
  unfolding AllHold
  accepts_fitting h f = told ∙ all_hold refuse (refuse 0 0) (state_checks t.m t.n t.terms s) (mode_holds h, (f.marks_fit_holds, (f.links_fit_holds, (f.waits_fit_holds, (f.clear_fit_holds, (f.counts_fit_holds, tt))))))

module _ {A : Type 0} (answer : ℕ → ℕ → A) (good : A) (m n : ℕ) (ts : List ℕ) (s : State) (r : Refusal) (told : r ≡ checked refuse (refuse 0 0) (state_checks m n ts s)) where
  pub state_refused : (r.number ≡ 0 → ⊥) → answer r.number r.place ≡ checked answer good (state_checks m n ts s)
  unfolding without
  state_refused h = rw told (refused_by answer good (state_checks m n ts s) refl (λ e. h (rw told e)))

-- what fit answers, by number and place
module _ (m n : ℕ) (ts : List ℕ) (s : State) where
  pub fitted_refused : (e : Refusal) → fitted m n ts s ≡ Err e → (e ≡ checked refuse (refuse 0 0) (state_checks m n ts s)) × (e.number ≡ 0 → ⊥)
  unfolding without
  fitted_refused e h = told_refused tt (state_checks m n ts s) refl e h

  pub fitted_accepted : (u : Unit {0}) → fitted m n ts s ≡ Ok u → (checked refuse (refuse 0 0) (state_checks m n ts s)).number ≡ 0
  fitted_accepted u h = told_accepted tt (state_checks m n ts s) u h
