-- The climb of a step from its row to row 0, one row above after another. Assumes nothing.
use mathlib.Core.Path.{◌≡◌, refl, sym, ap, ◌∙◌, subst}
use mathlib.Core.Bool.{true, false}
use mathlib.Core.List.{List}
use Prim.Native.Nat.{ℕ, ◌<◌}
use borrow.Author.Tests.{lt-ltb}
use lib.ListN.{set}
use Rattle.laws.specs.Lowest.{lowest}
use Rattle.laws.proofs.Tests.{cond_all, cond_cases}
use Rattle.laws.proofs.Up.{up_at, below_in}
use Rattle.calculus.specs.Places.{sets, falsifies}
use Rattle.steps.specs.InFront.{parent_of, right_of, leads, reached}
use Rattle.steps.proofs.InFront.{reached_induction}
use Rattle.sheet.specs.Table.{row_at}
use Rattle.state.specs.declared.State.{State}
use Rattle.state.specs.State.{decide_of, side_mark}
use Rattle.moves.specs.Steps.{mode_of, marks_of, remainder_in, falsified, is_waiting_pick, other_of, decided_of, climb_by, idle, climbed}
use Rattle.moves.proofs.Falsify.{falsify_marks}

module _ (ts : List ℕ) (n : ℕ) (s : State) where
  abbrev above : ℕ → ℕ
  above = parent_of (row_at ts)

  -- one decision: whatever holds of the marks with the pick above decided, if it waits, and of the marks as they were
  pub decided_by : (j : ℕ) (z : State) (C : List ℕ → Type 0) → (is_waiting_pick (row_at ts (above j)) (marks_of s (above j)) ≡ true → C (set z.marks (above j) (side_mark (right_of (row_at ts) j)))) → (is_waiting_pick (row_at ts (above j)) (marks_of s (above j)) ≡ false → C z.marks) → C (decided_of ts n s j z).marks
  unfolding decided_of falsified
  decided_by j z C f g =
      let o : ℕ = other_of (row_at ts (above j)) (right_of (row_at ts) j) in
      cond_cases (λ (y : State). C y.marks) (is_waiting_pick (row_at ts (above j)) (marks_of s (above j)))
      (λ e. cond_all (λ (y : State). C y.marks) (falsifies (mode_of s.mode)) (subst C (sym (falsify_marks (sets (remainder_in ts n (marks_of s) o)) 0 64 (decide_of z (above j) (right_of (row_at ts) j)))) (f e)) (f e)) g

  pub climbed_up : (j : ℕ) (z : State) → above j < j → climbed ts n s j z ≡ climbed ts n s (above j) (decided_of ts n s j z)
  unfolding climbed climb_by
  climbed_up j z h = ap (λ (f : State → State). f z) (up_at idle (climb_by ts n s) j) ∙ rw (lt-ltb (above j) j h, below_in idle (climbed ts n s) j (above j) h) refl

  pub climbed_top : (z : State) → climbed ts n s 0 z ≡ z
  unfolding climbed climb_by parent_of lowest
  climbed_top z = ap (λ (f : State → State). f z) (up_at idle (climb_by ts n s) 0)

  -- whatever each decision carries to the row above holds at row 0 of the state after the climb
  pub climb_induction : (C : ℕ → State → Type 0) → ((j : ℕ) (z : State) → above j < j → reached (row_at ts) (marks_of s) (above j) ≡ true → leads (row_at ts (above j)) (marks_of s (above j)) (right_of (row_at ts) j) ≡ true → C j z → C (above j) (decided_of ts n s j z)) → (j : ℕ) (z : State) → reached (row_at ts) (marks_of s) j ≡ true → C j z → C 0 (climbed ts n s j z)
  climb_induction C f j z e c =
      let (z', p, c') = reached_induction (row_at ts) (marks_of s) (λ i. (y : State) × (climbed ts n s j z ≡ climbed ts n s i y) × C i y)
      (λ i l b g x. (decided_of ts n s i x.0, x.1 ∙ climbed_up i x.0 l, f i x.0 l b g x.2))
      j e (z, refl, c) in
      subst (C 0) (sym (p ∙ climbed_top z')) c'
