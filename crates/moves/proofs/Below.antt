-- (c) IN THE DOCUMENT'S WORDS: "every row below a waiting ACT, OUT or JOIN waits", at any depth. Assumes nothing.
use mathlib.Core.Path.{◌≡◌, sym, ap, ◌∙◌}
use mathlib.Core.Bool.{Bool, true, false}
use mathlib.Core.List.{List}
use mathlib.Core.Logic.{⊎_elim, by_cases, ◌↔◌}
use Prim.Native.Nat.{ℕ, zero, suc, ◌<◌}
use native.Mathlib.Omega.{arith}
use native.Mathlib.Decide.{ℕ_discrete}
use Rattle.laws.specs.Tests.{or}
use Rattle.laws.specs.Checks.{Holds}
use Rattle.laws.proofs.Tests.{not_both, or_true, or_l, or_r, implied, implies}
use Rattle.calculus.specs.Rows.{rows}
use Rattle.steps.specs.Rows.{term, Child, Tree}
use Rattle.steps.specs.Marks.{Marks}
use Rattle.steps.specs.InFront.{waiting, waiting_step}
use Rattle.steps.proofs.Tree.{child_above, root_in, child_in, rows_above, parent_in, rows_trans}
use Rattle.steps.proofs.Parents.{inherited_child}
use Rattle.sheet.specs.Table.{row_at}
use Rattle.moves.specs.Above.{Below}
use Rattle.moves.specs.Fits.{held, wait_ok, waits_fit}
use Rattle.moves.proofs.Held.{held_root}

module _ (ts : List ℕ) (n : ℕ) (tree : Tree (row_at ts) n) (μ : Marks) where
  abbrev T : ℕ → ℕ → Bool
  T i = rows (term (row_at ts) n i)

  abbrev steps : ℕ → Bool
  steps i = waiting_step (row_at ts i) (μ i)

  held_child : (i j : ℕ) (s : Bool) → i < n → Child (row_at ts i) s j → held ts μ j ≡ or (held ts μ i) (steps i)
  unfolding held
  held_child = inherited_child (row_at ts) false false (λ p s b. or b (steps p)) n tree.kids tree.once

  below_held : (i k : ℕ) → Below ts n i k → steps i ≡ true → held ts μ k ≡ true
  below_held i k b e = go (suc k) k (omega arith) b.holds
    where
      in_n : b.child < n
      in_n = (child_above i n b.child (row_at ts i) b.side (tree.kids i b.in_sheet) b.at_side).1

      go : (f j : ℕ) → j < f → T b.child j ≡ true → held ts μ j ≡ true
      go zero j l r = absurd (let z : ⊥ = omega arith in z)
      go (suc f) j l r =
          by_cases (ℕ_discrete j b.child)
          (λ q. ap (held ts μ) q ∙ (held_child i b.child b.side b.in_sheet b.at_side ∙ or_r _ e))
          (λ q. let (p, s, d, h, a, g) = parent_in (row_at ts) n tree.kids b.child in_n j r q in held_child p j s h d ∙ or_l _ (go f p (omega arith) g))

  held_below : (f k : ℕ) → k < f → k < n → held ts μ k ≡ true → (i : ℕ) × Below ts n i k × (steps i ≡ true)
  held_below zero k l h e = absurd (let z : ⊥ = omega arith in z)
  held_below (suc f) zero l h e = absurd (not_both e (held_root ts μ))
  held_below (suc f) (suc k) l h e =
      let (p, s, hp, c) = tree.named (suc k) (omega arith) h in
      let (a, _) = child_above p n (suc k) (row_at ts p) s (tree.kids p hp) c in
      ⊎_elim
      (λ q.
      let (i, b, g) = held_below f p (omega arith) hp q in
      let (_, z) = child_above i n b.child (row_at ts i) b.side (tree.kids i b.in_sheet) b.at_side in (
        i,
        record {
          in_sheet = b.in_sheet;
          side = b.side;
          child = b.child;
          at_side = b.at_side;
          holds = rows_trans (row_at ts) n tree.kids (suc k) p b.child z b.holds (child_in (row_at ts) n tree.kids p (suc k) (suc k) hp s c (root_in (row_at ts) n tree.kids (suc k) h));
        },
        g,
      ))
      (λ q. (p, record { in_sheet = hp; side = s; child = suc k; at_side = c; holds = root_in (row_at ts) n tree.kids (suc k) h }, q))
      (or_true (sym (held_child p (suc k) s hp c) ∙ e))

  -- a row is held exactly if it stands below a waiting ACT, OUT or JOIN
  pub held_said : (k : ℕ) → k < n → (held ts μ k ≡ true) ↔ ((i : ℕ) × Below ts n i k × (waiting_step (row_at ts i) (μ i) ≡ true))
  held_said k h = (held_below (suc k) k (omega arith) h, λ (i, b, e). below_held i k b e)

  pub waits_said : Holds (waits_fit ts n μ) ↔ ((i k : ℕ) → Below ts n i k → waiting_step (row_at ts i) (μ i) ≡ true → waiting (row_at ts k) (μ k) ≡ true)
  unfolding wait_ok
  waits_said = (
    λ f i k b e. implies (held ts μ k) (f k (omega arith) (rows_above (row_at ts) n tree.kids b.child (child_above i n b.child (row_at ts i) b.side (tree.kids i b.in_sheet) b.at_side).1 k b.holds).1) (below_held i k b e),
    λ f k _ h. implied (held ts μ k) (λ e. let (i, b, g) = held_below (suc k) k (omega arith) h e in f i k b g),
  )
