-- Rows below a waiting ACT, OUT or JOIN: none that one reaches, and no more where no more waits. Assumes nothing.
use mathlib.Core.Path.{◌≡◌, refl, sym, ◌∙◌}
use mathlib.Core.Bool.{Bool, true, false}
use mathlib.Core.List.{List}
use mathlib.Core.Logic.{⊎_elim, by_cases}
use Prim.Native.Nat.{ℕ, zero, suc, ◌<◌}
use native.Mathlib.Omega.{arith}
use native.Mathlib.Decide.{dec_lt}
use Rattle.laws.specs.Tests.{or}
use Rattle.laws.specs.Up.{below}
use Rattle.laws.proofs.Tests.{not_both, or_true, false_or, or_l, or_r}
use Rattle.laws.proofs.Up.{below_in, below_out}
use Rattle.steps.specs.Rows.{Row, NIL, PREFIX, BRANCH}
use Rattle.steps.specs.Marks.{Marks, Stand, waits, passed, dropped, stand}
use Rattle.steps.specs.InFront.{parent_of, right_of, waits_by, waiting_step, passed_by, leads, reached}
use Rattle.steps.proofs.Parents.{inherited_root, inherited_at}
use Rattle.steps.proofs.InFront.{reached_parent}
use Rattle.sheet.specs.Table.{row_at}
use Rattle.moves.specs.Fits.{held}

passed_free : (s : Stand) → passed_by s ≡ true → waits_by s ≡ false
unfolding passed_by waits_by
passed_free waits e = sym e
passed_free passed e = refl
passed_free dropped e = refl

-- a row that leads on is no waiting step
leads_free : (N : Row) (m : ℕ) (s : Bool) → leads N m s ≡ true → waiting_step N m ≡ false
unfolding leads waiting_step
leads_free NIL m s e = refl
leads_free (PREFIX π c) m s e = passed_free (stand m) e
leads_free (BRANCH κ p q) m s e = refl

module _ (ts : List ℕ) where
  abbrev above : ℕ → ℕ
  above = parent_of (row_at ts)

  module _ (μ : Marks) where
    held_at : (j : ℕ) → 0 < j → held ts μ j ≡ or (below false (held ts μ) j (above j)) (waiting_step (row_at ts (above j)) (μ (above j)))
    unfolding held
    held_at j h = inherited_at (row_at ts) false false (λ p s b. or b (waiting_step (row_at ts p) (μ p))) j h

    pub held_root : held ts μ 0 ≡ false
    unfolding held
    held_root = inherited_root (row_at ts) false false (λ p s b. or b (waiting_step (row_at ts p) (μ p)))

    free_by : (f j : ℕ) → j < f → reached (row_at ts) μ j ≡ true → held ts μ j ≡ false
    free_by zero j a e = absurd (let z : ⊥ = omega arith in z)
    free_by (suc f) zero a e = held_root
    free_by (suc f) (suc j) a e =
        let (l, b, g) = reached_parent (row_at ts) μ (suc j) (omega arith) e in
        let p : ℕ = above (suc j) in
        held_at (suc j) (omega arith) ∙ false_or (below_in false (held ts μ) (suc j) p l ∙ free_by f p (omega arith) b) (leads_free (row_at ts p) (μ p) (right_of (row_at ts) (suc j)) g)

    -- A ROW THAT ONE REACHES IS NOT HELD
    pub reached_free : (j : ℕ) → reached (row_at ts) μ j ≡ true → held ts μ j ≡ false
    reached_free j e = free_by (suc j) j (omega arith) e

  module _ (μ ν : Marks) (less : (p : ℕ) → waiting_step (row_at ts p) (ν p) ≡ true → waiting_step (row_at ts p) (μ p) ≡ true) where
    less_by : (f j : ℕ) → j < f → held ts ν j ≡ true → held ts μ j ≡ true
    less_by zero j a e = absurd (let z : ⊥ = omega arith in z)
    less_by (suc f) zero a e = absurd (not_both e (held_root ν))
    less_by (suc f) (suc j) a e =
        let p : ℕ = above (suc j) in
        held_at μ (suc j) (omega arith) ∙ ⊎_elim
        (λ (q : below false (held ts ν) (suc j) p ≡ true). by_cases (dec_lt p (suc j))
        (λ l. or_l _ (below_in false (held ts μ) (suc j) p l ∙ less_by f p (omega arith) (sym (below_in false (held ts ν) (suc j) p l) ∙ q)))
        (λ l. absurd (not_both q (below_out false (held ts ν) (suc j) p (omega arith)))))
        (λ q. or_r _ (less p q))
        (or_true (sym (held_at ν (suc j) (omega arith)) ∙ e))

    -- WHERE NO MORE STEPS WAIT, NO MORE IS HELD
    pub held_less : (j : ℕ) → held ts ν j ≡ true → held ts μ j ≡ true
    held_less j e = less_by (suc j) j (omega arith) e
