-- The ACT rows in the remainder are the live ACT rows that wait. Assumes nothing.
use Prim.Native.Nat.{ℕ, ◌+◌, ◌<◌, ◌≤◌}
use mathlib.Core.Path.{◌≡◌, refl, sym, ap, ◌∙◌}
use mathlib.Core.Bool.{Bool, true, false, ◌&&◌, true≢false}
use mathlib.Core.List.{List}
use mathlib.Core.Logic.{⊎_elim, by_cases}
use native.Mathlib.Omega.{arith}
use native.Mathlib.Decide.{ℕ_discrete}
use Rattle.laws.specs.Tests.{bit}
use Rattle.laws.specs.Sums.{count}
use Rattle.laws.proofs.Tests.{cases, both_ways, bit_small}
use Rattle.laws.proofs.Sums.{count_upto, count_same}
use Rattle.calculus.specs.Process.{act, out, join}
use Rattle.calculus.specs.Rows.{rows}
use Rattle.steps.specs.Rows.{Row, NIL, PREFIX, BRANCH, Kids, is_act_prefix, is_act, Tree}
use Rattle.steps.specs.Marks.{Marks}
use Rattle.steps.specs.InFront.{waiting_act}
use Rattle.sheet.specs.Table.{row_at}
use Rattle.moves.specs.Steps.{remainder_in, acts_of, act_in}
use Rattle.moves.specs.Fits.{live}
use Rattle.moves.proofs.Clear.{live_said}
use Rattle.moves.proofs.Counts.{acts_by_row, act_row}
use Rattle.flags.specs.Flags.{flagged}
use Rattle.flags.proofs.Shown.{shown}
use Rattle.front.specs.Asked.{ShowsLive}
use Rattle.front.proofs.Asking.{asked_live}

module _ (ts : List ℕ) (n : ℕ) (tree : Tree (row_at ts) n) (μ : Marks) where
  -- the last row has no child, so it is a NIL
  last_nil : (k : ℕ) → k + 1 ≡ n → (N : Row) → Kids k n N → is_act N ≡ false
  unfolding Kids is_act
  last_nil k e NIL kid = refl
  last_nil k e (PREFIX π c) kid = absurd (let no : ⊥ = omega (arith, kid.0, kid.1) in no)
  last_nil k e (BRANCH κ p q) kid = absurd (let no : ⊥ = omega (arith, kid.0.0, kid.0.1) in no)

  -- ... and the waiting ACTs up to any row are at most 255
  pub acts_fit : n ≤ 256 → (b : ℕ → Bool) (k : ℕ) → k < n → count (λ i. waiting_act (row_at ts i) (μ i) && b i) k + bit (waiting_act (row_at ts k) (μ k) && b k) ≤ 255
  acts_fit few b k h =
      let upto : count (λ i. waiting_act (row_at ts i) (μ i) && b i) k ≤ k = count_upto _ k in
      by_cases (ℕ_discrete (k + 1) n)
      (λ (e : k + 1 ≡ n). rw (last_nil k e (row_at ts k) (tree.kids k h)) (omega arith))
      (λ e. omega (arith, bit_small (waiting_act (row_at ts k) (μ k) && b k)))

  -- an ACT that waits stands in the remainder exactly if it is live
  live_there : (k : ℕ) → k < n → (N : Row) → row_at ts k ≡ N → waiting_act N (μ k) ≡ true → rows (remainder_in ts n μ 0) k ≡ live ts μ k
  unfolding is_act is_act_prefix
  live_there k h NIL e w = absurd (true≢false (sym w))
  live_there k h (PREFIX (act a) c) e w = let (f, g) = live_said ts n tree.kids tree.once μ k tree.some_row h (act a) c e w in both_ways g f
  live_there k h (PREFIX (out l b) c) e w = absurd (true≢false (sym w))
  live_there k h (PREFIX (join q) c) e w = absurd (true≢false (sym w))
  live_there k h (BRANCH κ p q) e w = absurd (true≢false (sym w))

  act_live : (k : ℕ) → k < n → act_in (remainder_in ts n μ 0) k ≡ (waiting_act (row_at ts k) (μ k) && live ts μ k)
  act_live k h =
      act_row ts n tree μ k ∙
      ⊎_elim (λ (w : waiting_act (row_at ts k) (μ k) ≡ true). rw w (live_there k h (row_at ts k) refl w)) (λ (w : waiting_act (row_at ts k) (μ k) ≡ false). rw w refl) (cases (waiting_act (row_at ts k) (μ k)))

  -- counted from a table of the live rows
  pub acts_read : (t : List ℕ) → ShowsLive ts n μ t → acts_of (remainder_in ts n μ 0) ≡ count (λ k. waiting_act (row_at ts k) (μ k) && flagged t k) n
  acts_read t g =
      acts_by_row ts n μ tree ∙ count_same (act_in (remainder_in ts n μ 0)) (λ k. waiting_act (row_at ts k) (μ k) && flagged t k) n
      (λ k h. act_live k h ∙ ap (λ (b : Bool). waiting_act (row_at ts k) (μ k) && b) (sym (shown _ n t g k h ∙ asked_live ts μ k)))
