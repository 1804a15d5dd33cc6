-- The top of a row, from a table of the tops above it. Assumes nothing.
use Prim.Native.Nat.{ℕ, ◌+◌, ◌<◌}
use mathlib.Core.Path.{◌≡◌, refl, sym, ◌∙◌, ap, ap₂}
use mathlib.Core.Bool.{cond}
use mathlib.Core.List.{List}
use native.Mathlib.Omega.{arith}
use lib.ListN.{get_or}
use Rattle.steps.specs.Rows.{Row, NIL, PREFIX, BRANCH, Kids, Tree}
use Rattle.steps.specs.Marks.{Marks, stand, open_branches}
use Rattle.steps.specs.InFront.{passed_by}
use Rattle.sheet.specs.Table.{row_at}
use Rattle.layout.specs.Rows.{root}
use Rattle.moves.specs.Steps.{remainder_in}
use Rattle.collect.specs.Tops.{top_branch, top_by}
use Rattle.laying.specs.Told.{Tells}
use Rattle.collect.proofs.Stays.{top_at}

-- only the children are asked
top_same : (i n : ℕ) (N : Row) (m : ℕ) (f g : ℕ → ℕ) → Kids i n N → ((j : ℕ) → i < j → j < n → f j ≡ g j) → top_by i N m f ≡ top_by i N m g
unfolding top_by Kids
top_same i n NIL m f g k h = refl
top_same i n (PREFIX π c) m f g k h = ap (λ (x : ℕ). cond (passed_by (stand m)) x i) (h c k.0 k.1)
top_same i n (BRANCH κ p q) m f g k h = ap₂ (top_branch (open_branches κ m) i) (h p k.0.0 k.0.1) (h q k.1.0 k.1.1)

pub top_told : (ts : List ℕ) (n : ℕ) → Tree (row_at ts) n → (μ : Marks) (i : ℕ) (t : List ℕ) → i < n → Tells (λ j. root (remainder_in ts n μ j)) (i + 1) n t → top_by i (row_at ts i) (μ i) (λ j. get_or t j 0) ≡ root (remainder_in ts n μ i)
top_told ts n tree μ i t h g =
    top_same i n (row_at ts i) (μ i) (λ j. get_or t j 0) (λ j. root (remainder_in ts n μ j)) (tree.kids i h) (λ j a b. g.at j (omega arith) b) ∙ sym (top_at ts n tree.kids tree.once μ i h)
