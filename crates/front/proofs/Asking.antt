-- One pass over the rows answers what is asked of each. Assumes nothing.
use Prim.Native.Nat.{ℕ, ◌+◌, ◌<◌, ◌≤◌}
use mathlib.Core.Path.{◌≡◌, refl, ◌∙◌, ap}
use mathlib.Core.Bool.{Bool, true, false}
use mathlib.Core.List.{List}
use lib.Dec.{eqb}
use lib.ListN.{set, replicate}
use Rattle.laws.specs.Tests.{bit}
use Rattle.laws.proofs.Tests.{bit_one}
use Rattle.steps.specs.Rows.{Row, Tree}
use Rattle.steps.specs.Marks.{Marks}
use Rattle.steps.specs.InFront.{reached}
use Rattle.steps.specs.Push.{set_if, handed, Pushed}
use Rattle.steps.proofs.Push.{pushed_none, pushed_own, pushed_all, pushed_more}
use Rattle.sheet.specs.Table.{row_at}
use Rattle.moves.specs.Fits.{held, live}
use Rattle.flags.specs.Flags.{flagged, Shows}
use Rattle.front.specs.declared.Question.{Question}
use Rattle.front.specs.declared.Question.TheVariants.{Reached, Held, Live}
use Rattle.front.specs.Asked.{next_by, next_of, top_of, asked_at}

start : (b : Bool) → set (replicate 256 0) 0 (bit b) ≡ set_if b 0 (replicate 256 0)
unfolding set_if
start true = refl
start false = refl

module _ (q : Question) (node : ℕ → Row) (μ : Marks) (n : ℕ) (tree : Tree node n) (few : n ≤ 256) where
  pub asked_none : (x : ℕ) → x ≡ bit (top_of q) → Pushed node (asked_at q node μ) n 0 (set (replicate 256 0) 0 x)
  unfolding asked_at
  asked_none x e = rw (e, start (top_of q)) (pushed_none node n tree few (top_of q) (λ p s b. next_of q (node p) (μ p) s b))

  pub asked_own : (i : ℕ) (t : List ℕ) → i < n → Pushed node (asked_at q node μ) n i t → flagged t i ≡ asked_at q node μ i
  unfolding asked_at
  asked_own i t h p = ap (λ (x : ℕ). eqb x 1) (pushed_own node n tree few (top_of q) (λ p s b. next_of q (node p) (μ p) s b) i t h p) ∙ bit_one _

  pub asked_more : (i : ℕ) (t t' : List ℕ) → i < n → Pushed node (asked_at q node μ) n i t →
      t' ≡ handed t (node i) (next_of q (node i) (μ i) false (flagged t i)) (next_of q (node i) (μ i) true (flagged t i)) → Pushed node (asked_at q node μ) n (i + 1) t'
  unfolding asked_at
  asked_more i t t' h p e = pushed_more node n tree few (top_of q) (λ p s b. next_of q (node p) (μ p) s b) i h t t' p (rw (asked_own i t h p) at e)

  pub asked_all : (t : List ℕ) → Pushed node (asked_at q node μ) n n t → Shows (asked_at q node μ) n t
  unfolding asked_at
  asked_all t p = let (l, f) = pushed_all node n tree few (top_of q) (λ p s b. next_of q (node p) (μ p) s b) t p in record { size = l; at = f }

-- the questions, by their names
pub asked_reached : (node : ℕ → Row) (μ : Marks) (i : ℕ) → asked_at Reached node μ i ≡ reached node μ i
unfolding asked_at next_of next_by top_of reached
asked_reached node μ i = refl

pub asked_held : (ts : List ℕ) (μ : Marks) (i : ℕ) → asked_at Held (row_at ts) μ i ≡ held ts μ i
unfolding asked_at next_of next_by top_of held
asked_held ts μ i = refl

pub asked_live : (ts : List ℕ) (μ : Marks) (i : ℕ) → asked_at Live (row_at ts) μ i ≡ live ts μ i
unfolding asked_at next_of next_by top_of live
asked_live ts μ i = refl
