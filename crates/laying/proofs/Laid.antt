-- The rows of a test's numbers are put into an array one after another, four bytes a row. Assumes nothing.
use Prim.Native.Nat.{ℕ, ◌+◌, ◌*◌, ◌<◌, ◌≤◌}
use mathlib.Core.Path.{◌≡◌, refl, sym, ◌∙◌, ap}
use mathlib.Core.Bool.{Bool, true, false}
use mathlib.Core.List.{List, ◌++◌, append_assoc, append-nil}
use native.Mathlib.Omega.{arith}
use native.Mathlib.Nat.{sub-zero}
use lib.ListN.{length, take}
use lib.Seq.{paste, length-paste, take-paste, take_all}
use Rattle.laws.specs.Tests.{bit}
use Rattle.laws.specs.Sums.{count}
use Rattle.laws.specs.Listed.{listed}
use Rattle.laws.proofs.Sums.{count_zero, count_more}
use Rattle.laws.proofs.Listed.{left, left_hit, left_miss, left_end}
use Rattle.layout.specs.Bytes.{laid}
use Rattle.laying.specs.LaidIn.{LaidIn}

-- one row more: it stands behind the others, and nothing gets longer
module _ (out : List ℕ) (k : ℕ) (row : List ℕ) (room : k * 4 + 4 ≤ length out) (four : length row ≡ 4) where
  pub put_size : length (paste out (k * 4) row 4) ≡ length out
  put_size = length-paste out (k * 4) row 4 room (omega (arith, four))

  pub put_next : take ((k + 1) * 4) (paste out (k * 4) row 4) ≡ take (k * 4) out ++ row
  put_next =
      let place : (k + 1) * 4 ≡ k * 4 + 4 = omega arith in
      ap (λ (j : ℕ). take j (paste out (k * 4) row 4)) place ∙
      (take-paste out (k * 4) row 4 (omega arith) (omega (arith, four)) ∙ ap (λ (xs : List ℕ). take (k * 4) out ++ xs) (take_all 4 row (omega (arith, four))))

-- k rows are laid, those of the numbers below i; with the rows to come they are all
pub record Laid (bytes : ℕ → List ℕ) (p : ℕ → Bool) (n : ℕ) (out₀ : List ℕ) (i k : ℕ) (out : List ℕ) : Type 0 where
  pub size : length out ≡ length out₀
  pub counted : k ≡ count p i
  pub so_far : take (k * 4) out ++ laid bytes (left p n i) ≡ laid bytes (listed p 0 n)

module _ (bytes : ℕ → List ℕ) (p : ℕ → Bool) (n : ℕ) (out₀ : List ℕ) where
  pub laid_none : Laid bytes p n out₀ 0 0 out₀
  laid_none = record { size = refl; counted = sym (count_zero p); so_far = rw sub-zero refl }

  module _ (i k : ℕ) (out : List ℕ) (g : Laid bytes p n out₀ i k out) where
    pub laid_miss : i < n → p i ≡ false → Laid bytes p n out₀ (i + 1) k out
    laid_miss h e = record { size = g.size; counted = omega (arith, g.counted, count_more p i, ap bit e); so_far = rw (← left_miss p n i h e) g.so_far }

    pub laid_put : (row : List ℕ) → i < n → k * 4 + 4 ≤ length out → p i ≡ true → row ≡ bytes i → length row ≡ 4 → Laid bytes p n out₀ (i + 1) (k + 1) (paste out (k * 4) row 4)
    unfolding laid
    laid_put row h room e f four = record {
      size = put_size out k row room four ∙ g.size;
      counted = omega (arith, g.counted, count_more p i, ap bit e);
      so_far =
          ap (λ (xs : List ℕ). xs ++ laid bytes (left p n (i + 1))) (put_next out k row room four) ∙
          (append_assoc (take (k * 4) out) row (laid bytes (left p n (i + 1))) ∙
          (ap (λ (xs : List ℕ). take (k * 4) out ++ (xs ++ laid bytes (left p n (i + 1)))) f ∙
          (ap (λ (xs : List ℕ). take (k * 4) out ++ laid bytes xs) (sym (left_hit p n i h e)) ∙ g.so_far)));
    }

    pub laid_all : i ≡ n → LaidIn (count p n) (laid bytes (listed p 0 n)) k out
    unfolding laid
    laid_all e = record {
      counted = g.counted ∙ ap (count p) e;
      begins = sym (append-nil (take (k * 4) out)) ∙ (ap (λ (xs : List ℕ). take (k * 4) out ++ laid bytes xs) (sym (left_end p n i (omega arith))) ∙ g.so_far);
    }
