-- Masks within others. Assumes nothing.
use Prim.Native.Nat.{ℕ, ◌<◌, ◌^◌}
use mathlib.Core.Path.{◌≡◌, sym, ◌∙◌, ap}
use mathlib.Core.Bool.{true, not, ◌&&◌}
use mathlib.Core.Logic.{⊎_elim}
use lib.Bits.{bit_or, or_lt}
use lib.Dec.{eqb}
use borrow.Author.Tests.{eq-eqb, eqb-true, not-true, not-false}
use Rattle.laws.proofs.Tests.{both_ways, not_both, refuted, or_true, or_l, or_r, and_l, and_r}
use Rattle.laws.proofs.Sums.{count_none}
use Rattle.reach.specs.Masks.{has_bit, within}
use Rattle.reach.proofs.Bits.{bit_or_law, bits_same}

module _ (a b : ℕ) where
  pub within_has : within a b ≡ true → (l : ℕ) → l < 64 → has_bit a l ≡ true → has_bit b l ≡ true
  unfolding within
  within_has e l h p = not-false (has_bit b l) (rw p at ((count_none (λ l. has_bit a l && not (has_bit b l)) 64).0 (eqb-true _ 0 e) l h))

  pub within_all : ((l : ℕ) → l < 64 → has_bit a l ≡ true → has_bit b l ≡ true) → within a b ≡ true
  unfolding within
  within_all f = eq-eqb _ 0 ((count_none (λ l. has_bit a l && not (has_bit b l)) 64).1 (λ l h. refuted _ (λ e. not_both (f l h (and_l _ _ e)) (not-true (has_bit b l) (and_r (has_bit a l) _ e)))))

  -- the code's test
  pub within_is : a < 2 ^ 64 → b < 2 ^ 64 → eqb (bit_or a b) b ≡ within a b
  within_is p q =
      both_ways
      (λ e. within_all (λ l h z. ap (λ (x : ℕ). has_bit x l) (sym (eqb-true (bit_or a b) b e)) ∙ (bit_or_law a b l ∙ or_l (has_bit b l) z)))
      (λ e. eq-eqb (bit_or a b) b (bits_same 64 (bit_or a b) b (or_lt 64 a b p q) q (λ l h. bit_or_law a b l ∙ both_ways (λ z. ⊎_elim (within_has e l h) (λ y. y) (or_true z)) (or_r (has_bit a l)))))

-- two masks are within both together
pub within_first : (a b : ℕ) → within a (bit_or a b) ≡ true
within_first a b = within_all a (bit_or a b) (λ l h p. bit_or_law a b l ∙ or_l (has_bit b l) p)

pub within_second : (a b : ℕ) → within b (bit_or a b) ≡ true
within_second a b = within_all b (bit_or a b) (λ l h p. bit_or_law a b l ∙ or_r (has_bit a l) p)
