-- The constant words and powers, and the words that are made digit by digit or lane by lane. Assumes nothing.
use Prim.Native.Nat.{ℕ, zero, suc, ◌+◌, ◌-◌, ◌^◌, ◌<◌, ◌≤◌, ◌/◌, ◌%◌}
use mathlib.Core.Path.{◌≡◌, refl, sym, ◌∙◌, ap, ap₂}
use mathlib.Core.Bool.{Bool, true, false, not}
use mathlib.Core.Logic.{by_cases}
use native.Mathlib.Omega.{arith}
use native.Mathlib.Decide.{ℕ_discrete}
use native.Mathlib.Nat.{pow-suc}
use lib.Dec.{eqb}
use lib.ListN.{get_or}
use lib.Bits.{bit_or}
use borrow.Author.Tests.{eq-eqb, ne_eqb}
use Rattle.laws.specs.Tests.{or}
use Rattle.laws.specs.Lowest.{lowest}
use Rattle.laws.proofs.Lowest.{lowest_below}
use Rattle.laws.proofs.Tests.{same, same_is, self, or_r, or_none}
use Rattle.reach.specs.Masks.{has_bit}
use Rattle.reach.proofs.Bits.{bit_full, bit_none, bit_not, bit_or_law, bit_power}
use Rattle.words.specs.declared.TheConstants.{PATTERNS}
use Rattle.words.specs.Words.{DigitWord}

-- all lanes of a word, tested at once
abbrev lanes : ℕ → ℕ → ℕ
lanes word i = lowest (λ j. same (has_bit word j) (eqb (j / 2 ^ i % 2) 1)) 0 64

lane_of : (word i : ℕ) → lanes word i ≡ 64 → (j : ℕ) → j < 64 → has_bit word j ≡ eqb (j / 2 ^ i % 2) 1
lane_of word i e j h = same_is _ _ (lowest_below (λ j. same (has_bit word j) (eqb (j / 2 ^ i % 2) 1)) 0 64 j (omega arith) (omega arith))

pub pattern_low : (i : ℕ) → i < 6 → (x : ℕ) → x % 64 ≡ 0 → DigitWord 2 1 i x (get_or PATTERNS i 0)
unfolding DigitWord has_bit lowest
pattern_low zero h x e j k = lane_of 12297829382473034410 0 refl j k ∙ ap (λ (d : ℕ). eqb d 1) (let z : j / 1 % 2 ≡ (x + j) / 1 % 2 = omega arith in z)
pattern_low (suc zero) h x e j k = lane_of 14757395258967641292 1 refl j k ∙ ap (λ (d : ℕ). eqb d 1) (let z : j / 2 % 2 ≡ (x + j) / 2 % 2 = omega arith in z)
pattern_low (suc (suc zero)) h x e j k = lane_of 17361641481138401520 2 refl j k ∙ ap (λ (d : ℕ). eqb d 1) (let z : j / 4 % 2 ≡ (x + j) / 4 % 2 = omega arith in z)
pattern_low (suc (suc (suc zero))) h x e j k = lane_of 18374966859414961920 3 refl j k ∙ ap (λ (d : ℕ). eqb d 1) (let z : j / 8 % 2 ≡ (x + j) / 8 % 2 = omega arith in z)
pattern_low (suc (suc (suc (suc zero)))) h x e j k = lane_of 18446462603027742720 4 refl j k ∙ ap (λ (d : ℕ). eqb d 1) (let z : j / 16 % 2 ≡ (x + j) / 16 % 2 = omega arith in z)
pattern_low (suc (suc (suc (suc (suc zero))))) h x e j k = lane_of 18446744069414584320 5 refl j k ∙ ap (λ (d : ℕ). eqb d 1) (let z : j / 32 % 2 ≡ (x + j) / 32 % 2 = omega arith in z)
pattern_low (suc (suc (suc (suc (suc (suc i)))))) h x e j k = absurd (omega arith)

-- from bit 6 on all lanes agree
same_above : (i : ℕ) → 6 ≤ i → i < 8 → (x j : ℕ) → x % 64 ≡ 0 → j < 64 → (x + j) / 2 ^ i % 2 ≡ x / 2 ^ i % 2
same_above zero h k x j e l = absurd (omega arith)
same_above (suc zero) h k x j e l = absurd (omega arith)
same_above (suc (suc zero)) h k x j e l = absurd (omega arith)
same_above (suc (suc (suc zero))) h k x j e l = absurd (omega arith)
same_above (suc (suc (suc (suc zero)))) h k x j e l = absurd (omega arith)
same_above (suc (suc (suc (suc (suc zero))))) h k x j e l = absurd (omega arith)
same_above (suc (suc (suc (suc (suc (suc zero)))))) h k x j e l = let z : (x + j) / 64 % 2 ≡ x / 64 % 2 = omega arith in z
same_above (suc (suc (suc (suc (suc (suc (suc zero))))))) h k x j e l = let z : (x + j) / 128 % 2 ≡ x / 128 % 2 = omega arith in z
same_above (suc (suc (suc (suc (suc (suc (suc (suc i)))))))) h k x j e l = absurd (omega arith)

module _ (i : ℕ) (h : 6 ≤ i) (k : i < 8) (x : ℕ) (e : x % 64 ≡ 0) where
  pub pattern_ones : x / 2 ^ i % 2 ≡ 1 → DigitWord 2 1 i x 18446744073709551615
  unfolding DigitWord
  pattern_ones q j l = bit_full 64 j l ∙ sym (eq-eqb _ 1 (same_above i h k x j e l ∙ q))

  pub pattern_zeros : (x / 2 ^ i % 2 ≡ 1 → ⊥) → DigitWord 2 1 i x 0
  unfolding DigitWord
  pattern_zeros q j l = bit_none j ∙ sym (ne_eqb _ 1 (λ z. q (sym (same_above i h k x j e l) ∙ z)))

other_bit : (a d : ℕ) → a < 2 → d < 2 → (d ≡ 1 → ⊥) → not (eqb a 1) ≡ eqb a d
other_bit a zero h k z = at a h
  where
    at : (a : ℕ) → a < 2 → not (eqb a 1) ≡ eqb a 0
    at zero h = refl
    at (suc zero) h = refl
    at (suc (suc a)) h = absurd (omega arith)
other_bit a (suc zero) h k z = absurd (z refl)
other_bit a (suc (suc d)) h k z = absurd (omega arith)

-- the lanes at which a bit is not 1
pub word_not : (d i x r : ℕ) → r < 2 ^ 64 → d < 2 → (d ≡ 1 → ⊥) → DigitWord 2 1 i x r → DigitWord 2 d i x (2 ^ 64 - 1 - r)
unfolding DigitWord
word_not d i x r h k z f j l = bit_not 64 r j h l ∙ ap not (f j l) ∙ other_bit ((x + j) / 2 ^ i % 2) d (omega arith) k z

-- A word that is made lane by lane and has come to lane j.
pub record Laned (p : ℕ → Bool) (j word : ℕ) : Type 0 where
  pub done : (k : ℕ) → k < j → has_bit word k ≡ p k
  pub clear : (k : ℕ) → j ≤ k → has_bit word k ≡ false

pub laned_none : (p : ℕ → Bool) → Laned p 0 0
laned_none p = record { done = (λ k h. absurd (omega arith)); clear = (λ k h. bit_none k) }

module _ (p : ℕ → Bool) (j word : ℕ) (s : Laned p j word) where
  with_bit : (k : ℕ) → has_bit (bit_or word (2 ^ j)) k ≡ or (has_bit word k) (eqb k j)
  with_bit k = bit_or_law word (2 ^ j) k ∙ ap (or (has_bit word k)) (bit_power j k)

  pub laned_hit : p j ≡ true → Laned p (j + 1) (bit_or word (2 ^ j))
  unfolding or
  laned_hit e = record {
    done = (λ k h. by_cases (ℕ_discrete k j)
        (λ (z : k ≡ j). rw z (with_bit j ∙ or_r (has_bit word j) (self j) ∙ sym e))
        (λ (z : k ≡ j → ⊥). with_bit k ∙ ap (or (has_bit word k)) (ne_eqb k j z) ∙ or_none (has_bit word k) ∙ s.done k (omega arith)));
    clear = (λ k h. with_bit k ∙ ap₂ or (s.clear k (omega arith)) (ne_eqb k j (λ (z : k ≡ j). omega arith)));
  }

  pub laned_miss : p j ≡ false → Laned p (j + 1) word
  laned_miss e = record {
    done = (λ k h. by_cases (ℕ_discrete k j) (λ (z : k ≡ j). rw z (s.clear j (omega arith) ∙ sym e)) (λ (z : k ≡ j → ⊥). s.done k (omega arith)));
    clear = (λ k h. s.clear k (omega arith));
  }

-- digit i of lane k is d
unfoldable pub digit_at : ℕ → ℕ → ℕ → ℕ → ℕ → Bool
digit_at b d i x k = eqb ((x + k) / b ^ i % b) d

module _ (b d i x k power : ℕ) (is : power ≡ b ^ i) where
  pub digit_hit : (x + k) / power % b ≡ d → digit_at b d i x k ≡ true
  unfolding digit_at
  digit_hit e = rw (← is) (eq-eqb _ d e)

  pub digit_miss : ((x + k) / power % b ≡ d → ⊥) → digit_at b d i x k ≡ false
  unfolding digit_at
  digit_miss e = rw (← is) (ne_eqb _ d e)

pub laned_end : (b d i x j word : ℕ) → 64 ≤ j → Laned (digit_at b d i x) j word → DigitWord b d i x word
unfolding DigitWord digit_at
laned_end b d i x j word h s k l = s.done k (omega arith)

pub three_positive : (i : ℕ) → 0 < 3 ^ i
three_positive zero = omega arith
three_positive (suc i) = omega (arith, three_positive i, pow-suc 3 i)
