-- Blocks of 64 numbers: the lowest at which a test fails, from words of the lanes at which it does. Assumes nothing.
use Prim.Native.Nat.{ℕ, ◌+◌, ◌-◌, ◌^◌, ◌<◌, ◌≤◌}
use mathlib.Core.Path.{◌≡◌, sym, ◌∙◌, ap}
use mathlib.Core.Bool.{Bool, true, false, not}
use mathlib.Core.Logic.{by_cases}
use native.Mathlib.Omega.{arith}
use native.Mathlib.Decide.{dec_lt}
use lib.Count.{count_trailing_zeros}
use borrow.Author.Tests.{not-true, not-false}
use Rattle.laws.specs.Lowest.{lowest}
use Rattle.laws.proofs.Lowest.{lowest_at, lowest_below, lowest_none, lowest_is}
use Rattle.reach.specs.Masks.{has_bit}
use Rattle.reach.proofs.Bits.{bit_none, bits_some, trailing_lowest}
use Rattle.failure.specs.Blocks.{Failing}

-- the test holds at every number below x
unfoldable pub Below : (ℕ → Bool) → ℕ → Type 0
Below p x = (s : ℕ) → s < x → p s ≡ true

pub below_none : (p : ℕ → Bool) → Below p 0
unfolding Below
below_none p s h = absurd (let z : ⊥ = omega arith in z)

-- where that is so up to the end, the lowest is the end
pub lowest_end : (p : ℕ → Bool) (all x : ℕ) → all ≤ x → Below p x → all ≡ lowest p 0 all
unfolding Below
lowest_end p all x h f =
    let z : lowest p 0 all ≡ 0 + all = lowest_none p 0 all (λ j a b. f j (omega arith)) in
    omega arith

module _ (p : ℕ → Bool) (x word : ℕ) (o : Failing p x word) where
  lane_holds : (j : ℕ) → j < 64 → has_bit word j ≡ false → p (x + j) ≡ true
  unfolding Failing
  lane_holds j h e = not-false (p (x + j)) (sym (o j h) ∙ e)

  lane_fails : (j : ℕ) → j < 64 → has_bit word j ≡ true → p (x + j) ≡ false
  unfolding Failing
  lane_fails j h e = not-true (p (x + j)) (sym (o j h) ∙ e)

  -- below x plus the first n lanes
  below_upto : Below p x → (n : ℕ) → n ≤ 64 → ((j : ℕ) → j < n → has_bit word j ≡ false) → Below p (x + n)
  unfolding Below
  below_upto f n h none s k =
      by_cases (dec_lt s x) (λ q. f s q)
      (λ q. let z : x + (s - x) ≡ s = omega arith in ap p (sym z) ∙ lane_holds (s - x) (omega arith) (none (s - x) (omega arith)))

  pub below_more : Below p x → word ≡ 0 → Below p (x + 64)
  below_more f z = below_upto f 64 (omega arith) (λ j h. ap (λ (w : ℕ). has_bit w j) z ∙ bit_none j)

  module _ (small : word < 2 ^ 64) (some : word ≡ 0 → ⊥) where
    abbrev first : ℕ
    first = count_trailing_zeros 64 word

    first_lane : first < 64
    first_lane = rw (trailing_lowest 64 word) (bits_some 64 word small some)

    first_fails : p (x + first) ≡ false
    first_fails =
        let k : lowest (λ j. not (has_bit word j)) 0 64 < 64 = bits_some 64 word small some in
        lane_fails first first_lane (ap (has_bit word) (trailing_lowest 64 word) ∙ not-false (has_bit word (lowest (λ j. not (has_bit word j)) 0 64)) (lowest_at (λ j. not (has_bit word j)) 0 64 (omega arith)))

    module _ (f : Below p x) (all : ℕ) where
      below_first : Below p (x + first)
      below_first =
          let z : first ≡ lowest (λ j. not (has_bit word j)) 0 64 = trailing_lowest 64 word in
          below_upto f first (omega (arith, first_lane)) (λ j k. not-true (has_bit word j) (lowest_below (λ j. not (has_bit word j)) 0 64 j (omega arith) (omega arith)))

      -- where the first lane lies past the end, there is no such number
      pub lowest_past : all ≤ x + first → all ≡ lowest p 0 all
      lowest_past h = lowest_end p all (x + first) h below_first

      pub lowest_here : x + first < all → x + first ≡ lowest p 0 all
      unfolding Below
      lowest_here h = sym (lowest_is p 0 all (x + first) (omega arith) (λ j a b. below_first j b) (omega arith) first_fails)
