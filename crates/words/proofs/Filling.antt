-- The laws of a table of words that is filled link by link. Assumes nothing.
use Prim.Native.Nat.{ℕ, zero, suc, ◌+◌, ◌-◌, ◌^◌, ◌<◌, ◌≤◌, ◌/◌, ◌%◌}
use mathlib.Core.Path.{◌≡◌, refl, sym, ◌∙◌, ap}
use mathlib.Core.Bool.{Bool, true, false, cond}
use mathlib.Core.List.{List, ◌∷◌}
use mathlib.Core.Logic.{by_cases}
use native.Mathlib.Omega.{arith}
use native.Mathlib.Decide.{ℕ_discrete, dec_lt}
use native.Mathlib.Nat.{sub-zero, div-one, pow-zero, pow-suc, div-div-eq-div-mul}
use native.Mathlib.Numerals.{add-one}
use lib.Dec.{eqb}
use lib.ListN.{length, get_or, set, replicate, length-set}
use lib.Seq.{get_or-set_same, get_or-set_other}
use borrow.Author.Tests.{ne_eqb, eq-eqb}
use Rattle.laws.specs.Listed.{listed}
use Rattle.laws.proofs.Listed.{left, left_hit, left_miss, left_end, Counted, counted_none, counted_hit, counted_miss}
use Rattle.laws.proofs.Up.{get_d_constant}
use Rattle.reach.specs.Masks.{has_bit}
use Rattle.reach.proofs.Bits.{bit_none}
use Rattle.words.specs.Words.{DigitWord, digit_is, Words}

module _ (b d : ℕ) (p : ℕ → Bool) where
  -- a link below the first that is listed has no digit
  digit_above : (i c x k : ℕ) → k < i → digit_is b d (listed p i c) x k ≡ false
  unfolding digit_is listed
  digit_above i zero x k h = refl
  digit_above i (suc c) x k h = at (p i) (λ y. digit_above (suc i) c y k (omega arith))
    where
      at : (t : Bool) → ((y : ℕ) → digit_is b d (listed p (suc i) c) y k ≡ false) → digit_is b d (cond t (i ∷ listed p (suc i) c) (listed p (suc i) c)) x k ≡ false
      at true ih = rw (ne_eqb k i (λ (e : k ≡ i). omega arith)) (ih (x / b))
      at false ih = ih x

  module _ (m x : ℕ) where
    -- i links are listed below l
    pub record Worded (i l : ℕ) (t : List ℕ) : Type 0 where
      pub done : (k : ℕ) → k < l → (j : ℕ) → j < 64 → has_bit (get_or t k 0) j ≡ digit_is b d (listed p 0 m) (x + j) k
      pub clear : (k : ℕ) → l ≤ k → get_or t k 0 ≡ 0
      pub more : (k : ℕ) → l ≤ k → (s : ℕ) → digit_is b d (listed p 0 m) s k ≡ digit_is b d (left p m l) (s / b ^ i) k
      pub count : Counted p m l i
      pub long : length t ≡ 64

    pub worded_none : Worded 0 0 (replicate 64 0)
    worded_none = record {
      done = (λ k h. absurd (omega arith));
      clear = (λ k h. get_d_constant {A = ℕ} 0 64 k);
      more = (λ k h s. rw (sub-zero, pow-zero b, div-one s));
      count = counted_none p m;
      long = refl;
    }

    module _ (i l : ℕ) (t : List ℕ) (g : Worded i l t) (h : l < m) where
      hit_more : p l ≡ true → (k : ℕ) → l ≤ k → (s : ℕ) → digit_is b d (listed p 0 m) s k ≡ cond (eqb k l) (eqb (s / b ^ i % b) d) (digit_is b d (left p m (l + 1)) (s / b ^ (i + 1)) k)
      unfolding digit_is
      hit_more e k q s =
          let z : s / b ^ i / b ≡ s / b ^ (i + 1) = div-div-eq-div-mul s (b ^ i) b ∙ ap (λ (y : ℕ). s / y) (sym (ap (λ (n : ℕ). b ^ n) (add-one i) ∙ pow-suc b i)) in
          g.more k q s ∙ ap (λ (ls : List ℕ). digit_is b d ls (s / b ^ i) k) (left_hit p m l h e) ∙ ap (λ (y : ℕ). cond (eqb k l) (eqb (s / b ^ i % b) d) (digit_is b d (left p m (l + 1)) y k)) z

      pub worded_hit : (y : ℕ) → m ≤ 64 → p l ≡ true → DigitWord b d i x y → Worded (i + 1) (l + 1) (set t l y)
      unfolding DigitWord
      worded_hit y w e q = record {
        done = (λ k f j f'. by_cases (ℕ_discrete k l)
            (λ (z : k ≡ l). rw (z, get_or-set_same t l y 0 (omega (arith, g.long))) (q j f' ∙ sym (hit_more e l (omega arith) (x + j) ∙ rw (eq-eqb l l refl))))
            (λ (z : k ≡ l → ⊥). rw (get_or-set_other t l k y 0 z) (g.done k (omega arith) j f')));
        clear = (λ k f. get_or-set_other t l k y 0 (λ (z : k ≡ l). omega arith) ∙ g.clear k (omega arith));
        more = (λ k f s. hit_more e k (omega arith) s ∙ rw (ne_eqb k l (λ (z : k ≡ l). omega arith)));
        count = counted_hit p m l i h e g.count;
        long = length-set t l y ∙ g.long;
      }

      pub worded_miss : p l ≡ false → Worded i (l + 1) t
      worded_miss e = record {
        done = (λ k f j f'. by_cases (ℕ_discrete k l)
            (λ (z : k ≡ l). rw (z, g.clear l (omega arith)) (bit_none j ∙ sym (g.more l (omega arith) (x + j) ∙ ap (λ (ls : List ℕ). digit_is b d ls ((x + j) / b ^ i) l) (left_miss p m l h e) ∙ digit_above (l + 1) (m - (l + 1)) ((x + j) / b ^ i) l (omega arith))))
            (λ (z : k ≡ l → ⊥). g.done k (omega arith) j f'));
        clear = (λ k f. g.clear k (omega arith));
        more = (λ k f s. g.more k (omega arith) s ∙ ap (λ (ls : List ℕ). digit_is b d ls (s / b ^ i) k) (left_miss p m l h e));
        count = counted_miss p m l i h e g.count;
        long = g.long;
      }

      -- a link that is listed has one of the digits
      pub worded_few : p l ≡ true → i < length (listed p 0 m)
      unfolding Counted
      worded_few e = let c : i + length (left p m l) ≡ length (listed p 0 m) = g.count in let z : length (left p m l) ≡ suc (length (left p m (l + 1))) = ap length (left_hit p m l h e) in omega arith

    pub worded_end : (i l : ℕ) (t : List ℕ) → Worded i l t → m ≤ l → Words b d (listed p 0 m) x t
    unfolding Words digit_is
    worded_end i l t g h k f j f' = at (dec_lt k l)
      where
        at : Dec (k < l) → has_bit (get_or t k 0) j ≡ digit_is b d (listed p 0 m) (x + j) k
        at (yes q) = g.done k q j f'
        at (no q) = ap (λ (w : ℕ). has_bit w j) (g.clear k (omega arith)) ∙ bit_none j ∙ sym (g.more k (omega arith) (x + j) ∙ ap (λ (ls : List ℕ). digit_is b d ls ((x + j) / b ^ i) k) (left_end p m l h))
