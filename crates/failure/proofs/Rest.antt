-- The digits of a number taken off one by one, link by link in rising order: the laws of a loop. Assumes nothing.
use Prim.Native.Nat.{ℕ, zero, suc, ◌+◌, ◌-◌, ◌<◌, ◌≤◌, ◌/◌, ◌%◌}
use mathlib.Core.Path.{◌≡◌, refl, sym, ◌∙◌, ap}
use mathlib.Core.Bool.{Bool, true, false, cond, not}
use mathlib.Core.List.{List, ◌∷◌}
use native.Mathlib.Omega.{arith}
use native.Mathlib.Nat.{sub-zero}
use lib.Dec.{eqb}
use borrow.Author.Tests.{ne_eqb, eq-eqb}
use Rattle.laws.specs.Lowest.{lowest}
use Rattle.laws.specs.Listed.{listed}
use Rattle.laws.proofs.Lowest.{Searched, searched_none, searched_more, searched_stop, searched_end}
use Rattle.laws.proofs.Listed.{left, left_hit, left_miss}
use Rattle.calculus.specs.Status.{Value, Unset}
use Rattle.conditions.specs.Numbers.{undigit, assign}
use Rattle.conditions.specs.Failure.{is_false}

false_digit : (x : ℕ) → eqb x 1 ≡ is_false (undigit x)
unfolding undigit
false_digit zero = refl
false_digit (suc zero) = refl
false_digit (suc (suc x)) = ne_eqb (suc (suc x)) 1 (λ (e : suc (suc x) ≡ 1). omega arith)

module _ (p : ℕ → Bool) where
  -- a link below the first that is listed is unset
  assign_above : (i c x k : ℕ) → k < i → assign (listed p i c) x k ≡ Unset
  unfolding assign listed
  assign_above i zero x k h = refl
  assign_above i (suc c) x k h = at (p i) (λ y. assign_above (suc i) c y k (omega arith))
    where
      at : (t : Bool) → ((y : ℕ) → assign (listed p (suc i) c) y k ≡ Unset) → assign (cond t (i ∷ listed p (suc i) c) (listed p (suc i) c)) x k ≡ Unset
      at true ih = rw (ne_eqb k i (λ (e : k ≡ i). omega arith)) (ih (x / 3))
      at false ih = ih x

  module _ (m x : ℕ) where
    abbrev not_false : ℕ → Bool
    not_false l = not (is_false (assign (listed p 0 m) x l))

    -- the links below l are not false; from l on, the values are those of the rest of the number over what is left of the list
    pub record Rest (l rest : ℕ) : Type 0 where
      pub upto : l ≤ m
      pub searched : Searched not_false m l
      pub same : (k : ℕ) → l ≤ k → assign (listed p 0 m) x k ≡ assign (left p m l) rest k

    pub rest_none : Rest 0 x
    rest_none = record { upto = omega arith; searched = searched_none not_false m; same = (λ k h. rw sub-zero) }

    module _ (l rest : ℕ) (s : Rest l rest) where
      pub rest_end : m ≤ l → m ≡ lowest not_false 0 m
      rest_end h = omega (arith, s.upto, searched_end not_false m l s.searched h)

      module _ (h : l < m) where
        hit : p l ≡ true → (k : ℕ) → l ≤ k → assign (listed p 0 m) x k ≡ cond (eqb k l) (undigit (rest % 3)) (assign (left p m (l + 1)) (rest / 3) k)
        unfolding assign
        hit e k g = s.same k g ∙ ap (λ (ls : List ℕ). assign ls rest k) (left_hit p m l h e)

        digit_there : p l ≡ true → not_false l ≡ not (eqb (rest % 3) 1)
        digit_there e =
            let own : assign (listed p 0 m) x l ≡ undigit (rest % 3) = hit e l (omega arith) ∙ rw (eq-eqb l l refl) refl in
            ap not (ap is_false own ∙ sym (false_digit (rest % 3)))

        pub rest_here : p l ≡ true → rest % 3 ≡ 1 → l ≡ lowest not_false 0 m
        rest_here e d = searched_stop not_false m l s.searched h (digit_there e ∙ rw (eq-eqb (rest % 3) 1 d) refl)

        pub rest_hit : p l ≡ true → (rest % 3 ≡ 1 → ⊥) → Rest (l + 1) (rest / 3)
        rest_hit e d = record {
          upto = omega arith;
          searched = searched_more not_false m l s.searched h (digit_there e ∙ rw (ne_eqb (rest % 3) 1 d) refl);
          same = (λ k g. hit e k (omega arith) ∙ rw (ne_eqb k l (λ (z : k ≡ l). omega arith)) refl);
        }

        pub rest_miss : p l ≡ false → Rest (l + 1) rest
        rest_miss e = record {
          upto = omega arith;
          searched = searched_more not_false m l s.searched h (ap (λ (u : Value). not (is_false u)) (miss l (omega arith) ∙ assign_above (l + 1) (m - (l + 1)) rest l (omega arith)));
          same = (λ k g. miss k (omega arith));
        }
          where
            miss : (k : ℕ) → l ≤ k → assign (listed p 0 m) x k ≡ assign (left p m (l + 1)) rest k
            miss k g = s.same k g ∙ ap (λ (ls : List ℕ). assign ls rest k) (left_miss p m l h e)
