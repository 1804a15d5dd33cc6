-- Link values as bytes: those that a number makes, those without one link, and true for those that are unset. Assumes nothing.
use Prim.Native.Nat.{ℕ, zero, suc, ◌+◌, ◌*◌, ◌<◌, ◌≤◌, ◌/◌, ◌%◌}
use mathlib.Core.Path.{◌≡◌, refl, sym, ◌∙◌, ap, fun_ext}
use mathlib.Core.Bool.{Bool, true, false, cond}
use mathlib.Core.List.{List, Memᴰ}
use mathlib.Core.Logic.{⊎_elim, by_cases}
use native.Mathlib.Omega.{arith}
use native.Mathlib.Nat.{sub-zero}
use native.Mathlib.Decide.{ℕ_discrete, dec_lt}
use lib.Dec.{eqb, ltb}
use lib.ListN.{get_or, length, set, length-set, get_or-eq_default, replicate}
use lib.Seq.{get_or-set_same, get_or-set_other}
use borrow.Author.Tests.{eq-eqb, ne_eqb, lt-ltb, le-ltb}
use Rattle.laws.specs.Tests.{bit}
use Rattle.laws.specs.Listed.{listed}
use Rattle.laws.proofs.Up.{get_d_constant}
use Rattle.laws.proofs.Listed.{left, left_hit, left_miss, left_end, listed_inside}
use Rattle.calculus.specs.Status.{Unset, truth, Links, with_unset}
use Rattle.conditions.specs.Numbers.{undigit, assign}
use Rattle.conditions.proofs.Failure.{assign_among}
use Rattle.evaluate.specs.Values.{links_in}
use Rattle.damage.specs.Scene.{true_where_unset}
use Rattle.scene.specs.Lays.{TrueWhereUnset}

-- a link's value is that of its byte; 0 is unset
links_at_law : (t : List ℕ) (l : ℕ) → l < 64 → links_in t l ≡ undigit (get_or t l 0)
unfolding links_in
links_at_law t l h = rw (lt-ltb l 64 h) refl

links_above : (t : List ℕ) (l : ℕ) → 64 ≤ l → links_in t l ≡ Unset
unfolding links_in
links_above t l h = rw (le-ltb l 64 h) refl

byte_unset : (x : ℕ) → x ≡ 0 → undigit x ≡ Unset
unfolding undigit
byte_unset x e = rw e refl

byte_set : (x : ℕ) → (x ≡ 0 → ⊥) → undigit x ≡ truth (ltb 1 x)
unfolding undigit
byte_set zero h = absurd (h refl)
byte_set (suc zero) h = refl
byte_set (suc (suc x)) h = rw (lt-ltb 1 (suc (suc x)) (omega arith)) refl

-- what a test of a link's byte says
module _ (t : List ℕ) (l : ℕ) (h : l < 64) where
  pub link_unset : get_or t l 0 ≡ 0 → links_in t l ≡ Unset
  link_unset e = links_at_law t l h ∙ byte_unset (get_or t l 0) e

  pub link_set : (get_or t l 0 ≡ 0 → ⊥) → links_in t l ≡ truth (ltb 1 (get_or t l 0))
  link_set e = links_at_law t l h ∙ byte_set (get_or t l 0) e

-- THE DIGITS OF A NUMBER, link by link
module _ (p : ℕ → Bool) (m x : ℕ) where
  abbrev v : Links
  v = assign (listed p 0 m) x

  -- the links below l are told, the others are 0; from l on, the values are those of the rest of the number over what is left of the list
  pub record Digits (l rest : ℕ) (t : List ℕ) : Type 0 where
    pub upto : l ≤ m
    pub size : length t ≡ 64
    pub told : (k : ℕ) → k < l → undigit (get_or t k 0) ≡ v k
    pub clear : (k : ℕ) → l ≤ k → get_or t k 0 ≡ 0
    pub same : (k : ℕ) → l ≤ k → v k ≡ assign (left p m l) rest k

  pub digits_none : Digits 0 x (replicate 64 0)
  digits_none = record { upto = omega arith; size = refl; told = λ k h. absurd (omega arith); clear = λ k h. get_d_constant {A = ℕ} 0 64 k; same = λ k h. rw sub-zero refl }

  module _ (few : m ≤ 64) (l rest : ℕ) (t : List ℕ) (w : Digits l rest t) where
    pub digits_all : m ≤ l → links_in t ≡ v
    unfolding assign
    digits_all h = fun_ext (λ k. by_cases (dec_lt k l)
        (λ g. links_at_law t k (omega (arith, w.upto)) ∙ w.told k g)
        (λ g. none k (omega arith) ∙ sym (w.same k (omega arith) ∙ ap (λ (ls : List ℕ). assign ls rest k) (left_end p m l h))))
      where
        none : (k : ℕ) → l ≤ k → links_in t k ≡ Unset
        none k g = by_cases (dec_lt k 64) (λ h. links_at_law t k h ∙ byte_unset (get_or t k 0) (w.clear k g)) (λ h. links_above t k (omega arith))

    module _ (h : l < m) where
      pub digits_hit : p l ≡ true → Digits (l + 1) (rest / 3) (set t l (rest % 3))
      unfolding assign
      digits_hit e = record {
        upto = omega arith;
        size = length-set t l (rest % 3) ∙ w.size;
        told = λ k g. by_cases (ℕ_discrete k l)
            (λ (z : k ≡ l). rw z (ap undigit (get_or-set_same t l (rest % 3) 0 (omega (arith, w.size))) ∙ sym (hit l (omega arith) ∙ rw (eq-eqb l l refl) refl)))
            (λ z. ap undigit (get_or-set_other t l k (rest % 3) 0 z) ∙ w.told k (omega arith));
        clear = λ k g. get_or-set_other t l k (rest % 3) 0 (λ z. omega arith) ∙ w.clear k (omega arith);
        same = λ k g. hit k (omega arith) ∙ rw (ne_eqb k l (λ z. omega arith)) refl;
      }
        where
          hit : (k : ℕ) → l ≤ k → v k ≡ cond (eqb k l) (undigit (rest % 3)) (assign (left p m (l + 1)) (rest / 3) k)
          hit k g = w.same k g ∙ ap (λ (ls : List ℕ). assign ls rest k) (left_hit p m l h e)

      pub digits_miss : p l ≡ false → Digits (l + 1) rest t
      digits_miss e = record {
        upto = omega arith;
        size = w.size;
        told = λ k g. by_cases (ℕ_discrete k l)
            (λ (z : k ≡ l). rw z (byte_unset (get_or t l 0) (w.clear l (omega arith)) ∙ sym (miss l (omega arith) ∙ unlisted)))
            (λ z. w.told k (omega arith));
        clear = λ k g. w.clear k (omega arith);
        same = λ k g. miss k (omega arith);
      }
        where
          miss : (k : ℕ) → l ≤ k → v k ≡ assign (left p m (l + 1)) rest k
          miss k g = w.same k g ∙ ap (λ (ls : List ℕ). assign ls rest k) (left_miss p m l h e)

          unlisted : assign (left p m (l + 1)) rest l ≡ Unset
          unlisted = ⊎_elim (λ u. u) (λ (i : Memᴰ l (left p m (l + 1))). absurd (let z : ⊥ = omega (arith, (listed_inside p _ _ l i).0) in z)) (assign_among (left p m (l + 1)) rest l)

-- WITHOUT ONE LINK
module _ (t : List ℕ) (l : ℕ) where
  byte_cleared : get_or (set t l 0) l 0 ≡ 0
  byte_cleared = by_cases (dec_lt l (length t)) (λ h. get_or-set_same t l 0 0 h) (λ h. get_or-eq_default (set t l 0) 0 (omega (arith, length-set t l 0)))

  without_other : (k : ℕ) → (k ≡ l → ⊥) → links_in (set t l 0) k ≡ links_in t k
  unfolding links_in
  without_other k z = ap (λ (x : ℕ). cond (ltb k 64) (undigit x) Unset) (get_or-set_other t l k 0 0 z)

  pub links_without : l < 64 → links_in (set t l 0) ≡ with_unset (links_in t) l
  links_without h = fun_ext (λ k. by_cases (ℕ_discrete k l)
      (λ (z : k ≡ l). rw z (links_at_law (set t l 0) l h ∙ (byte_unset _ byte_cleared ∙ sym (rw (eq-eqb l l refl) refl))))
      (λ z. without_other k z ∙ sym (rw (ne_eqb k l z) refl)))

-- TRUE FOR THOSE THAT ARE UNSET
unset_byte : (x y : ℕ) → y ≡ bit (eqb x 0) * 2 → undigit y ≡ true_where_unset (undigit x)
unfolding undigit
unset_byte zero y e = rw e refl
unset_byte (suc zero) y e = rw e refl
unset_byte (suc (suc x)) y e = rw (e, ne_eqb (suc (suc x)) 0 (λ z. omega arith)) refl

pub true_where_unset_told : (values t : List ℕ) → ((k : ℕ) → k < 64 → get_or t k 0 ≡ bit (eqb (get_or values k 0) 0) * 2) → TrueWhereUnset values t
true_where_unset_told values t h l g = links_at_law t l g ∙ (unset_byte (get_or values l 0) (get_or t l 0) (h l g) ∙ sym (ap true_where_unset (links_at_law values l g)))
