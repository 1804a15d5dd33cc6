-- The word operations are the operators, lane by lane. Each operator is one computed test of all values and bits. Assumes nothing.
use Prim.Native.Nat.{ℕ, ◌<◌}
use mathlib.Core.Path.{◌≡◌, refl, sym, ◌∙◌, ap, ap₂, fun_ext, subst}
use mathlib.Core.Bool.{Bool, true, false, cond, ◌&&◌}
use lib.Bits.{bit_and, bit_or}
use Rattle.laws.specs.Tests.{or}
use Rattle.laws.proofs.Tests.{same, same_is, and_l, and_r}
use Rattle.calculus.specs.Status.{Value, Unset, False, True}
use Rattle.conditions.specs.Operators.{Operator, AND, OR, EQ, NE, table}
use Rattle.conditions.specs.Conditions.{Evaluation, Strict, Lazy}
use Rattle.conditions.specs.Meaning.{opposite}
use Rattle.conditions.specs.ByRows.{strictly, operate}
use Rattle.conditions.specs.Failure.{is_true, is_false}
use Rattle.conditions.proofs.Operators.{every₂, every₂_is}
use Rattle.reach.specs.Masks.{has_bit}
use Rattle.reach.proofs.Bits.{bit_and_law, bit_or_law, bit_none, bit_full}
use Rattle.lanes.specs.declared.Lanes.{Lanes}
use Rattle.lanes.specs.Lanes.{Shows, turned, Operated}

-- lanes show values that are the same
pub shows_same : (w : Lanes) (x x' y y' : ℕ → Value) → ((j : ℕ) → x j ≡ y j) → ((j : ℕ) → x' j ≡ y' j) → Shows w x x' → Shows w y y'
shows_same w x x' y y' h k s = subst (Shows w y) (fun_ext k) (subst (λ (z : ℕ → Value). Shows w z x') (fun_ext h) s)

-- a test of both bits is a proof for every bit
abbrev both : (Bool → Bool) → Bool
both p = p true && p false

both_is : (p : Bool → Bool) → both p ≡ true → (k : Bool) → p k ≡ true
both_is p e true = and_l (p true) (p false) e
both_is p e false = and_r (p true) (p false) e

-- a test of all values and bits of two operands
abbrev all : (Value → Value → Bool → Bool → Bool) → Bool
all p = every₂ (λ x y. both (λ k. both (p x y k)))

all_is : (p : Value → Value → Bool → Bool → Bool) → all p ≡ true → (x y : Value) (k l : Bool) → p x y k l ≡ true
all_is p e x y k l = both_is (p x y k) (both_is (λ k. both (p x y k)) (every₂_is (λ x y. both (λ k. both (p x y k))) e x y) k) l

-- a value by its two tests
abbrev by_tests : Bool → Bool → Value
by_tests t f = cond t True (cond f False Unset)

tested : (x : Value) → by_tests (is_true x) (is_false x) ≡ x
tested Unset = refl
tested False = refl
tested True = refl

-- two values that agree
abbrev alike : Value → Value → Bool
alike x y = same (is_true x) (is_true y) && same (is_false x) (is_false y)

alike_is : (x y : Value) → alike x y ≡ true → x ≡ y
alike_is x y e =
    let t = same (is_true x) (is_true y) in
    let f = same (is_false x) (is_false y) in
    sym (tested x) ∙ ap₂ by_tests (same_is (is_true x) (is_true y) (and_l t f e)) (same_is (is_false x) (is_false y) (and_r t f e)) ∙ tested y

-- A formula over the words of two operands: the lanes of the left that are true, that are false, that are kept, those of the right, and two sets of lanes met or joined.
pub data Formula : Type 0 where
  lt lf lk rt rf rk : Formula
  meet join : Formula → Formula → Formula

abbrev pub word : Formula → Lanes → Lanes → ℕ
word lt a b = a.trues
word lf a b = a.falses
word lk a b = a.kept
word rt a b = b.trues
word rf a b = b.falses
word rk a b = b.kept
word (meet F G) a b = bit_and (word F a b) (word G a b)
word (join F G) a b = bit_or (word F a b) (word G a b)

-- what it says of one lane
abbrev test : Formula → Value → Value → Bool → Bool → Bool
test lt x y k l = is_true x
test lf x y k l = is_false x
test lk x y k l = k
test rt x y k l = is_true y
test rf x y k l = is_false y
test rk x y k l = l
test (meet F G) x y k l = test F x y k l && test G x y k l
test (join F G) x y k l = or (test F x y k l) (test G x y k l)

module _ (a b : Lanes) (x y x' y' : ℕ → Value) (p : Shows a x x') (q : Shows b y y') (j : ℕ) (h : j < 64) where
  lane : (F : Formula) → has_bit (word F a b) j ≡ test F (x j) (y j) (has_bit a.kept j) (has_bit b.kept j)
  unfolding Shows
  lane lt = (p j h).0
  lane lf = (p j h).1
  lane lk = refl
  lane rt = (q j h).0
  lane rf = (q j h).1
  lane rk = refl
  lane (meet F G) = bit_and_law (word F a b) (word G a b) j ∙ ap₂ ◌&&◌ (lane F) (lane G)
  lane (join F G) = bit_or_law (word F a b) (word G a b) j ∙ ap₂ or (lane F) (lane G)

-- three formulas that are an operator at all values and bits are it in every lane
module _ (E : Evaluation) (o : Operator) (F G K : Formula) where
  abbrev true_test : Value → Value → Bool → Bool → Bool
  true_test x y k l = same (test F x y k l) (is_true (operate E o x y))

  abbrev false_test : Value → Value → Bool → Bool → Bool
  false_test x y k l = same (test G x y k l) (is_false (operate E o x y))

  abbrev kept_test : Value → Value → Bool → Bool → Bool
  kept_test x y k l = alike (operate E o (cond k x Unset) (cond l y Unset)) (cond (test K x y k l) (operate E o x y) Unset)

  abbrev fits : Value → Value → Bool → Bool → Bool
  fits x y k l = true_test x y k l && false_test x y k l && kept_test x y k l

  operated : all fits ≡ true → (a b : Lanes) → Operated E o a b (record { trues = word F a b; falses = word G a b; kept = word K a b })
  unfolding Operated Shows
  operated s a b x y x' y' p r j h =
      let k = has_bit a.kept j in
      let l = has_bit b.kept j in
      let m = lane a b x y x' y' p r j h in
      let z = all_is fits s (x j) (y j) k l in
      let tf = and_l (true_test (x j) (y j) k l && false_test (x j) (y j) k l) (kept_test (x j) (y j) k l) z in (
        m F ∙ same_is _ _ (and_l (true_test (x j) (y j) k l) (false_test (x j) (y j) k l) tf),
        m G ∙ same_is _ _ (and_r (true_test (x j) (y j) k l) (false_test (x j) (y j) k l) tf),
        ap₂ (operate E o) (p j h).2 (r j h).2
            ∙ alike_is _ _ (and_r (true_test (x j) (y j) k l && false_test (x j) (y j) k l) (kept_test (x j) (y j) k l) z)
            ∙ ap (λ (t : Bool). cond t (operate E o (x j) (y j)) Unset) (sym (m K)),
      )

-- the lanes where both operands are kept
abbrev pub both_kept : Formula
both_kept = meet lk rk

-- the lanes where both are kept, or one that decides: the left does in F, the right in G
abbrev pub decided : Formula → Formula → Formula
decided F G = join (meet lk (join rk F)) (meet rk G)

pub and_lazy : (a b : Lanes) → Operated Lazy AND a b (record { trues = word (meet lt rt) a b; falses = word (join lf rf) a b; kept = word (decided lf rf) a b })
unfolding or table operate
and_lazy = operated Lazy AND (meet lt rt) (join lf rf) (decided lf rf) refl

pub and_strict : (a b : Lanes) → Operated Strict AND a b (record { trues = word (meet lt rt) a b; falses = word (join (meet lf (join rt rf)) (meet lt rf)) a b; kept = word both_kept a b })
unfolding or table operate strictly
and_strict = operated Strict AND (meet lt rt) (join (meet lf (join rt rf)) (meet lt rf)) both_kept refl

-- the lanes where both are set: those where they are the same, and those where not
abbrev pub equals : Formula
equals = join (meet lt rt) (meet lf rf)

abbrev pub differs : Formula
differs = join (meet lt rf) (meet lf rt)

-- EQ is the same under both evaluations
pub eq_lanes : (e : Evaluation) (a b : Lanes) → Operated e EQ a b (record { trues = word equals a b; falses = word differs a b; kept = word both_kept a b })
unfolding or table operate strictly
eq_lanes Strict = operated Strict EQ equals differs both_kept refl
eq_lanes Lazy = operated Lazy EQ equals differs both_kept refl

-- true and false exchanged
shows_turned : (w : Lanes) (x x' : ℕ → Value) → Shows w x x' → Shows (turned w) (λ j. opposite (x j)) (λ j. opposite (x' j))
unfolding Shows
shows_turned w x x' s j h = ((s j h).1 ∙ at_true (x j), (s j h).0 ∙ at_false (x j), ap opposite (s j h).2 ∙ at_low (has_bit w.kept j) (x j))
  where
    at_true : (u : Value) → is_false u ≡ is_true (opposite u)
    at_true Unset = refl
    at_true False = refl
    at_true True = refl

    at_false : (u : Value) → is_true u ≡ is_false (opposite u)
    at_false Unset = refl
    at_false False = refl
    at_false True = refl

    at_low : (k : Bool) (u : Value) → opposite (cond k u Unset) ≡ cond k (opposite u) Unset
    at_low true u = refl
    at_low false u = refl

-- OR is the opposite of AND of the opposites, NE is that of EQ
or_opposite : (E : Evaluation) (x y : Value) → opposite (operate E AND (opposite x) (opposite y)) ≡ operate E OR x y
unfolding table operate strictly
or_opposite Strict x y = alike_is _ _ (every₂_is (λ x y. alike (opposite (operate Strict AND (opposite x) (opposite y))) (operate Strict OR x y)) refl x y)
or_opposite Lazy x y = alike_is _ _ (every₂_is (λ x y. alike (opposite (operate Lazy AND (opposite x) (opposite y))) (operate Lazy OR x y)) refl x y)

ne_opposite : (E : Evaluation) (x y : Value) → opposite (operate E EQ x y) ≡ operate E NE x y
unfolding table operate strictly
ne_opposite Strict x y = alike_is _ _ (every₂_is (λ x y. alike (opposite (operate Strict EQ x y)) (operate Strict NE x y)) refl x y)
ne_opposite Lazy x y = alike_is _ _ (every₂_is (λ x y. alike (opposite (operate Lazy EQ x y)) (operate Lazy NE x y)) refl x y)

module _ (E : Evaluation) (a b r : Lanes) where
  pub or_lanes : Operated E AND (turned a) (turned b) r → Operated E OR a b (turned r)
  unfolding Operated
  or_lanes s x y x' y' p q =
      let w = s (λ j. opposite (x j)) (λ j. opposite (y j)) (λ j. opposite (x' j)) (λ j. opposite (y' j)) (shows_turned a x x' p) (shows_turned b y y' q) in
      shows_same _ _ _ _ _ (λ j. or_opposite E (x j) (y j)) (λ j. or_opposite E (x' j) (y' j)) (shows_turned r _ _ w)

  pub ne_lanes : Operated E EQ a b r → Operated E NE a b (turned r)
  unfolding Operated
  ne_lanes s x y x' y' p q =
      shows_same _ _ _ _ _ (λ j. ne_opposite E (x j) (y j)) (λ j. ne_opposite E (x' j) (y' j)) (shows_turned r _ _ (s x y x' y' p q))

-- constants
pub true_lanes : Shows (record { trues = 18446744073709551615; falses = 0; kept = 18446744073709551615 }) (λ j. True) (λ j. True)
unfolding Shows
true_lanes j h = (bit_full 64 j h, bit_none j, ap (λ (t : Bool). cond t True Unset) (sym (bit_full 64 j h)))

pub false_lanes : Shows (record { trues = 0; falses = 18446744073709551615; kept = 18446744073709551615 }) (λ j. False) (λ j. False)
unfolding Shows
false_lanes j h = (bit_none j, bit_full 64 j h, ap (λ (t : Bool). cond t False Unset) (sym (bit_full 64 j h)))
