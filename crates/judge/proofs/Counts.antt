-- Check 5 row by row, what the counts of children hold, and check 6 from them. Assumes nothing.
use Prim.Native.Nat.{ℕ, ◌+◌, ◌*◌, ◌<◌, ◌≤◌}
use mathlib.Core.Path.{◌≡◌, refl, sym, ◌∙◌}
use mathlib.Core.Bool.{Bool, true, false}
use mathlib.Core.List.{List}
use mathlib.Core.Logic.{by_cases}
use native.Mathlib.Omega.{arith}
use native.Mathlib.Decide.{ℕ_discrete}
use lib.ListN.{length, get_or, set, length-set, replicate}
use lib.Seq.{get_or-set_same, get_or-set_other}
use borrow.Author.Tests.{eq-eqb, ne_eqb}
use Rattle.laws.specs.Checks.{place_of, Holds}
use Rattle.laws.specs.Sums.{sum}
use Rattle.laws.proofs.Sums.{sum_more, sum_later}
use Rattle.laws.proofs.Up.{get_d_constant}
use Rattle.laws.proofs.Checks.{place_is}
use Rattle.steps.specs.Rows.{Row, NIL, PREFIX, BRANCH, first_of, second_of, Kids}
use Rattle.sheet.specs.Table.{row_at}
use Rattle.sheet.specs.Rules.{term_rule, term_ok, same, namings, times_named, terms, tree}
use Rattle.sheet.proofs.Rows.{term_row, row_kids}
use Rattle.judge.specs.Judge.{Sound, bumped, Few, OneMore, Children, Once}

-- 5 from the four bytes of a row, the last three widened
pub term_read : (ts : List ℕ) (m n k i : ℕ) (r : Bool) → r ≡ term_rule m n k i (get_or ts (i * 4) 0) (get_or ts (i * 4 + 1) 0) (get_or ts (i * 4 + 2) 0) (get_or ts (i * 4 + 3) 0) → term_ok ts m n k i ≡ r
unfolding term_ok
term_read ts m n k i r e = sym e

module _ (m n k : ℕ) (ts : List ℕ) where
  pub sound_none : Sound m n k ts 0
  unfolding Sound
  sound_none p h = absurd (omega arith)

  module _ (i : ℕ) (s : Sound m n k ts i) where
    pub sound_more : term_ok ts m n k i ≡ true → Sound m n k ts (i + 1)
    unfolding Sound
    sound_more e p h = by_cases (ℕ_discrete p i) (λ (q : p ≡ i). rw q e) (λ q. s p (omega arith))

    pub sound_stop : i < n → term_ok ts m n k i ≡ false → i ≡ place_of (terms m n k ts)
    unfolding Sound
    sound_stop h e = place_is (terms m n k ts) i (omega arith) (λ p a b. s p b) h e

  pub sound_holds : Sound m n k ts n → Holds (terms m n k ts)
  unfolding Sound
  sound_holds s p a h = s p h

same_one : (a : ℕ) → same a a ≡ 1
unfolding same
same_one a = rw (eq-eqb a a refl)

same_none : (a j : ℕ) → (a ≡ j → ⊥) → same a j ≡ 0
unfolding same
same_none a j h = rw (ne_eqb a j h)

-- one more at a key
bumped_at : (t : List ℕ) (k j : ℕ) → k < length t → get_or (bumped t k) j 0 ≡ get_or t j 0 + same k j
unfolding bumped
bumped_at t k j h =
    by_cases (ℕ_discrete j k)
    (λ (e : j ≡ k). rw (e, same_one k) (get_or-set_same t k (get_or t k 0 + 1) 0 h))
    (λ (e : j ≡ k → ⊥). get_or-set_other t k j (get_or t k 0 + 1) 0 e ∙ (let z : same k j ≡ 0 = same_none k j (λ q. e (sym q)) in omega arith))

bumped_length : (t : List ℕ) (k : ℕ) → length (bumped t k) ≡ length t
unfolding bumped
bumped_length t k = length-set t k (get_or t k 0 + 1)

same_few : (a j : ℕ) → same a j ≤ 1
same_few a j = by_cases (ℕ_discrete a j) (λ (e : a ≡ j). rw (e, same_one j) (omega arith)) (λ (e : a ≡ j → ⊥). rw (same_none a j e) (omega arith))

pub bumped_few : (t : List ℕ) (k b : ℕ) → k < length t → Few t b → Few (bumped t k) (b + 1)
unfolding Few
bumped_few t k b h f j = omega (arith, bumped_at t k j h, f j, same_few k j)

-- one more for each child of a row, that has one or two
module _ (t : List ℕ) (N : Row) (h : first_of N < length t) where
  pub one_child : second_of N ≡ 0 → OneMore t N (bumped t (first_of N))
  unfolding namings Few
  one_child e = record {
    long = bumped_length t (first_of N);
    few = λ b f j. omega (arith, bumped_few t (first_of N) b h f j);
    counted = λ j low. (let z : same 0 j ≡ 0 = same_none 0 j (λ q. omega arith) in rw e (omega (arith, bumped_at t (first_of N) j h)));
  }

  pub two_children : second_of N < length t → OneMore t N (bumped (bumped t (first_of N)) (second_of N))
  unfolding namings Few
  two_children k =
      let l : length (bumped t (first_of N)) ≡ length t = bumped_length t (first_of N) in
      let k' : second_of N < length (bumped t (first_of N)) = omega arith in
      record {
        long = bumped_length (bumped t (first_of N)) (second_of N) ∙ l;
        few = λ b f j. omega (arith, bumped_few (bumped t (first_of N)) (second_of N) (b + 1) k' (bumped_few t (first_of N) b h f) j);
        counted = λ j low. omega (arith, bumped_at (bumped t (first_of N)) (second_of N) j k', bumped_at t (first_of N) j h);
      }

-- the table of a pass that begins
abbrev none_named : List ℕ
none_named = replicate 256 0

root_named : (j : ℕ) → get_or (bumped none_named 0) j 0 ≡ same 0 j
root_named j = omega (arith, bumped_at none_named 0 j (omega arith), none)
  where
    none : get_or none_named j 0 ≡ 0
    none = get_d_constant 0 256 j

pub children_none : (ts : List ℕ) → Children ts 0 (set none_named 0 1)
unfolding times_named sum Few bumped
children_none ts = record {
  long = refl;
  few = λ j. omega (arith, root_named j, same_few 0 j);
  counted = λ j low high. omega (arith, root_named j);
}

pub children_more : (ts : List ℕ) (i : ℕ) (t t' : List ℕ) → Children ts i t → OneMore t (row_at ts i) t' → Children ts (i + 1) t'
unfolding times_named Few
children_more ts i t t' c o = record {
  long = o.long ∙ c.long;
  few = λ j. omega (arith, o.few (2 * i + 1) c.few j);
  counted = λ j low high. omega (arith, o.counted j (omega arith), c.counted j (omega arith) high, sum_more (λ i. namings (row_at ts i) j) i);
}

pub children_few : (ts : List ℕ) (i : ℕ) (t : List ℕ) → i < 256 → Children ts i t → Few t 511
unfolding Few
children_few ts i t h c j = omega (arith, c.few j)

pub once_none : (ts : List ℕ) → Once ts 0
unfolding Once
once_none ts j low high = absurd (omega arith)

-- what a count tells of the row that it counts, once the rows before it are counted
pub named_once : (ts : List ℕ) (i : ℕ) (t : List ℕ) → i < 256 → Children ts i t → Once ts i → get_or t i 0 ≡ 1 → Once ts (i + 1)
unfolding Once
named_once ts i t h c o e j low high =
    by_cases (ℕ_discrete j i)
    (λ (q : j ≡ i). let z : same 0 i ≡ 0 = same_none 0 i (λ r. omega arith) in rw q (omega (arith, c.counted i (omega arith) h)))
    (λ q. o j low (omega arith))

none_before : (ts : List ℕ) (j : ℕ) → times_named ts 0 j ≡ 0
unfolding times_named sum
none_before ts j = refl

pub not_named_once : (ts : List ℕ) (i : ℕ) (t : List ℕ) → i < 256 → Children ts i t → (get_or t i 0 ≡ 1 → ⊥) → (1 ≤ i) × (times_named ts i i ≡ 1 → ⊥)
not_named_once ts i t h c d =
    by_cases (ℕ_discrete i 0)
    (λ (e : i ≡ 0). absurd (d (c.counted i (omega arith) h ∙ rw (e, same_one 0, none_before ts 0))))
    (λ e. let z : same 0 i ≡ 0 = same_none 0 i (λ r. e (sym r)) in (omega arith, λ q. d (omega (arith, c.counted i (omega arith) h))))

-- no row names itself or one before it
not_named : (i n j : ℕ) (N : Row) → Kids i n N → 1 ≤ j → j ≤ i → namings N j ≡ 0
unfolding Kids namings first_of second_of
not_named i n j NIL h low high = rw (same_none 0 j (λ q. omega arith))
not_named i n j (PREFIX π c) h low high = rw (same_none c j (λ q. omega arith), same_none 0 j (λ q. omega arith))
not_named i n j (BRANCH κ p q) h low high = rw (same_none p j (λ r. omega arith), same_none q j (λ r. omega arith))

module _ (m n k : ℕ) (ts : List ℕ) (s : Sound m n k ts n) where
  named_before : (j : ℕ) → 1 ≤ j → j ≤ n → times_named ts n j ≡ times_named ts j j
  unfolding times_named Sound
  named_before j low high =
      sum_later (λ i. namings (row_at ts i) j) j n high
      (λ i a b. not_named i n j (row_at ts i) (row_kids m n k i (row_at ts i) (term_row ts m n k i (s i b))) low a)

  -- 6, from the counts
  pub tree_holds : Once ts n → Holds (tree n ts)
  unfolding Once
  tree_holds o j low high = eq-eqb _ 1 (named_before j low (omega arith) ∙ o j low high)

  pub tree_fails : (i : ℕ) → 1 ≤ i → i < n → Once ts i → (times_named ts i i ≡ 1 → ⊥) → i ≡ place_of (tree n ts)
  unfolding Once
  tree_fails i low high o d =
      place_is (tree n ts) i low
      (λ j a b. eq-eqb _ 1 (named_before j a (omega arith) ∙ o j a b))
      high
      (ne_eqb _ 1 (λ e. d (sym (named_before i low (omega arith)) ∙ e)))
