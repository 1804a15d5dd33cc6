-- The words of digits show link values, lane by lane, and one evaluation shows where a condition is not steady. Assumes nothing.
use Prim.Native.Nat.{ℕ, zero, suc, ◌+◌, ◌-◌, ◌^◌, ◌<◌, ◌≤◌, ◌/◌, ◌%◌}
use mathlib.Core.Path.{◌≡◌, refl, sym, ◌∙◌, ap₂, fun_ext}
use mathlib.Core.Bool.{Bool, true, false, cond, not, ◌&&◌}
use mathlib.Core.List.{List, [], ◌∷◌}
use mathlib.Core.Logic.{by_cases}
use native.Mathlib.Omega.{arith}
use native.Mathlib.Decide.{dec_lt}
use lib.Dec.{eqb}
use lib.ListN.{get_or}
use lib.Bits.{bit_and}
use borrow.Author.Tests.{lt-ltb, le-ltb, ne_eqb}
use Rattle.laws.specs.Listed.{listed}
use Rattle.calculus.specs.Status.{Value, Unset, False, True, Links}
use Rattle.conditions.specs.Numbers.{undigit, assign}
use Rattle.conditions.specs.Failure.{is_true, is_false}
use Rattle.conditions.specs.Total.{spread, bit_value, total, steady}
use Rattle.conditions.proofs.Total.{spread_assign}
use Rattle.sheet.specs.Table.{eval_of}
use Rattle.reach.specs.Masks.{has_bit}
use Rattle.reach.proofs.Bits.{bit_and_law, bit_not, bit_none}
use Rattle.lanes.specs.declared.Lanes.{Lanes}
use Rattle.lanes.specs.Lanes.{Shows, link_lanes, LinksShow, Valued}
use Rattle.words.specs.declared.Base.{Base}
use Rattle.words.specs.declared.Base.TheVariants.{Two, Three}
use Rattle.words.specs.Words.{base_of, digit_is, Words}
use Rattle.failure.specs.Blocks.{Failing, given, steady_at, Unsteady}
use Rattle.failure.specs.Failure.{Narrow}
use Rattle.failure.proofs.Search.{narrow_links}

-- a link past the list is unset
spread_out : (f : ℕ → Value) (b : ℕ) (p : ℕ → Bool) (i c x k : ℕ) → i + c ≤ k → spread f b (listed p i c) x k ≡ Unset
unfolding spread listed
spread_out f b p i zero x k h = refl
spread_out f b p i (suc c) x k h = at (p i) (λ y. spread_out f b p (suc i) c y k (omega arith))
  where
    at : (t : Bool) → ((y : ℕ) → spread f b (listed p (suc i) c) y k ≡ Unset) → spread f b (cond t (i ∷ listed p (suc i) c) (listed p (suc i) c)) x k ≡ Unset
    at true ih = rw (ne_eqb k i (λ (e : k ≡ i). omega arith)) (ih (x / b))
    at false ih = ih x

-- a test of a link's value by its digit
module _ (f : ℕ → Value) (b d : ℕ) (test : Value → Bool) (none : test Unset ≡ false) (by : (y : ℕ) → eqb (y % b) d ≡ test (f (y % b))) where
  digit_test : (ls : List ℕ) (x l : ℕ) → digit_is b d ls x l ≡ test (spread f b ls x l)
  unfolding digit_is spread
  digit_test [] x l = sym none
  digit_test (k ∷ ls) x l = at (eqb l k) (digit_test ls (x / b) l)
    where
      at : (t : Bool) → digit_is b d ls (x / b) l ≡ test (spread f b ls (x / b) l) → cond t (eqb (x % b) d) (digit_is b d ls (x / b) l) ≡ test (cond t (f (x % b)) (spread f b ls (x / b) l))
      at true ih = by x
      at false ih = ih

three : (y : ℕ) → y < 3 → (eqb y 2 ≡ is_true (undigit y)) × (eqb y 1 ≡ is_false (undigit y))
unfolding undigit
three zero h = (refl, refl)
three (suc zero) h = (refl, refl)
three (suc (suc zero)) h = (refl, refl)
three (suc (suc (suc y))) h = absurd (omega arith)

two : (y : ℕ) → y < 2 → (eqb y 1 ≡ is_true (bit_value y)) × (eqb y 0 ≡ is_false (bit_value y))
two zero h = (refl, refl)
two (suc zero) h = (refl, refl)
two (suc (suc y)) h = absurd (omega arith)

module _ (p : ℕ → Bool) (m x : ℕ) (h : m ≤ 64) (trues falses : List ℕ) where
  -- words that show the links below 64 show all
  links_show : (f : ℕ → Value) (b : ℕ) → ((l : ℕ) → l < 64 → (j : ℕ) → j < 64 → (has_bit (get_or trues l 0) j ≡ is_true (spread f b (listed p 0 m) (x + j) l)) × (has_bit (get_or falses l 0) j ≡ is_false (spread f b (listed p 0 m) (x + j) l))) → LinksShow trues falses (λ j. spread f b (listed p 0 m) (x + j))
  unfolding LinksShow link_lanes
  links_show f b s l j k =
      by_cases (dec_lt l 64)
      (λ (q : l < 64). rw (lt-ltb l 64 q) (s l q j k))
      (λ (q : l < 64 → ⊥). let z : 64 ≤ l = omega arith in rw (le-ltb l 64 z, spread_out f b p 0 m (x + j) l (omega arith)) (bit_none j, bit_none j))

  -- 64 total assignments
  show_total : Words 2 1 (listed p 0 m) x trues → Words 2 0 (listed p 0 m) x falses → LinksShow trues falses (λ j. total (listed p 0 m) (x + j))
  unfolding Words
  show_total t f =
      links_show (bit_value) 2 (λ l q j k. (
        t l q j k ∙ digit_test (bit_value) 2 1 is_true refl (λ y. (two (y % 2) (omega arith)).0) (listed p 0 m) (x + j) l,
        f l q j k ∙ digit_test (bit_value) 2 0 is_false refl (λ y. (two (y % 2) (omega arith)).1) (listed p 0 m) (x + j) l,
      ))

  -- 64 numbers
  show_assign : Words 3 2 (listed p 0 m) x trues → Words 3 1 (listed p 0 m) x falses → LinksShow trues falses (λ j. assign (listed p 0 m) (x + j))
  unfolding Words
  show_assign t f =
      rw (← same)
      (links_show undigit 3 (λ l q j k. (
        t l q j k ∙ digit_test undigit 3 2 is_true refl (λ y. (three (y % 3) (omega arith)).0) (listed p 0 m) (x + j) l,
        f l q j k ∙ digit_test undigit 3 1 is_false refl (λ y. (three (y % 3) (omega arith)).1) (listed p 0 m) (x + j) l,
      )))
    where
      same : ◌≡◌ {A = ℕ → Links} (λ j. spread undigit 3 (listed p 0 m) (x + j)) (λ j. assign (listed p 0 m) (x + j))
      same = fun_ext (λ j. fun_ext (spread_assign (listed p 0 m) (x + j)))

-- true, and not kept
lane : (u : Value) (k : Bool) → (is_true u && not k) ≡ not (cond (is_true u) (is_true (cond k u Unset)) true)
lane Unset k = refl
lane False k = refl
lane True true = refl
lane True false = refl

pub unsteady_is : (e : ℕ) (cs : List ℕ) (row : ℕ) (trues falses : List ℕ) (r : Lanes) → r.kept < 2 ^ 64 → Valued e cs row trues falses r → Unsteady e cs row trues falses (bit_and r.trues (2 ^ 64 - 1 - r.kept))
unfolding Unsteady Valued Shows steady
unsteady_is e cs row trues falses r small f v s j h =
    let (t, g, k) = f v s j h in
    bit_and_law r.trues (2 ^ 64 - 1 - r.kept) j ∙ ap₂ ◌&&◌ t (bit_not 64 r.kept j small h) ∙ lane (eval_of e cs row (v j)) (has_bit r.kept j) ∙ rw k refl

-- 64 numbers in a base, from the words of the digit of true and of the one below
pub show_given : (p : ℕ → Bool) (m x : ℕ) → m ≤ 64 → (trues falses : List ℕ) (b : Base) (d : ℕ) → d + 1 ≡ base_of b → Words (base_of b) d (listed p 0 m) x trues → Words (base_of b) (d - 1) (listed p 0 m) x falses → LinksShow trues falses (λ j. given b (listed p 0 m) (x + j))
unfolding given base_of
show_given p m x h trues falses Two d e t f = let z : d ≡ 1 = omega arith in show_total p m x h trues falses (rw z at t) (rw z at f)
show_given p m x h trues falses Three d e t f = let z : d ≡ 2 = omega arith in show_assign p m x h trues falses (rw z at t) (rw z at f)

-- of a row that is narrow
pub failing : (m : ℕ) (cs : List ℕ) (row mask : ℕ) → Narrow m cs row mask → (b : Base) (e x : ℕ) (trues falses : List ℕ) (r : ℕ) → Unsteady e cs row trues falses r → LinksShow trues falses (λ j. given b (listed (has_bit mask) 0 m) (x + j)) → Failing (steady_at b e m cs row) x r
unfolding Failing Unsteady
failing m cs row mask g b e x trues falses r u s = rw (← narrow_links m cs row mask g) (u (λ j. given b (listed (has_bit mask) 0 m) (x + j)) s)
