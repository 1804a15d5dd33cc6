-- The binary digits of a number, of a power of two, of two numbers joined, and how many are set. Assumes nothing.
use Prim.Native.Nat.{ℕ, zero, suc, ◌+◌, ◌-◌, ◌*◌, ◌/◌, ◌%◌, ◌^◌, ◌<◌, min, max}
use mathlib.Core.Path.{◌≡◌, refl, sym, ◌∙◌, ap, ap₂}
use mathlib.Core.Bool.{Bool, true, false, cond, not, ◌&&◌, true≢false}
use mathlib.Core.List.{List, ◌∷◌}
use mathlib.Core.Logic.{by_cases}
use native.Mathlib.Omega.{arith}
use native.Mathlib.Decide.{dec_lt}
use native.Mathlib.Nat.{div-eq_of_lt, div_self, div-one, pow-suc, mul_comm, div-div-eq-div-mul}
use lib.Dec.{eqb}
use lib.ListN.{length}
use lib.Bits.{bit_and, bit_or, and_shr, or_shr, and_step, or_step}
use lib.Arith.{digits_div}
use lib.Pow.{pow-lt, pow-add, shl-shr, pow_pos, ones_split}
use lib.Count.{ones, ones_in, ones_step, under, count_trailing_zeros}
use borrow.Author.Tests.{eq-eqb, ne_eqb, not-true}
use Rattle.laws.specs.Tests.{or}
use Rattle.laws.specs.Lowest.{lowest}
use Rattle.laws.specs.Listed.{listed}
use Rattle.laws.proofs.Lowest.{lowest_below}
use Rattle.reach.specs.Masks.{has_bit}

-- two digits joined are a digit
or_digit : (p q : ℕ) → p < 2 → q < 2 → (eqb (max p q) 1 ≡ or (eqb p 1) (eqb q 1)) × (max p q < 2)
unfolding or
or_digit zero zero h k = (refl, h)
or_digit zero (suc zero) h k = (refl, k)
or_digit zero (suc (suc q)) h k = absurd (let z : ⊥ = omega arith in z)
or_digit (suc zero) zero h k = (refl, h)
or_digit (suc zero) (suc zero) h k = (refl, h)
or_digit (suc zero) (suc (suc q)) h k = absurd (let z : ⊥ = omega arith in z)
or_digit (suc (suc p)) q h k = absurd (let z : ⊥ = omega arith in z)

and_digit : (p q : ℕ) → p < 2 → q < 2 → (eqb (min p q) 1 ≡ (eqb p 1 && eqb q 1)) × (min p q < 2)
and_digit zero zero h k = (refl, h)
and_digit zero (suc zero) h k = (refl, h)
and_digit zero (suc (suc q)) h k = absurd (let z : ⊥ = omega arith in z)
and_digit (suc zero) zero h k = (refl, k)
and_digit (suc zero) (suc zero) h k = (refl, h)
and_digit (suc zero) (suc (suc q)) h k = absurd (let z : ⊥ = omega arith in z)
and_digit (suc (suc p)) q h k = absurd (let z : ⊥ = omega arith in z)

or_low : (x y : ℕ) → bit_or x y % 2 ≡ max (x % 2) (y % 2)
or_low x y =
    let s : bit_or x y ≡ bit_or (x / 2) (y / 2) * 2 + max (x % 2) (y % 2) = or_step x y in
    let m : max (x % 2) (y % 2) < 2 = (or_digit (x % 2) (y % 2) (omega arith) (omega arith)).1 in
    omega arith

and_low : (x y : ℕ) → bit_and x y % 2 ≡ min (x % 2) (y % 2)
and_low x y =
    let s : bit_and x y ≡ bit_and (x / 2) (y / 2) * 2 + min (x % 2) (y % 2) = and_step x y in
    let m : min (x % 2) (y % 2) < 2 = (and_digit (x % 2) (y % 2) (omega arith) (omega arith)).1 in
    omega arith

pub bit_or_law : (a b l : ℕ) → has_bit (bit_or a b) l ≡ or (has_bit a l) (has_bit b l)
unfolding has_bit
bit_or_law a b l =
    ap (λ (x : ℕ). eqb (x % 2) 1) (or_shr a b l) ∙
    ap (λ (x : ℕ). eqb x 1) (or_low (a / 2 ^ l) (b / 2 ^ l)) ∙
    (or_digit ((a / 2 ^ l) % 2) ((b / 2 ^ l) % 2) (omega arith) (omega arith)).0

pub bit_and_law : (a b l : ℕ) → has_bit (bit_and a b) l ≡ (has_bit a l && has_bit b l)
unfolding has_bit
bit_and_law a b l =
    ap (λ (x : ℕ). eqb (x % 2) 1) (and_shr a b l) ∙
    ap (λ (x : ℕ). eqb x 1) (and_low (a / 2 ^ l) (b / 2 ^ l)) ∙
    (and_digit ((a / 2 ^ l) % 2) ((b / 2 ^ l) % 2) (omega arith) (omega arith)).0

-- one power of two has one digit
power_low : (l d : ℕ) → 2 ^ (suc d + l) / 2 ^ l % 2 ≡ 0
power_low l d =
    let e : 2 ^ (suc d + l) / 2 ^ l ≡ 2 ^ suc d = ap (λ (x : ℕ). x / 2 ^ l) (pow-add 2 (suc d) l) ∙ shl-shr (2 ^ suc d) l in
    let f : 2 ^ suc d ≡ 2 ^ d * 2 = pow-suc 2 d in
    omega arith

pub bit_power : (k l : ℕ) → has_bit (2 ^ k) l ≡ eqb l k
unfolding has_bit
bit_power k l = at (dec_lt l k) (dec_lt k l)
  where
    at : Dec (l < k) → Dec (k < l) → eqb (2 ^ k / 2 ^ l % 2) 1 ≡ eqb l k
    at (yes h) q =
        let e : k ≡ suc (k - suc l) + l = omega arith in
        let z : 2 ^ k / 2 ^ l % 2 ≡ 0 = ap (λ (x : ℕ). 2 ^ x / 2 ^ l % 2) e ∙ power_low l (k - suc l) in
        rw (z, ne_eqb l k (λ (p : l ≡ k). omega arith))
    at (no h) (yes q) = rw (div-eq_of_lt (pow-lt q), ne_eqb l k (λ (p : l ≡ k). omega arith))
    at (no h) (no q) = let e : l ≡ k = omega arith in rw (e, div_self (pow_pos k), eq-eqb k k refl)

pub bit_none : (l : ℕ) → has_bit 0 l ≡ false
unfolding has_bit
bit_none l = rw (div-eq_of_lt (pow_pos l))

-- the digits of a number are its lowest, and those of its half
bit_half : (x l : ℕ) → has_bit x (suc l) ≡ has_bit (x / 2) l
unfolding has_bit
bit_half x l = ap (λ (y : ℕ). eqb (y % 2) 1) (ap (λ (y : ℕ). x / y) (pow-suc 2 l ∙ mul_comm (2 ^ l) 2) ∙ sym (div-div-eq-div-mul x 2 (2 ^ l)))

bit_first : (x : ℕ) → has_bit x 0 ≡ eqb (x % 2) 1
unfolding has_bit
bit_first x = rw (div-one x)

-- a word of ones has every digit
pub bit_full : (n l : ℕ) → l < n → has_bit (2 ^ n - 1) l ≡ true
unfolding has_bit
bit_full n l h =
    let d : ℕ = n - suc l in
    let e : n ≡ suc d + l = omega arith in
    let f : 2 ^ suc d ≡ 2 ^ d * 2 = pow-suc 2 d in
    let z : (2 ^ n - 1) / 2 ^ l ≡ 2 ^ suc d - 1 = ap (λ (x : ℕ). (2 ^ x - 1) / 2 ^ l) e ∙ ap (λ (x : ℕ). x / 2 ^ l) (ones_split (suc d) l) ∙ digits_div (2 ^ suc d - 1) (omega (arith, pow_pos l)) in
    eq-eqb _ 1 (ap (λ (x : ℕ). x % 2) z ∙ (omega (arith, pow_pos d)))

not_digit : (d : ℕ) → d < 2 → eqb (1 - d) 1 ≡ not (eqb d 1)
not_digit zero h = refl
not_digit (suc zero) h = refl
not_digit (suc (suc d)) h = absurd (omega arith)

-- the digits of the complement
pub bit_not : (n x l : ℕ) → x < 2 ^ n → l < n → has_bit (2 ^ n - 1 - x) l ≡ not (has_bit x l)
bit_not zero x l h k = absurd (omega arith)
bit_not (suc n) x zero h k =
    let p : 2 ^ suc n ≡ 2 ^ n * 2 = pow-suc 2 n in
    let low : (2 ^ suc n - 1 - x) % 2 ≡ 1 - x % 2 = omega arith in
    bit_first (2 ^ suc n - 1 - x) ∙ ap (λ (d : ℕ). eqb d 1) low ∙ not_digit (x % 2) (omega arith) ∙ ap not (sym (bit_first x))
bit_not (suc n) x (suc l) h k =
    let p : 2 ^ suc n ≡ 2 ^ n * 2 = pow-suc 2 n in
    let high : (2 ^ suc n - 1 - x) / 2 ≡ 2 ^ n - 1 - x / 2 = omega arith in
    bit_half (2 ^ suc n - 1 - x) l ∙ ap (λ (y : ℕ). has_bit y l) high ∙ bit_not n (x / 2) l (omega arith) (omega arith) ∙ ap not (sym (bit_half x l))

same_digit : (p q : ℕ) → p < 2 → q < 2 → eqb p 1 ≡ eqb q 1 → p ≡ q
same_digit zero zero h k e = refl
same_digit zero (suc zero) h k e = absurd (true≢false (sym e))
same_digit zero (suc (suc q)) h k e = absurd (omega arith)
same_digit (suc zero) zero h k e = absurd (true≢false e)
same_digit (suc zero) (suc zero) h k e = refl
same_digit (suc zero) (suc (suc q)) h k e = absurd (omega arith)
same_digit (suc (suc p)) q h k e = absurd (omega arith)

-- two words with the same digits are one
pub bits_same : (n x y : ℕ) → x < 2 ^ n → y < 2 ^ n → ((l : ℕ) → l < n → has_bit x l ≡ has_bit y l) → x ≡ y
bits_same zero x y h k f = omega arith
bits_same (suc n) x y h k f =
    let p : 2 ^ suc n ≡ 2 ^ n * 2 = pow-suc 2 n in
    let high : x / 2 ≡ y / 2 = bits_same n (x / 2) (y / 2) (omega arith) (omega arith) (λ l g. sym (bit_half x l) ∙ f (suc l) (omega arith) ∙ bit_half y l) in
    let low : x % 2 ≡ y % 2 = same_digit (x % 2) (y % 2) (omega arith) (omega arith) (sym (bit_first x) ∙ f 0 (omega arith) ∙ bit_first y) in
    omega arith

-- a list one place further on is as long
shifted : (p q : ℕ → Bool) (i c : ℕ) → ((j : ℕ) → p (suc j) ≡ q j) → length (listed p (suc i) c) ≡ length (listed q i c)
unfolding listed
shifted p q i zero h = refl
shifted p q i (suc c) h = rw (h i) (at (q i) (shifted p q (suc i) c h))
  where
    at : (b : Bool) → length (listed p (suc (suc i)) c) ≡ length (listed q (suc i) c) → length (cond b (suc i ∷ listed p (suc (suc i)) c) (listed p (suc (suc i)) c)) ≡ length (cond b (i ∷ listed q (suc i) c) (listed q (suc i) c))
    at true ih = ap suc ih
    at false ih = ih

digit_counts : (d : ℕ) → d < 2 → (i : ℕ) (xs : List ℕ) → d + length xs ≡ length (cond (eqb d 1) (i ∷ xs) xs)
digit_counts zero h i xs = omega arith
digit_counts (suc zero) h i xs = omega arith
digit_counts (suc (suc d)) h i xs = absurd (let z : ⊥ = omega arith in z)

-- the count of the digits that are set is the length of their list
pub ones_listed : (d x : ℕ) → x < 2 ^ d → ones x ≡ length (listed (has_bit x) 0 d)
unfolding listed ones ones_in
ones_listed zero x h = let z : x ≡ 0 = omega arith in rw z
ones_listed (suc d) x h =
    let s : x < 2 ^ d * 2 = rw (pow-suc 2 d) at h in
    ones_step x ∙
    ap (λ (n : ℕ). x % 2 + n) (ones_listed d (x / 2) (omega arith) ∙ sym (shifted (has_bit x) (has_bit (x / 2)) 0 d (bit_half x))) ∙
    digit_counts (x % 2) (omega arith) 0 (listed (has_bit x) 1 d) ∙
    ap (λ (b : Bool). length (cond b (0 ∷ listed (has_bit x) 1 d) (listed (has_bit x) 1 d))) (sym (bit_first x))

-- the zeros below the lowest digit that is set
shifted_lowest : (p q : ℕ → Bool) (i c : ℕ) → ((j : ℕ) → p (suc j) ≡ q j) → lowest p (suc i) c ≡ suc (lowest q i c)
unfolding lowest
shifted_lowest p q i zero h = refl
shifted_lowest p q i (suc c) h = rw (h i) (at (q i) (shifted_lowest p q (suc i) c h))
  where
    at : (b : Bool) → lowest p (suc (suc i)) c ≡ suc (lowest q (suc i) c) → cond b (lowest p (suc (suc i)) c) (suc i) ≡ suc (cond b (lowest q (suc i) c) i)
    at true ih = ih
    at false ih = refl

under_digit : (d t : ℕ) → d < 2 → under d t ≡ cond (not (eqb d 1)) (suc t) 0
under_digit zero t h = refl
under_digit (suc zero) t h = refl
under_digit (suc (suc d)) t h = absurd (omega arith)

pub trailing_lowest : (k n : ℕ) → count_trailing_zeros k n ≡ lowest (λ j. not (has_bit n j)) 0 k
unfolding count_trailing_zeros lowest
trailing_lowest zero n = refl
trailing_lowest (suc k) n =
    ap (under (n % 2)) (trailing_lowest k (n / 2)) ∙
    under_digit (n % 2) (lowest (λ j. not (has_bit (n / 2) j)) 0 k) (omega arith) ∙
    ap₂ (λ (b : Bool) (t : ℕ). cond (not b) t 0) (sym (bit_first n)) (sym (shifted_lowest (λ j. not (has_bit n j)) (λ j. not (has_bit (n / 2) j)) 0 k (λ j. ap not (bit_half n j))))

-- a word that is not 0 has a digit
pub bits_some : (n x : ℕ) → x < 2 ^ n → (x ≡ 0 → ⊥) → lowest (λ j. not (has_bit x j)) 0 n < n
bits_some n x h z =
    by_cases (dec_lt (lowest (λ j. not (has_bit x j)) 0 n) n) (λ k. k)
    (λ k. absurd (z (bits_same n x 0 h (pow_pos n) (λ l g. not-true _ (lowest_below (λ j. not (has_bit x j)) 0 n l (omega arith) (omega arith)) ∙ sym (bit_none l)))))
