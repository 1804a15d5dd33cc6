-- The digits of a number, the last one at a time. Assumes nothing.
use mathlib.Core.Path.{◌≡◌, refl, ap}
use mathlib.Core.Bool.{Bool, true, false, cond}
use mathlib.Core.List.{List, [], ◌∷◌, ◌++◌}
use Prim.Native.Nat.{ℕ, zero, suc, ◌*◌, ◌/◌, ◌%◌, ◌^◌, ◌≤◌, ◌<◌}
use native.Mathlib.Nat.{pow-suc}
use native.Mathlib.Omega.{arith}
use lib.Dec.{ltb}
use lib.ListN.{length, length-append}
use borrow.Author.Tests.{lt-ltb, le-ltb}
use Rattle.lines.specs.Lines.{glyph, digits_by, decimal}

-- as many digits as hold the number are enough
enough : (f x : ℕ) → x < 10 ^ suc f → digits_by (suc f) x ≡ digits_by (suc (suc f)) x
unfolding digits_by
enough zero x h = rw (lt-ltb x 10 h) refl
enough (suc f) x h = at (ltb x 10) (enough f (x / 10) (let e : 10 ^ suc (suc f) ≡ 10 ^ suc f * 10 = pow-suc 10 (suc f) in omega (arith, h, e)))
  where
    at : (b : Bool) → digits_by (suc f) (x / 10) ≡ digits_by (suc (suc f)) (x / 10) → cond b (glyph x ∷ []) (digits_by (suc f) (x / 10) ++ (glyph (x % 10) ∷ [])) ≡ cond b (glyph x ∷ []) (digits_by (suc (suc f)) (x / 10) ++ (glyph (x % 10) ∷ []))
    at true e = refl
    at false e = ap (λ (l : List ℕ). l ++ (glyph (x % 10) ∷ [])) e

-- a digit more than a tenth of the number has
one_more : (f n x : ℕ) → length (digits_by f (x / 10)) ≤ n → length (digits_by (suc f) x) ≤ suc n
unfolding digits_by
one_more f n x h = at (ltb x 10)
  where
    at : (b : Bool) → length (cond b (glyph x ∷ []) (digits_by f (x / 10) ++ (glyph (x % 10) ∷ []))) ≤ suc n
    at true = omega arith
    at false = let e = length-append (digits_by f (x / 10)) (glyph (x % 10) ∷ []) in omega (arith, e, h)

short : (f x : ℕ) → length (digits_by f x) ≤ f
unfolding digits_by
short zero x = omega arith
short (suc f) x = one_more f f x (short f (x / 10))

digits_few : (f d x : ℕ) → x < 10 ^ suc d → length (digits_by f x) ≤ suc d
unfolding digits_by
digits_few zero d x h = omega arith
digits_few (suc f) zero x h = rw (lt-ltb x 10 h) (omega arith)
digits_few (suc f) (suc d) x h = one_more f (suc d) x (digits_few f d (x / 10) (let e : 10 ^ suc (suc d) ≡ 10 ^ suc d * 10 = pow-suc 10 (suc d) in omega (arith, h, e)))

pub decimal_one : (x : ℕ) → x < 10 → decimal x ≡ glyph x ∷ []
unfolding decimal digits_by
decimal_one x h = rw (lt-ltb x 10 h)

pub decimal_more : (x : ℕ) → 10 ≤ x → x < 2 ^ 64 → decimal x ≡ decimal (x / 10) ++ (glyph (x % 10) ∷ [])
unfolding decimal digits_by
decimal_more x h k = rw (le-ltb x 10 h) (ap (λ (l : List ℕ). l ++ (glyph (x % 10) ∷ [])) (enough 18 (x / 10) (omega (arith, k))))

-- any number has at most twenty digits, and one below 10 to the d at most d
pub decimal_short : (x : ℕ) → length (decimal x) ≤ 20
unfolding decimal
decimal_short x = short 20 x

pub decimal_digits : (d x : ℕ) → x < 10 ^ suc d → length (decimal x) ≤ suc d
unfolding decimal
decimal_digits d x h = digits_few 20 d x h
