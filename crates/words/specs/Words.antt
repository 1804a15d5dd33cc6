-- The digits of 64 numbers at once: lane j is the number x + j.
use Rattle.std.specs.Prelude.{ℕ, ◌+◌, ◌^◌, ◌<◌, ◌/◌, ◌%◌, ◌≡◌, Bool, false, cond, List, [], ◌∷◌, eqb, get_or}
use Rattle.reach.specs.Masks.{has_bit}
use Rattle.words.specs.declared.Base.{Base}
use Rattle.words.specs.declared.Base.TheVariants.{Two, Three}

-- 3 for link values that may be unset, 2 for total ones
unfoldable pub base_of : Base → ℕ
base_of Two = 2
base_of Three = 3

-- the lanes at which digit i is d
unfoldable pub DigitWord : ℕ → ℕ → ℕ → ℕ → ℕ → Type 0
DigitWord b d i x r = (j : ℕ) → j < 64 → has_bit r j ≡ eqb ((x + j) / b ^ i % b) d

-- the digit that belongs to a link is d, the lowest digit being that of the first link of the list; a link that is not in the list has none
unfoldable pub digit_is : ℕ → ℕ → List ℕ → ℕ → ℕ → Bool
digit_is b d [] x l = false
digit_is b d (k ∷ ls) x l = cond (eqb l k) (eqb (x % b) d) (digit_is b d ls (x / b) l)

-- for each link the lanes at which its digit is d
unfoldable pub Words : ℕ → ℕ → List ℕ → ℕ → List ℕ → Type 0
Words b d ls x r = (l : ℕ) → l < 64 → (j : ℕ) → j < 64 → has_bit (get_or r l 0) j ≡ digit_is b d ls (x + j) l
