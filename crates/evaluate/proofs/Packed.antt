-- The laws of four values of two bits in a byte, and of a table of such bytes. Assumes nothing.
use Prim.Native.Nat.{ℕ, zero, suc, ◌*◌, ◌/◌, ◌%◌, ◌^◌, ◌<◌}
use mathlib.Core.Path.{◌≡◌, refl, ◌∙◌, ap}
use mathlib.Core.List.{List}
use mathlib.Core.Logic.{by_cases}
use native.Mathlib.Omega.{arith}
use native.Mathlib.Decide.{ℕ_discrete}
use lib.Bits.{bit_xor, xor_shr, xor_mod, xor_zero_r}
use lib.ListN.{get_or, length, set, replicate, get_or-replicate}
use lib.Seq.{get_or-set_same, get_or-set_other}
use Rattle.evaluate.specs.Values.{bits_at, value_in}

-- what holds of 0 to 3 holds of every number below 4
each : (P : ℕ → Type 0) → P 0 → P 1 → P 2 → P 3 → (i : ℕ) → i < 4 → P i
each P p q r s zero h = p
each P p q r s (suc zero) h = q
each P p q r s (suc (suc zero)) h = r
each P p q r s (suc (suc (suc zero))) h = s
each P p q r s (suc (suc (suc (suc i)))) h = absurd (omega arith)

-- y moved to a place
abbrev moved : ℕ → ℕ → ℕ
moved y i = y * 2 ^ (i * 2) % 256

-- it stands there, and 0 at the others
module _ (y : ℕ) (small : y < 4) where
  moved_same : (i : ℕ) → i < 4 → bits_at (moved y i) i ≡ y
  moved_same = each (λ i. bits_at (moved y i) i ≡ y) (omega arith) (omega arith) (omega arith) (omega arith)

  abbrev Clear : ℕ → ℕ → Type 0
  Clear i j = (j ≡ i → ⊥) → bits_at (moved y i) j ≡ 0

  moved_other : (i : ℕ) → i < 4 → (j : ℕ) → j < 4 → Clear i j
  moved_other =
      each (λ i. (j : ℕ) → j < 4 → Clear i j)
      (each (Clear 0) (λ n. absurd (n refl)) (λ n. omega arith) (λ n. omega arith) (λ n. omega arith))
      (each (Clear 1) (λ n. omega arith) (λ n. absurd (n refl)) (λ n. omega arith) (λ n. omega arith))
      (each (Clear 2) (λ n. omega arith) (λ n. omega arith) (λ n. absurd (n refl)) (λ n. omega arith))
      (each (Clear 3) (λ n. omega arith) (λ n. omega arith) (λ n. omega arith) (λ n. absurd (n refl)))

bits_xor : (a b i : ℕ) → bits_at (bit_xor a b) i ≡ bit_xor (bits_at a i) (bits_at b i)
bits_xor a b i = ap (λ (x : ℕ). x % 4) (xor_shr a b (i * 2)) ∙ xor_mod (a / 2 ^ (i * 2)) (b / 2 ^ (i * 2)) 2

-- turning over the bits of y, below 4, at a row's place changes the value of that row alone
module _ (vals : List ℕ) (row y : ℕ) (room : row / 4 < length vals) (small : y < 4) where
  abbrev byte : ℕ
  byte = get_or vals (row / 4) 0

  abbrev after : ℕ
  after = bit_xor byte (moved y (row % 4))

  pub turned_same : value_in (set vals (row / 4) after) row ≡ bit_xor (value_in vals row) y
  unfolding value_in
  turned_same =
      rw (get_or-set_same vals (row / 4) after 0 room)
      (bits_xor byte (moved y (row % 4)) (row % 4) ∙ ap (bit_xor (bits_at byte (row % 4))) (moved_same y small (row % 4) (omega arith)))

  pub turned_other : (j : ℕ) → (j ≡ row → ⊥) → value_in (set vals (row / 4) after) j ≡ value_in vals j
  unfolding value_in
  turned_other j ne =
      by_cases (ℕ_discrete (j / 4) (row / 4))
      (λ (e : j / 4 ≡ row / 4). rw (e, get_or-set_same vals (row / 4) after 0 room)
      (bits_xor byte (moved y (row % 4)) (j % 4) ∙ (ap (bit_xor (bits_at byte (j % 4))) (moved_other y small (row % 4) (omega arith) (j % 4) (omega arith) (λ q. ne (omega arith))) ∙ xor_zero_r _)))
      (λ e. ap (λ (b : ℕ). bits_at b (j % 4)) (get_or-set_other vals (row / 4) (j / 4) after 0 e))

-- what turns 1 into x
pub one_turned : (x : ℕ) → x < 4 → bit_xor 1 (bit_xor x 1) ≡ x
one_turned = each (λ x. bit_xor 1 (bit_xor x 1) ≡ x) refl refl refl refl

-- 85 has 1 at each of its four places
pub all_one : (row : ℕ) → row < 256 → value_in (replicate 64 85) row ≡ 1
unfolding value_in
all_one row h = rw (get_or-replicate {A = ℕ} 64 (row / 4) 85 0 (omega arith)) (each (λ i. bits_at 85 i ≡ 1) refl refl refl refl (row % 4) (omega arith))
