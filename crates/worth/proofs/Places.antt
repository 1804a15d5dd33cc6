-- The laws of a set of rows as the bits of four words. Assumes nothing.
use Prim.Native.Nat.{ℕ, ◌+◌, ◌-◌, ◌*◌, ◌/◌, ◌%◌, ◌^◌, ◌<◌, ◌≤◌}
use mathlib.Core.Path.{◌≡◌, sym, ◌∙◌, ap}
use mathlib.Core.Bool.{Bool, true, false, not}
use mathlib.Core.List.{List}
use mathlib.Core.Logic.{by_cases}
use native.Mathlib.Omega.{arith}
use native.Mathlib.Nat.{div-eq_of_lt, div-le_self, div-div-eq-div-mul, pow-le-pow_right, zero-lt-suc}
use native.Mathlib.Decide.{ℕ_discrete, dec_lt}
use lib.Bits.{bit_or}
use lib.Count.{count_trailing_zeros}
use lib.Dec.{eqb}
use lib.ListN.{get_or, length, set, replicate, length-set}
use lib.Pow.{pow-add}
use lib.Seq.{get_or-set_same, get_or-set_other}
use borrow.Author.Tests.{eq-eqb, ne_eqb, not-true, not-false}
use Rattle.laws.specs.Tests.{or}
use Rattle.laws.specs.Lowest.{lowest}
use Rattle.laws.proofs.Tests.{or_none, or_right, not_both}
use Rattle.laws.proofs.Up.{get_d_constant}
use Rattle.laws.proofs.Lowest.{lowest_from, lowest_below, lowest_at, lowest_is, lowest_none}
use Rattle.reach.specs.Masks.{has_bit}
use Rattle.reach.proofs.Bits.{bit_or_law, bit_power, bit_none, bits_some, trailing_lowest}
use Rattle.worth.specs.Sets.{placed, in_set, Adds}

-- no row stands in words of zeros
pub none_in : (r : ℕ) → in_set (replicate 4 0) r ≡ false
unfolding placed
none_in r = ap (λ (w : ℕ). has_bit w ((255 - r) % 64)) (get_d_constant {A = ℕ} 0 4 ((255 - r) / 64)) ∙ bit_none ((255 - r) % 64)

-- two tests of numbers, by what makes them equal
eqb_same : (a b c d : ℕ) → (a ≡ b → c ≡ d) → (c ≡ d → a ≡ b) → eqb a b ≡ eqb c d
eqb_same a b c d to back = by_cases (ℕ_discrete a b) (λ e. eq-eqb a b e ∙ sym (eq-eqb c d (to e))) (λ e. ne_eqb a b e ∙ sym (ne_eqb c d (λ f. e (back f))))

-- a bit joined to the word of a place: that place is new, every other is as it was
module _ (rows : List ℕ) (long : length rows ≡ 4) (p : ℕ) (small : p < 256) where
  abbrev word : ℕ
  word = get_or rows (p / 64) 0

  placed_more : (q : ℕ) → placed (set rows (p / 64) (bit_or word (2 ^ (p % 64)))) q ≡ or (placed rows q) (eqb q p)
  unfolding placed
  placed_more q =
      by_cases (ℕ_discrete (q / 64) (p / 64))
      (λ (e : q / 64 ≡ p / 64). rw (e, get_or-set_same rows (p / 64) (bit_or word (2 ^ (p % 64))) 0 (omega arith))
      (bit_or_law word (2 ^ (p % 64)) (q % 64) ∙ ap (or (has_bit word (q % 64))) (bit_power (p % 64) (q % 64) ∙ eqb_same (q % 64) (p % 64) q p (λ f. omega arith) (λ f. omega arith))))
      (λ e. ap (λ (w : ℕ). has_bit w (q % 64)) (get_or-set_other rows (p / 64) (q / 64) (bit_or word (2 ^ (p % 64))) 0 e)
      ∙ sym (ap (or (has_bit (get_or rows (q / 64) 0) (q % 64))) (ne_eqb q p (λ (f : q ≡ p). e (ap (λ (x : ℕ). x / 64) f))) ∙ or_none _))

-- ... so that one row is new
pub adds_one : (rows : List ℕ) (row : ℕ) → length rows ≡ 4 → row < 256 → Adds (λ r. eqb r row) rows (set rows ((255 - row) / 64) (bit_or (get_or rows ((255 - row) / 64) 0) (2 ^ ((255 - row) % 64))))
adds_one rows row long h = record {
  size = length-set rows ((255 - row) / 64) _ ∙ long;
  at = λ r g. placed_more rows long (255 - row) (omega arith) (255 - r) ∙ ap (or (in_set rows r)) (eqb_same (255 - r) (255 - row) r row (λ e. omega arith) (λ e. omega arith));
}

-- the digits of a number that is shifted, and of a small one
bit_shift : (x s l : ℕ) → has_bit (x / 2 ^ s) l ≡ has_bit x (s + l)
unfolding has_bit
bit_shift x s l = ap (λ (y : ℕ). eqb (y % 2) 1) (div-div-eq-div-mul x (2 ^ s) (2 ^ l) ∙ ap (λ (y : ℕ). x / y) (sym (pow-add 2 s l)))

bit_high : (n x l : ℕ) → x < 2 ^ n → n ≤ l → has_bit x l ≡ false
unfolding has_bit
bit_high n x l h k = let p : 2 ^ n ≤ 2 ^ l = pow-le-pow_right (zero-lt-suc 1) k in let q : x < 2 ^ l = omega arith in rw (div-eq_of_lt q)

-- the first bit of a word that is set, from one on
module _ (word from : ℕ) (inside : from < 64) where
  abbrev rest : ℕ
  rest = word / 2 ^ from

  rest_at : (l : ℕ) → from ≤ l → has_bit word l ≡ has_bit rest (l - from)
  rest_at l h = let z : from + (l - from) ≡ l = omega arith in ap (has_bit word) (sym z) ∙ sym (bit_shift word from (l - from))

  pub first_none : rest ≡ 0 → 64 ≡ lowest (λ l. not (has_bit word l)) from (64 - from)
  first_none z =
      let e : from + (64 - from) ≡ 64 = omega arith in
      sym (lowest_none (λ l. not (has_bit word l)) from (64 - from) (λ l h k. ap not (rest_at l h ∙ (ap (λ (w : ℕ). has_bit w (l - from)) z ∙ bit_none (l - from)))) ∙ e)

  module _ (small : word < 2 ^ 64) (some : rest ≡ 0 → ⊥) where
    smaller : rest < 2 ^ 64
    smaller = let h = div-le_self word (2 ^ from) in omega (arith, h)

    abbrev zeros : ℕ
    zeros = count_trailing_zeros 64 rest

    bit_there : has_bit word (from + zeros) ≡ true
    bit_there = sym (bit_shift word from zeros) ∙ rw (trailing_lowest 64 rest) (not-false _ (lowest_at (λ j. not (has_bit rest j)) 0 64 (bits_some 64 rest smaller some)))

    bit_before : (l : ℕ) → from ≤ l → l < from + zeros → has_bit word l ≡ false
    bit_before l h k = rest_at l h ∙ not-true _ (lowest_below (λ j. not (has_bit rest j)) 0 64 (l - from) (omega arith) (omega (arith, trailing_lowest 64 rest)))

    pub first_inside : from + zeros < 64
    first_inside = by_cases (dec_lt (from + zeros) 64) (λ h. h) (λ h. absurd (not_both bit_there (bit_high 64 word (from + zeros) small (omega arith))))

    pub first_some : from + zeros ≡ lowest (λ l. not (has_bit word l)) from (64 - from)
    first_some = let h = first_inside in sym (lowest_is (λ l. not (has_bit word l)) from (64 - from) (from + zeros) (omega arith) (λ l a b. ap not (bit_before l a b)) (omega arith) (ap not bit_there))

-- no row stands at the places from one to before another
unfoldable pub Clear : List ℕ → ℕ → ℕ → Type 0
Clear rows from at = (q : ℕ) → from ≤ q → q < at → placed rows q ≡ false

pub clear_none : (rows : List ℕ) (from : ℕ) → Clear rows from (from / 64 * 64)
unfolding Clear
clear_none rows from q h k = absurd (let z : ⊥ = omega arith in z)

-- a word's places, by its first bit from one on
module _ (rows : List ℕ) (from word bit : ℕ) (clear : Clear rows from (word * 64)) (found : bit ≡ lowest (λ l. not (has_bit (get_or rows word 0) l)) (from - word * 64) (64 - (from - word * 64))) where
  abbrev low : ℕ
  low = from - word * 64

  clear_upto : (end : ℕ) → end ≤ word * 64 + bit → end ≤ word * 64 + 64 → Clear rows from end
  unfolding Clear placed
  clear_upto end b w q h k =
      by_cases (dec_lt q (word * 64)) (λ g. clear q h g)
      (λ g. let e : q / 64 ≡ word = omega arith in rw e (not-true _ (lowest_below (λ l. not (has_bit (get_or rows word 0) l)) low (64 - low) (q % 64) (omega arith) (omega (arith, found)))))

  pub clear_word : bit ≡ 64 → Clear rows from ((word + 1) * 64)
  clear_word h = clear_upto ((word + 1) * 64) (omega arith) (omega arith)

  pub next_here : word < 4 → bit < 64 → word * 64 + bit ≡ lowest (λ p. not (placed rows p)) from (256 - from)
  unfolding Clear placed
  next_here inside h =
      let least : low ≤ bit = rw found (lowest_from (λ l. not (has_bit (get_or rows word 0) l)) low (64 - low)) in
      let e : (word * 64 + bit) / 64 ≡ word = omega arith in
      let d : (word * 64 + bit) % 64 ≡ bit = omega arith in
      sym (lowest_is (λ p. not (placed rows p)) from (256 - from) (word * 64 + bit) (omega arith)
      (λ q a b. ap not (clear_upto (word * 64 + bit) (omega arith) (omega arith) q a b))
      (omega arith)
      (rw (e, d) (ap not (ap (has_bit (get_or rows word 0)) found ∙ not-false _ (lowest_at (λ l. not (has_bit (get_or rows word 0) l)) low (64 - low) (omega (arith, found)))))))

-- past the last word there is none
pub next_none : (rows : List ℕ) (from : ℕ) → Clear rows from 256 → from ≤ 256 → 256 ≡ lowest (λ p. not (placed rows p)) from (256 - from)
unfolding Clear
next_none rows from clear h =
    let z : from + (256 - from) ≡ 256 = omega arith in
    sym (lowest_none (λ p. not (placed rows p)) from (256 - from) (λ q g l. ap not (clear q g (omega arith))) ∙ z)

-- nothing is new, and two rows are
pub adds_none : (new : ℕ → Bool) (rows : List ℕ) → length rows ≡ 4 → ((r : ℕ) → new r ≡ false) → Adds new rows rows
adds_none new rows long h = record { size = long; at = λ r g. sym (ap (or (in_set rows r)) (h r) ∙ or_none (in_set rows r)) }

pub adds_two : (a b : ℕ) (rows rows' rows'' : List ℕ) → Adds (λ r. eqb r a) rows rows' → Adds (λ r. eqb r b) rows' rows'' → Adds (λ r. or (eqb r a) (eqb r b)) rows rows''
adds_two a b rows rows' rows'' m m' = record { size = m'.size; at = λ r h. m'.at r h ∙ (ap (λ (x : Bool). or x (eqb r b)) (m.at r h) ∙ or_right (in_set rows r) (eqb r a) (eqb r b)) }

-- the next place lies after
pub next_after : (rows : List ℕ) (from at : ℕ) → at ≡ lowest (λ p. not (placed rows p)) from (256 - from) → from ≤ at
next_after rows from at e = rw e (lowest_from (λ p. not (placed rows p)) from (256 - from))

pub next_placed : (rows : List ℕ) (from at : ℕ) → from ≤ 256 → at ≡ lowest (λ p. not (placed rows p)) from (256 - from) → at < 256 → placed rows at ≡ true
next_placed rows from at h e g = rw e (not-false _ (lowest_at (λ p. not (placed rows p)) from (256 - from) (omega (arith, e))))
