-- The bytes of a row read as the row, wherever they stand, and meet rule 5 or 4 where the row does; laid one after another, each row stands at its rank. Assumes nothing.
use Prim.Native.Nat.{ℕ, zero, suc, ◌+◌, ◌-◌, ◌*◌, ◌<◌, ◌≤◌}
use mathlib.Core.Path.{◌≡◌, refl, ◌∙◌, ap, ap₂}
use mathlib.Core.Bool.{Bool, true, false}
use mathlib.Core.List.{List, [], ◌∷◌, ◌++◌, Memᴰ}
use mathlib.Core.Logic.{⊎_elim, by_cases}
use native.Mathlib.Omega.{arith}
use native.Mathlib.Decide.{ℕ_discrete}
use lib.ListN.{get_or, length, length-append, get_or-append}
use lib.Seq.{get_or-append-add}
use borrow.Author.Tests.{lt-ltb}
use Rattle.laws.specs.Tests.{bit}
use Rattle.laws.specs.Sums.{count}
use Rattle.laws.specs.Listed.{listed}
use Rattle.laws.proofs.Tests.{cases, not_both, bit_one, bit_small}
use Rattle.laws.proofs.Sums.{count_zero}
use Rattle.laws.proofs.Ranked.{count_hit, count_miss, count_up}
use Rattle.calculus.specs.Process.{act, out, join, pick, flow}
use Rattle.conditions.specs.Operators.{AND, OR, EQ, NE}
use Rattle.conditions.specs.Conditions.{ConditionRow, FALSE, TRUE, LINK, OP}
use Rattle.steps.specs.Rows.{Row, NIL, PREFIX, BRANCH}
use Rattle.sheet.specs.Table.{row_by, row_at, operator_of, condition_row_by, condition_row_at}
use Rattle.sheet.specs.Rules.{child_ok, term_rule, term_ok, condition_rule, condition_ok}
use Rattle.sheet.proofs.Rows.{PrefixOk, RowOk, ConditionRowOk}
use Rattle.layout.specs.Bytes.{row_bytes, condition_bytes, laid}

-- four bytes stand at row j
abbrev Four : List ℕ → ℕ → List ℕ → Type 0
Four ts j xs = (get_or ts (j * 4) 0 ≡ get_or xs 0 0) × (get_or ts (j * 4 + 1) 0 ≡ get_or xs 1 0) × (get_or ts (j * 4 + 2) 0 ≡ get_or xs 2 0) × (get_or ts (j * 4 + 3) 0 ≡ get_or xs 3 0)

abbrev pub At : List ℕ → ℕ → Row → Type 0
At ts j N = Four ts j (row_bytes N)

pub at_row : (ts : List ℕ) (j : ℕ) (N : Row) → At ts j N → row_at ts j ≡ N
unfolding row_at row_by row_bytes
at_row ts j NIL (p, q, r, s) = rw p refl
at_row ts j (PREFIX (act a) c) (p, q, r, s) = rw (p, q, r) refl
at_row ts j (PREFIX (out l b) c) (p, q, r, s) = rw (p, q, r, s, bit_one b) refl
at_row ts j (PREFIX (join x) c) (p, q, r, s) = rw (p, q, r) refl
at_row ts j (BRANCH pick x y) (p, q, r, s) = rw (p, q, r) refl
at_row ts j (BRANCH flow x y) (p, q, r, s) = rw (p, q, r) refl

pub at_ok : (ts : List ℕ) (m n k j : ℕ) (N : Row) → At ts j N → RowOk m n k j N → term_ok ts m n k j ≡ true
unfolding term_ok term_rule child_ok row_bytes RowOk PrefixOk
at_ok ts m n k j NIL (p, q, r, s) h = rw (p, q, r, s) refl
at_ok ts m n k j (PREFIX (act a) c) (p, q, r, s) h = rw (p, r, s, lt-ltb j c h.1.0, lt-ltb c n h.1.1) refl
at_ok ts m n k j (PREFIX (out l b) c) (p, q, r, s) h = rw (p, q, r, s, lt-ltb l m h.0, lt-ltb (bit b) 2 (omega (arith, bit_small b)), lt-ltb j c h.1.0, lt-ltb c n h.1.1) refl
at_ok ts m n k j (PREFIX (join x) c) (p, q, r, s) h = rw (p, q, r, s, lt-ltb x k h.0, lt-ltb j c h.1.0, lt-ltb c n h.1.1) refl
at_ok ts m n k j (BRANCH pick x y) (p, q, r, s) h = rw (p, q, r, s, lt-ltb j x h.0.0, lt-ltb x n h.0.1, lt-ltb j y h.1.0, lt-ltb y n h.1.1) refl
at_ok ts m n k j (BRANCH flow x y) (p, q, r, s) h = rw (p, q, r, s, lt-ltb j x h.0.0, lt-ltb x n h.0.1, lt-ltb j y h.1.0, lt-ltb y n h.1.1) refl

-- a row's bytes are four
pub four_each : (N : Row) → length (row_bytes N) ≡ 4
unfolding row_bytes
four_each NIL = refl
four_each (PREFIX (act a) c) = refl
four_each (PREFIX (out l b) c) = refl
four_each (PREFIX (join x) c) = refl
four_each (BRANCH pick x y) = refl
four_each (BRANCH flow x y) = refl

-- so it is with condition rows
abbrev pub AtCondition : List ℕ → ℕ → ConditionRow → Type 0
AtCondition cs j N = Four cs j (condition_bytes N)

pub at_condition : (cs : List ℕ) (j : ℕ) (N : ConditionRow) → AtCondition cs j N → condition_row_at cs j ≡ N
unfolding condition_row_at condition_row_by condition_bytes operator_of
at_condition cs j FALSE (p, q, r, s) = rw p refl
at_condition cs j TRUE (p, q, r, s) = rw p refl
at_condition cs j (LINK l) (p, q, r, s) = rw (p, q) refl
at_condition cs j (OP AND a b) (p, q, r, s) = rw (p, q, r) refl
at_condition cs j (OP OR a b) (p, q, r, s) = rw (p, q, r) refl
at_condition cs j (OP EQ a b) (p, q, r, s) = rw (p, q, r) refl
at_condition cs j (OP NE a b) (p, q, r, s) = rw (p, q, r) refl

pub at_condition_ok : (cs : List ℕ) (m j : ℕ) (N : ConditionRow) → AtCondition cs j N → ConditionRowOk m j N → condition_ok cs m j ≡ true
unfolding condition_ok condition_rule condition_bytes ConditionRowOk
at_condition_ok cs m j FALSE (p, q, r, s) h = rw (p, q, r, s) refl
at_condition_ok cs m j TRUE (p, q, r, s) h = rw (p, q, r, s) refl
at_condition_ok cs m j (LINK l) (p, q, r, s) h = rw (p, q, r, s, lt-ltb l m h) refl
at_condition_ok cs m j (OP AND a b) (p, q, r, s) h = rw (p, q, r, s, lt-ltb a j h.0, lt-ltb b j h.1) refl
at_condition_ok cs m j (OP OR a b) (p, q, r, s) h = rw (p, q, r, s, lt-ltb a j h.0, lt-ltb b j h.1) refl
at_condition_ok cs m j (OP EQ a b) (p, q, r, s) h = rw (p, q, r, s, lt-ltb a j h.0, lt-ltb b j h.1) refl
at_condition_ok cs m j (OP NE a b) (p, q, r, s) h = rw (p, q, r, s, lt-ltb a j h.0, lt-ltb b j h.1) refl

pub four_each_condition : (N : ConditionRow) → length (condition_bytes N) ≡ 4
unfolding condition_bytes
four_each_condition FALSE = refl
four_each_condition TRUE = refl
four_each_condition (LINK l) = refl
four_each_condition (OP AND a b) = refl
four_each_condition (OP OR a b) = refl
four_each_condition (OP EQ a b) = refl
four_each_condition (OP NE a b) = refl

-- bytes that stand in front of others, and that stand behind rows
module _ (xs ys zs : List ℕ) where
  pub four_left : (j : ℕ) → suc j * 4 ≤ length xs → Four xs j zs → Four (xs ++ ys) j zs
  four_left j h (p, q, r, s) = (at _ (omega arith) ∙ p, at _ (omega arith) ∙ q, at _ (omega arith) ∙ r, at _ (omega arith) ∙ s)
    where
      at : (i : ℕ) → i < length xs → get_or (xs ++ ys) i 0 ≡ get_or xs i 0
      at = get_or-append xs ys 0

  pub four_right : (c j : ℕ) → length xs ≡ c * 4 → Four ys j zs → Four (xs ++ ys) (c + j) zs
  four_right c j h (p, q, r, s) = (at _ _ (omega arith) ∙ p, at _ _ (omega arith) ∙ q, at _ _ (omega arith) ∙ r, at _ _ (omega arith) ∙ s)
    where
      at : (i k : ℕ) → k ≡ length xs + i → get_or (xs ++ ys) k 0 ≡ get_or ys i 0
      at i k e = ap (λ (k : ℕ). get_or (xs ++ ys) k 0) e ∙ get_or-append-add xs ys i 0

-- ... the first row, and a later one
module _ (xs ys : List ℕ) (four : length xs ≡ 4) where
  pub four_first : Four (xs ++ ys) 0 xs
  four_first = four_left xs ys xs 0 (omega arith) (refl, refl, refl, refl)

  pub four_later : (zs : List ℕ) (j : ℕ) → Four ys j zs → Four (xs ++ ys) (suc j) zs
  four_later zs j f = let e : suc j ≡ 1 + j = omega arith in rw e (four_right xs ys zs 1 j four f)

-- the same bytes for each number, the same bytes in all
pub laid_same : (f g : ℕ → List ℕ) (ks : List ℕ) → ((k : ℕ) → Memᴰ k ks → f k ≡ g k) → laid f ks ≡ laid g ks
unfolding laid
laid_same f g [] h = refl
laid_same f g (k ∷ ks) h = ap₂ ◌++◌ (h k (Memᴰ.head refl)) (laid_same f g ks (λ j m. h j (Memᴰ.tail m)))

-- THE ROWS OF A TEST'S NUMBERS: the row of a number stands at its rank
module _ (bytes : ℕ → List ℕ) (fours : (k : ℕ) → length (bytes k) ≡ 4) where
  module _ (p : ℕ → Bool) where
    ranked : (i c k j : ℕ) → i ≤ k → k < i + c → p k ≡ true → j + count p i ≡ count p k → Four (laid bytes (listed p i c)) j (bytes k)
    unfolding listed laid
    ranked i zero k j a b e h = absurd (let z : ⊥ = omega arith in z)
    ranked i (suc c) k j a b e h =
        ⊎_elim
        (λ (t : p i ≡ true). rw t (by_cases (ℕ_discrete k i)
        (λ (z : k ≡ i). let y : j ≡ 0 = omega (arith, ap (count p) z) in rw (y, z) (four_first (bytes i) _ (fours i)))
        (λ (z : k ≡ i → ⊥).
        let g : suc i ≤ k = omega arith in
        let u : (j - 1) + count p (suc i) ≡ count p k = omega (arith, count_hit p i t, count_up p (suc i) k g) in
        let v : k < suc i + c = omega arith in
        let y : j ≡ suc (j - 1) = omega (arith, count_hit p i t, count_up p (suc i) k g) in
        rw y (four_later (bytes i) _ (fours i) (bytes k) (j - 1) (ranked (suc i) c k (j - 1) g v e u)))))
        (λ (t : p i ≡ false). rw t (ranked (suc i) c k j (let z : k ≡ i → ⊥ = λ (z : k ≡ i). not_both e (rw z t) in omega arith) (omega arith) e (omega (arith, count_miss p i t))))
        (cases (p i))

    pub row_ranked : (n k : ℕ) → k < n → p k ≡ true → Four (laid bytes (listed p 0 n)) (count p k) (bytes k)
    row_ranked n k h e = ranked 0 n k (count p k) (omega arith) (omega arith) e (omega (arith, count_zero p))

  -- as many bytes as four times the numbers
  pub laid_length : (ks : List ℕ) → length (laid bytes ks) ≡ length ks * 4
  unfolding laid
  laid_length [] = refl
  laid_length (k ∷ ks) = length-append (bytes k) (laid bytes ks) ∙ omega (arith, fours k, laid_length ks)
