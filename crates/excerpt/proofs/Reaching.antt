-- THE FALLING PASS: from the last row down each row that is flagged has its operands flagged; then those are flagged that the first one reaches. Assumes nothing.
use Prim.Native.Nat.{ℕ, ◌+◌, ◌<◌, ◌≤◌}
use mathlib.Core.Path.{◌≡◌, refl, sym, ◌∙◌}
use mathlib.Core.Bool.{Bool, true, false, true≢false}
use mathlib.Core.Logic.{⊎_elim, by_cases}
use native.Mathlib.Omega.{arith}
use native.Mathlib.Decide.{ℕ_discrete}
use lib.Dec.{eqb}
use borrow.Author.Tests.{eqb-true}
use Rattle.laws.specs.Tests.{or}
use Rattle.laws.proofs.Tests.{not_both, both_ways, self, or_true, or_l, or_r}
use Rattle.laws.proofs.Up.{rising}
use Rattle.conditions.specs.Conditions.{ConditionRow, FALSE, TRUE, LINK, OP}
use Rattle.worth.specs.Pass.{is_operand}
use Rattle.damage.specs.Reached.{reaches_by, reaches_row, Lower}
use Rattle.damage.proofs.Reached.{reaches_row_law, reaches_itself, reaches_op, reaches_left, reaches_right, reaches_trans}

-- rows from i on have been passed: what is flagged is reached, and of those rows each that is flagged has its operands flagged
pub record Passed (rows : ℕ → ConditionRow) (c i : ℕ) (v : ℕ → Bool) : Type 0 where
  pub right : (j : ℕ) → v j ≡ true → reaches_row rows c j ≡ true
  pub top : v c ≡ true
  pub closed : (r j : ℕ) → i ≤ r → v r ≡ true → is_operand (rows r) j ≡ true → v j ≡ true

module _ (rows : ℕ → ConditionRow) (n : ℕ) (lower : (i : ℕ) → i < n → Lower i (rows i)) where
  -- an operand is lower, and it is reached
  operand_by : (i j : ℕ) (N : ConditionRow) → rows i ≡ N → Lower i N → is_operand N j ≡ true → (j < i) × (reaches_row rows i j ≡ true)
  unfolding is_operand Lower
  operand_by i j FALSE e l o = absurd (true≢false (sym o))
  operand_by i j TRUE e l o = absurd (true≢false (sym o))
  operand_by i j (LINK x) e l o = absurd (true≢false (sym o))
  operand_by i j (OP p a b) e l o =
      ⊎_elim
      (λ h. let z : j ≡ a = eqb-true j a h in rw z (l.0, reaches_left rows i a b p e l a (reaches_itself rows a)))
      (λ h. let z : j ≡ b = eqb-true j b h in rw z (l.1, reaches_right rows i a b p e l b (reaches_itself rows b)))
      (or_true o)

  operand : (i j : ℕ) → i < n → is_operand (rows i) j ≡ true → (j < i) × (reaches_row rows i j ≡ true)
  operand i j h = operand_by i j (rows i) refl (lower i h)

  -- a test that holds of each row's operands where it holds of the row holds of all that is reached
  module _ (v : ℕ → Bool) (closed : (r j : ℕ) → v r ≡ true → is_operand (rows r) j ≡ true → v j ≡ true) (k : ℕ) where
    abbrev Spreads : ℕ → Type 0
    Spreads i = i < n → v i ≡ true → reaches_row rows i k ≡ true → v k ≡ true

    own : (i : ℕ) → v i ≡ true → eqb k i ≡ true → v k ≡ true
    own i e q = let z : k ≡ i = eqb-true k i q in rw z e

    spreads_by : (i : ℕ) → ((j : ℕ) → j < i → Spreads j) → i < n → (N : ConditionRow) → rows i ≡ N → Lower i N → v i ≡ true → reaches_row rows i k ≡ true → v k ≡ true
    unfolding Lower reaches_by is_operand
    spreads_by i ih h FALSE e l g r = own i g (sym (reaches_row_law rows i k FALSE e) ∙ r)
    spreads_by i ih h TRUE e l g r = own i g (sym (reaches_row_law rows i k TRUE e) ∙ r)
    spreads_by i ih h (LINK x) e l g r = own i g (sym (reaches_row_law rows i k (LINK x) e) ∙ r)
    spreads_by i ih h (OP o a b) e l g r =
        ⊎_elim (own i g)
        (λ p. ⊎_elim
        (λ p. ih a l.0 (omega (arith, l.0)) (closed i a g (rw e (or_l _ (self a)))) p)
        (λ p. ih b l.1 (omega (arith, l.1)) (closed i b g (rw e (or_r _ (self b)))) p)
        (or_true p))
        (or_true (sym (reaches_op rows i a b o e l k) ∙ r))

    spreads : (i : ℕ) → Spreads i
    spreads = rising Spreads (λ i ih h. spreads_by i ih h (rows i) refl (lower i h))

  module _ (c : ℕ) (inside : c < n) where
    pub passed_none : Passed rows c (c + 1) (λ j. eqb j c)
    passed_none = record {
      right = λ j e. let z : j ≡ c = eqb-true j c e in rw z (reaches_itself rows c);
      top = self c;
      closed = λ r j h e o. absurd (let z : ⊥ = omega (arith, eqb-true r c e) in z);
    }

    module _ (i : ℕ) (v : ℕ → Bool) (w : Passed rows c (i + 1) v) where
      pub passed_hit : i < n → v i ≡ true → Passed rows c i (λ j. or (v j) (is_operand (rows i) j))
      passed_hit h g = record {
        right = λ j e. ⊎_elim (w.right j) (λ o. reaches_trans rows n lower j i c inside (w.right i g) (operand i j h o).1) (or_true e);
        top = or_l _ w.top;
        closed = λ r j a e o. by_cases (ℕ_discrete r i)
            (λ (z : r ≡ i). or_r _ (rw z at o))
            (λ z. or_l _ (w.closed r j (omega arith) (⊎_elim (λ p. p) (λ p. absurd (let y : ⊥ = omega (arith, (operand i r h p).0) in y)) (or_true e)) o));
      }

      pub passed_miss : v i ≡ false → Passed rows c i v
      passed_miss g = record {
        right = w.right;
        top = w.top;
        closed = λ r j a e o. by_cases (ℕ_discrete r i) (λ (z : r ≡ i). absurd (not_both (rw z at e) g)) (λ z. w.closed r j (omega arith) e o);
      }

    pub passed_all : (v : ℕ → Bool) → Passed rows c 0 v → (j : ℕ) → v j ≡ reaches_row rows c j
    passed_all v w j = both_ways (w.right j) (spreads v (λ r j. w.closed r j (omega arith)) j c inside w.top)
