-- THE ROWS THAT A CONDITION ROW REACHES: itself, and what its operands reach; none is above it. With new numbers that rise with the old it is the same condition. Assumes nothing.
use Prim.Native.Nat.{ℕ, suc, ◌+◌, ◌<◌, ◌≤◌}
use mathlib.Core.Path.{◌≡◌, refl, sym, ◌∙◌, ap, ap₂}
use mathlib.Core.Bool.{Bool, true, false, cond}
use mathlib.Core.List.{List}
use mathlib.Core.Logic.{◌⊎◌, inl, inr, ⊎_elim}
use native.Mathlib.Omega.{arith}
use lib.Dec.{eqb}
use borrow.Author.Tests.{eqb-true}
use Rattle.laws.specs.Tests.{or}
use Rattle.laws.specs.Up.{below}
use Rattle.laws.specs.Sums.{count}
use Rattle.laws.specs.Checks.{Holds}
use Rattle.laws.proofs.Tests.{refuted, self, or_true, or_l, or_r}
use Rattle.laws.proofs.Up.{rising, up_at, below_in}
use Rattle.laws.proofs.Sums.{sum_later}
use Rattle.laws.proofs.Ranked.{count_hit}
use Rattle.conditions.specs.Operators.{Operator}
use Rattle.conditions.specs.Conditions.{constant, op, ConditionRow, FALSE, TRUE, LINK, OP, condition_by, condition}
use Rattle.conditions.proofs.Evaluation.{condition_at_law}
use Rattle.sheet.specs.Table.{Table, condition_row_at}
use Rattle.sheet.specs.Rules.{conditions}
use Rattle.sheet.proofs.Rows.{ConditionRowOk, condition_row}
use Rattle.damage.specs.Reached.{reaches_by, reaches_row, renumbered_condition, Lower, LowerTo}
use Rattle.damage.specs.Damage.{is_reached, rank}

module _ (rows : ℕ → ConditionRow) where
  reaches_at : (i k : ℕ) → reaches_row rows i k ≡ reaches_by i (rows i) (below (λ k. false) (reaches_row rows) i) k
  unfolding reaches_row
  reaches_at i k = ap (λ (f : ℕ → Bool). f k) (up_at (λ (k : ℕ). false) (λ i R. reaches_by i (rows i) R) i)

  pub reaches_row_law : (i k : ℕ) (N : ConditionRow) → rows i ≡ N → reaches_row rows i k ≡ reaches_by i N (below (λ k. false) (reaches_row rows) i) k
  reaches_row_law i k N e = reaches_at i k ∙ ap (λ (N : ConditionRow). reaches_by i N (below (λ k. false) (reaches_row rows) i) k) e

  itself_by : (i : ℕ) (N : ConditionRow) (R : ℕ → ℕ → Bool) → reaches_by i N R i ≡ true
  unfolding reaches_by
  itself_by i FALSE R = self i
  itself_by i TRUE R = self i
  itself_by i (LINK l) R = self i
  itself_by i (OP o a b) R = or_l _ (self i)

  pub reaches_itself : (i : ℕ) → reaches_row rows i i ≡ true
  reaches_itself i = reaches_at i i ∙ itself_by i (rows i) _

  module _ (i a b : ℕ) (o : Operator) (e : rows i ≡ OP o a b) (l : (a < i) × (b < i)) where
    pub reaches_op : (k : ℕ) → reaches_row rows i k ≡ or (eqb k i) (or (reaches_row rows a k) (reaches_row rows b k))
    unfolding reaches_by
    reaches_op k =
        reaches_row_law i k (OP o a b) e ∙
        ap₂ (λ (f g : ℕ → Bool). or (eqb k i) (or (f k) (g k))) (below_in (λ (k : ℕ). false) (reaches_row rows) i a l.0) (below_in (λ (k : ℕ). false) (reaches_row rows) i b l.1)

    pub reaches_left : (k : ℕ) → reaches_row rows a k ≡ true → reaches_row rows i k ≡ true
    reaches_left k h = reaches_op k ∙ or_r _ (or_l _ h)

    pub reaches_right : (k : ℕ) → reaches_row rows b k ≡ true → reaches_row rows i k ≡ true
    reaches_right k h = reaches_op k ∙ or_r _ (or_r _ h)

  module _ (n : ℕ) (lower : (i : ℕ) → i < n → Lower i (rows i)) where
    -- what a row reaches is the row, or is reached from a lower one, of which the row reaches all that it reaches
    abbrev Further : ℕ → ℕ → Type 0
    Further i k = (j : ℕ) × (j < i) × (reaches_row rows j k ≡ true) × ((h : ℕ) → reaches_row rows j h ≡ true → reaches_row rows i h ≡ true)

    further_by : (i k : ℕ) (N : ConditionRow) → rows i ≡ N → Lower i N → reaches_row rows i k ≡ true → (k ≡ i) ⊎ Further i k
    unfolding Lower reaches_by
    further_by i k FALSE e l r = inl (eqb-true k i (sym (reaches_row_law i k FALSE e) ∙ r))
    further_by i k TRUE e l r = inl (eqb-true k i (sym (reaches_row_law i k TRUE e) ∙ r))
    further_by i k (LINK x) e l r = inl (eqb-true k i (sym (reaches_row_law i k (LINK x) e) ∙ r))
    further_by i k (OP o a b) e l r =
        ⊎_elim (λ p. inl (eqb-true k i p))
        (λ p. inr (⊎_elim (λ p. (a, l.0, p, reaches_left i a b o e l)) (λ p. (b, l.1, p, reaches_right i a b o e l)) (or_true p)))
        (or_true (sym (reaches_op i a b o e l k) ∙ r))

    further : (i k : ℕ) → i < n → reaches_row rows i k ≡ true → (k ≡ i) ⊎ Further i k
    further i k h = further_by i k (rows i) refl (lower i h)

    -- none is above it
    pub reaches_under : (i k : ℕ) → i < n → reaches_row rows i k ≡ true → k ≤ i
    reaches_under i k = rising (λ i. i < n → reaches_row rows i k ≡ true → k ≤ i) (λ i ih h r.
        ⊎_elim (λ (z : k ≡ i). omega arith) (λ (j, a, p, _). let g : j < n = omega arith in omega (arith, ih j a g p)) (further i k h r)) i

    -- what a reached row reaches is reached
    pub reaches_trans : (j k i : ℕ) → i < n → reaches_row rows i k ≡ true → reaches_row rows k j ≡ true → reaches_row rows i j ≡ true
    reaches_trans j k i h r q = rising (λ i. i < n → reaches_row rows i k ≡ true → reaches_row rows i j ≡ true) (λ i ih h r.
        ⊎_elim (λ (z : k ≡ i). rw z at q) (λ (x, a, p, up). up j (ih x a (omega arith) p)) (further i k h r)) i h r

  -- THE SAME CONDITION
  module _ (n : ℕ) (lower : (i : ℕ) → i < n → Lower i (rows i)) (c : ℕ) (ρ : ℕ → ℕ) (new : ℕ → ConditionRow)
      (ordered : (i j : ℕ) → reaches_row rows c i ≡ true → i < j → ρ i < ρ j) (there : (i : ℕ) → reaches_row rows c i ≡ true → new (ρ i) ≡ renumbered_condition ρ (rows i)) where
    abbrev Inside : ℕ → Type 0
    Inside i = (k : ℕ) → reaches_row rows i k ≡ true → reaches_row rows c k ≡ true

    abbrev Same : ℕ → Type 0
    Same i = Inside i → condition new (ρ i) ≡ condition rows i

    same_by : (i : ℕ) → Inside i → ((j : ℕ) → j < i → Same j) → (N : ConditionRow) → rows i ≡ N → Lower i N →
        condition_by (renumbered_condition ρ N) (below (constant false) (condition new) (ρ i)) ≡ condition_by N (below (constant false) (condition rows) i)
    unfolding Lower condition_by renumbered_condition
    same_by i s ih FALSE e l = refl
    same_by i s ih TRUE e l = refl
    same_by i s ih (LINK x) e l = refl
    same_by i s ih (OP o a b) e l = ap₂ (op o) (operand a l.0 (λ k r. s k (reaches_left i a b o e l k r))) (operand b l.1 (λ k r. s k (reaches_right i a b o e l k r)))
      where
        operand : (j : ℕ) → j < i → Inside j → below (constant false) (condition new) (ρ i) (ρ j) ≡ below (constant false) (condition rows) i j
        operand j h t =
            below_in (constant false) (condition new) (ρ i) (ρ j) (ordered j i (t j (reaches_itself j)) h) ∙
            (ih j h t ∙ sym (below_in (constant false) (condition rows) i j h))

    pub same_condition : c < n → condition new (ρ c) ≡ condition rows c
    same_condition h = rising (λ i. i < n → Same i) (λ i ih h s.
        condition_at_law new (ρ i) ∙
        (ap (λ (N : ConditionRow). condition_by N (below (constant false) (condition new) (ρ i))) (there i (s i (reaches_itself i))) ∙
        (same_by i s (λ j a. ih j a (omega arith)) (rows i) refl (lower i h) ∙ sym (condition_at_law rows i)))) c h (λ k r. r)

-- rule 4: operands are lower
lower_by_law : (m i : ℕ) (N : ConditionRow) → ConditionRowOk m i N → Lower i N
unfolding ConditionRowOk Lower
lower_by_law m i FALSE h = tt
lower_by_law m i TRUE h = tt
lower_by_law m i (LINK l) h = tt
lower_by_law m i (OP o a b) h = h

pub rule_lower : (m k : ℕ) (cs : List ℕ) → Holds (conditions m k cs) → LowerTo cs k
rule_lower m k cs four i h = lower_by_law m i (condition_row_at cs i) (condition_row cs m i (four i (omega arith) h))

-- OF THE ROWS THAT ARE KEPT THE CONDITION'S OWN IS THE LAST
module _ (t : Table) (c : ℕ) (lower : LowerTo t.conditions t.k) (inside : c < t.k) where
  pub reached_under : (i : ℕ) → is_reached t c i ≡ true → i ≤ c
  unfolding is_reached
  reached_under i = reaches_under (condition_row_at t.conditions) t.k lower c i inside

  pub rank_last : rank t c t.k ≡ rank t c c + 1
  unfolding rank count is_reached
  rank_last =
      sum_later (λ i. cond (is_reached t c i) 1 0) (suc c) t.k (omega arith) (λ i a b. rw (refuted (is_reached t c i) (λ e. let z : ⊥ = omega (arith, reached_under i e) in z)) refl) ∙
      count_hit (is_reached t c) c (reaches_itself (condition_row_at t.conditions) c)
