-- The laws of a table of values that is filled in rising order. Assumes nothing.
use Prim.Native.Nat.{ℕ, ◌+◌, ◌-◌, ◌*◌, ◌<◌}
use mathlib.Core.Path.{◌≡◌, refl, sym, ◌∙◌, ap, ap₂}
use mathlib.Core.Bool.{Bool, true, false, cond}
use mathlib.Core.List.{List}
use mathlib.Core.Logic.{by_cases}
use native.Mathlib.Omega.{arith}
use native.Mathlib.Decide.{ℕ_discrete, dec_lt}
use lib.Dec.{eqb, ltb}
use lib.ListN.{get_or, length, replicate}
use Rattle.laws.specs.Up.{below}
use Rattle.laws.proofs.Up.{below_in, below_out}
use Rattle.calculus.specs.Status.{Value, False, Links}
use Rattle.conditions.specs.Conditions.{Evaluation, FALSE, TRUE, LINK, OP}
use Rattle.conditions.specs.Numbers.{digit, undigit}
use Rattle.conditions.specs.ByRows.{operate, value_by}
use Rattle.conditions.proofs.Numbers.{undigit_digit}
use Rattle.conditions.proofs.ByRows.{value_at}
use Rattle.sheet.specs.Table.{operator_of, condition_row_by, condition_row_at, evaluation_of, eval_of}
use Rattle.evaluate.specs.Values.{value_in, Evaluated}
use Rattle.evaluate.proofs.Packed.{all_one}

-- a row's value depends on its operands' alone
operands : (e : Evaluation) (kind a b : ℕ) (v : Links) (f g : ℕ → Value) → f a ≡ g a → f b ≡ g b → value_by e (condition_row_by kind a b) v f ≡ value_by e (condition_row_by kind a b) v g
unfolding condition_row_by value_by
operands e kind a b v f g p q = at (eqb kind 0) (eqb kind 1) (eqb kind 2) (ltb kind 7)
  where
    at : (s t u w : Bool) → value_by e (cond s FALSE (cond t TRUE (cond u (LINK a) (cond w (OP (operator_of (kind - 3)) a b) FALSE)))) v f ≡ value_by e (cond s FALSE (cond t TRUE (cond u (LINK a) (cond w (OP (operator_of (kind - 3)) a b) FALSE)))) v g
    at true t u w = refl
    at false true u w = refl
    at false false true w = refl
    at false false false true = ap₂ (operate e (operator_of (kind - 3))) p q
    at false false false false = refl

module _ (e : ℕ) (cs : List ℕ) (v : Links) where
  abbrev number_at : ℕ → ℕ
  number_at row = digit (eval_of e cs row v)

  sees : (row j : ℕ) → undigit (below 1 number_at row j) ≡ below False (λ q. eval_of e cs q v) row j
  unfolding below undigit
  sees row j = at (ltb j row)
    where
      at : (t : Bool) → undigit (cond t (number_at j) 1) ≡ cond t (eval_of e cs j v) False
      at true = undigit_digit _
      at false = refl

  -- one row more, seen from any other row
  below_next : (k j : ℕ) → (j ≡ k → ⊥) → below 1 number_at k j ≡ below 1 number_at (k + 1) j
  below_next k j p =
      by_cases (dec_lt j k)
      (λ h. below_in 1 number_at k j h ∙ sym (below_in 1 number_at (k + 1) j (omega arith)))
      (λ h. below_out 1 number_at k j (omega arith) ∙ sym (below_out 1 number_at (k + 1) j (omega arith)))

  pub evaluated_none : Evaluated e cs v 0 (replicate 64 85)
  unfolding Evaluated
  evaluated_none = (refl, λ row h. all_one row h ∙ sym (below_out 1 number_at 0 row (omega arith)))

  module _ (k : ℕ) (vals : List ℕ) (s : Evaluated e cs v k vals) where
    pub evaluated_long : length vals ≡ 64
    unfolding Evaluated
    evaluated_long = s.0

    -- the row that comes next still holds FALSE
    pub evaluated_next : k < 256 → value_in vals k ≡ 1
    unfolding Evaluated
    evaluated_next h = s.1 k h ∙ below_out 1 number_at k k (omega arith)

    -- what a step finds is the row's value
    pub found : get_or cs (k * 4 + 1) 0 < 256 → get_or cs (k * 4 + 2) 0 < 256 → value_by (evaluation_of e) (condition_row_at cs k) v (λ j. undigit (value_in vals j)) ≡ eval_of e cs k v
    unfolding Evaluated condition_row_at
    found h g = operands (evaluation_of e) (get_or cs (k * 4) 0) (get_or cs (k * 4 + 1) 0) (get_or cs (k * 4 + 2) 0) v _ _ (at _ h) (at _ g) ∙ sym (value_at (evaluation_of e) (condition_row_at cs) k v)
      where
        at : (j : ℕ) → j < 256 → undigit (value_in vals j) ≡ below False (λ q. eval_of e cs q v) k j
        at j h = ap undigit (s.1 j h) ∙ sees k j

    pub evaluated_more : (vals' : List ℕ) → length vals' ≡ 64 → ((j : ℕ) → (j ≡ k → ⊥) → value_in vals' j ≡ value_in vals j) → value_in vals' k ≡ number_at k → Evaluated e cs v (k + 1) vals'
    unfolding Evaluated
    evaluated_more vals' long kept new = (long, λ j h. by_cases (ℕ_discrete j k) (λ (p : j ≡ k). rw p (new ∙ sym (below_in 1 number_at (k + 1) k (omega arith)))) (λ p. kept j p ∙ (s.1 j h ∙ below_next k j p)))

    pub evaluated_at : (row : ℕ) → row < k → row < 256 → value_in vals row ≡ digit (eval_of e cs row v)
    unfolding Evaluated
    evaluated_at row h g = s.1 row g ∙ below_in 1 number_at k row h
