-- The constant tables are document 01's, and what bytes read as. Assumes nothing.
use Prim.Native.Nat.{ℕ, zero, suc, min}
use mathlib.Core.Path.{◌≡◌, refl}
use mathlib.Core.Bool.{Bool, true}
use mathlib.Core.List.{List, []}
use native.Mathlib.Omega.{arith}
use lib.Dec.{eqb}
use lib.ListN.{get_or}
use borrow.Author.Tests.{eqb-true}
use Rattle.calculus.specs.Status.{Value}
use Rattle.conditions.specs.Operators.{Operator, table}
use Rattle.conditions.specs.Numbers.{digit, undigit}
use Rattle.conditions.specs.ByRows.{strictly}
use Rattle.conditions.proofs.Operators.{every₂, every₂_is}

-- an operator's values: left operand unset, false, true; right operand in the same order
abbrev pub entry : List (List ℕ) → ℕ → ℕ → ℕ
entry t x y = get_or (get_or t x []) y 0

-- all entries of an operator's table, tested at once
abbrev right : List (List ℕ) → Operator → Bool
right t o = every₂ (λ a b. eqb (entry t (digit a) (digit b)) (digit (table o a b)))

-- a table that passes the test has the operator's values
pub table_at : (t : List (List ℕ)) (o : Operator) → right t o ≡ true → (x y : ℕ) (a b : Value) → x ≡ digit a → y ≡ digit b → entry t x y ≡ digit (table o a b)
table_at t o e x y a b p q = rw (p, q) (eqb-true _ _ (every₂_is (λ a b. eqb (entry t (digit a) (digit b)) (digit (table o a b))) e a b))

-- strictly, an operand 0 gives 0
pub unset_left : (o : Operator) (l r : ℕ) → l ≡ 0 → 0 ≡ digit (strictly o (undigit l) (undigit r))
unfolding digit undigit strictly
unset_left o l r e = rw e

pub unset_right : (o : Operator) (l r : ℕ) → r ≡ 0 → 0 ≡ digit (strictly o (undigit l) (undigit r))
unfolding digit undigit strictly
unset_right o zero r e = refl
unset_right o (suc zero) r e = rw e
unset_right o (suc (suc l)) r e = rw e

pub both_set : (o : Operator) (l r : ℕ) → (l ≡ 0 → ⊥) → (r ≡ 0 → ⊥) → table o (undigit l) (undigit r) ≡ strictly o (undigit l) (undigit r)
unfolding undigit strictly
both_set o zero r h k = absurd (h refl)
both_set o (suc l) zero h k = absurd (k refl)
both_set o (suc zero) (suc zero) h k = refl
both_set o (suc zero) (suc (suc r)) h k = refl
both_set o (suc (suc l)) (suc zero) h k = refl
both_set o (suc (suc l)) (suc (suc r)) h k = refl

-- a byte above 1 reads as true
pub reads : (x : ℕ) → min x 2 ≡ digit (undigit x)
unfolding digit undigit
reads zero = refl
reads (suc zero) = refl
reads (suc (suc x)) = omega arith
