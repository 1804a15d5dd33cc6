-- What is handed back with a value: the value part is the value, and a link is handed back exactly where the value is unset, the lowest unset one that is reached. Assumes nothing.
use Prim.Native.Nat.{ℕ, zero, suc, ◌<◌}
use mathlib.Core.Path.{◌≡◌, refl, sym, ◌∙◌, ap, ap₂}
use mathlib.Core.Logic.{◌↔◌}
use mathlib.Core.Bool.{true}
use mathlib.Core.List.{List}
use Rattle.calculus.specs.Status.{Value, Unset, False, True, Links}
use Rattle.conditions.specs.Conditions.{Condition, condition, reached}
use Rattle.conditions.specs.Numbers.{undigit}
use Rattle.conditions.specs.Awaited.{Awaits}
use Rattle.conditions.proofs.Numbers.{undigit_digit}
use Rattle.conditions.proofs.Awaited.{unset_awaits, awaits_awaited}
use Rattle.sheet.specs.Table.{condition_row_at, evaluation_of, eval_of}
use Rattle.evaluate.specs.Values.{value_in, Evaluated}
use Rattle.evaluate.proofs.Rows.{evaluated_at}
use Rattle.worth.specs.declared.Worth.{Worth}
use Rattle.worth.specs.declared.Worth.TheVariants as worth
use Rattle.worth.specs.Worth.{awaited_at, worth_by, value_of, worth_of}

value_by_law : (u : Value) (l : ℕ) → value_of (worth_by u l) ≡ u
value_by_law Unset l = refl
value_by_law False l = refl
value_by_law True l = refl

-- THE VALUE PART IS THE VALUE, whatever the rows: what listing, verdict and steps read.
pub worth_value : (e : ℕ) (cs : List ℕ) (row : ℕ) (v : Links) → value_of (worth_of e cs row v) ≡ eval_of e cs row v
unfolding worth_of
worth_value e cs row v = value_by_law (eval_of e cs row v) (awaited_at cs row v)

-- what the code makes of a table of values
pub worth_at : (e : ℕ) (cs : List ℕ) (v : Links) (k : ℕ) (vals : List ℕ) → Evaluated e cs v k vals → (row : ℕ) → row < k → row < 256 → worth_by (undigit (value_in vals row)) (awaited_at cs row v) ≡ worth_of e cs row v
unfolding worth_of
worth_at e cs v k vals s row h g = ap (λ (u : Value). worth_by u (awaited_at cs row v)) (ap undigit (evaluated_at e cs v k vals s row h g) ∙ undigit_digit (eval_of e cs row v))

-- by the number of the value
module _ (x l : ℕ) where
  pub worth_0 : x ≡ 0 → worth.Unset l ≡ worth_by (undigit x) l
  unfolding undigit
  worth_0 e = rw e

  pub worth_1 : x ≡ 1 → worth.False ≡ worth_by (undigit x) l
  unfolding undigit
  worth_1 e = rw e

  pub worth_2 : (x ≡ 0 → ⊥) → (x ≡ 1 → ⊥) → worth.True ≡ worth_by (undigit x) l
  unfolding undigit
  worth_2 h k = at x h k
    where
      at : (y : ℕ) → (y ≡ 0 → ⊥) → (y ≡ 1 → ⊥) → worth.True ≡ worth_by (undigit y) l
      at zero h k = absurd (h refl)
      at (suc zero) h k = absurd (k refl)
      at (suc (suc y)) h k = refl

link_of : Worth → ℕ
link_of (worth.Unset l) = l
link_of worth.False = 0
link_of worth.True = 0

link_by : (u : Value) (x l : ℕ) → worth_by u x ≡ worth.Unset l → u ≡ Unset → x ≡ l
unfolding link_of
link_by u x l e z = ap (λ (y : Value). link_of (worth_by y x)) (sym z) ∙ ap link_of e

module _ (e : ℕ) (cs : List ℕ) (row : ℕ) (v : Links) (small : (k : ℕ) → reached (condition (condition_row_at cs) row) k ≡ true → k < 64) where
  -- A LINK IS HANDED BACK EXACTLY WHERE THE VALUE IS UNSET, and it is the lowest unset link reached: under both evaluations.
  pub worth_unset : (l : ℕ) → (worth_of e cs row v ≡ worth.Unset l) ↔ ((eval_of e cs row v ≡ Unset) × Awaits (condition (condition_row_at cs) row) v l)
  unfolding worth_of awaited_at
  worth_unset l = (there, back)
    where
      c : Condition
      c = condition (condition_row_at cs) row

      there : worth_by (eval_of e cs row v) (awaited_at cs row v) ≡ worth.Unset l → (eval_of e cs row v ≡ Unset) × Awaits (condition (condition_row_at cs) row) v l
      there w =
          let z : eval_of e cs row v ≡ Unset = sym (value_by_law (eval_of e cs row v) (awaited_at cs row v)) ∙ ap value_of w in
          (z, rw (link_by (eval_of e cs row v) (awaited_at cs row v) l w z) at (unset_awaits c v (evaluation_of e) 64 small z))

      back : (eval_of e cs row v ≡ Unset) × Awaits (condition (condition_row_at cs) row) v l → worth_by (eval_of e cs row v) (awaited_at cs row v) ≡ worth.Unset l
      back p = ap₂ worth_by p.0 (awaits_awaited c v 64 l p.1 (small l p.1.reached_there))
