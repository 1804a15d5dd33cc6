-- The bytes of a row that is kept, by its kind. Assumes nothing.
use Prim.Native.Nat.{ℕ}
use mathlib.Core.Path.{◌≡◌, sym, ◌∙◌, ap}
use mathlib.Core.Bool.{cond}
use mathlib.Core.List.{List}
use lib.ListN.{get_or, length}
use Rattle.laws.proofs.Tests.{cond_map}
use Rattle.calculus.specs.Process.{Prefix, Branching}
use Rattle.steps.specs.Rows.{Row, NIL, PREFIX, BRANCH}
use Rattle.steps.specs.Marks.{stand}
use Rattle.steps.specs.InFront.{waits_by}
use Rattle.layout.specs.Rows.{renumbered}
use Rattle.layout.specs.Bytes.{four, row_bytes}
use Rattle.layout.proofs.Bytes.{four_each}
use Rattle.collect.specs.Tops.{kept_as}
use Rattle.collect.specs.Kept.{new_bytes}

module _ (m : ℕ) (tops ranks : List ℕ) (N : Row) (r : List ℕ) where
  abbrev new : ℕ → ℕ
  new c = get_or ranks (get_or tops c 0) 0

  pub new_step : {π : Prefix} {c : ℕ} → N ≡ PREFIX π c → r ≡ cond (waits_by (stand m)) (row_bytes (PREFIX π (new c))) (four 0 0 0 0) → r ≡ new_bytes N m tops ranks
  unfolding new_bytes kept_as renumbered row_bytes
  new_step {π} {c} e h = h ∙ rw e (sym (cond_map (λ (M : Row). row_bytes (renumbered (λ j. get_or ranks j 0) M)) (waits_by (stand m)) (PREFIX π (get_or tops c 0)) NIL))

  pub new_branch : {κ : Branching} {p q : ℕ} → N ≡ BRANCH κ p q → r ≡ row_bytes (BRANCH κ (new p) (new q)) → r ≡ new_bytes N m tops ranks
  unfolding new_bytes kept_as renumbered
  new_branch e h = rw e h

  pub new_nil : N ≡ NIL → r ≡ four 0 0 0 0 → r ≡ new_bytes N m tops ranks
  unfolding new_bytes kept_as renumbered row_bytes
  new_nil e h = rw e h

  pub new_four : r ≡ new_bytes N m tops ranks → length r ≡ 4
  unfolding new_bytes
  new_four e = ap length e ∙ four_each _
