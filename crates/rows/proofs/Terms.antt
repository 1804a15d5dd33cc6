-- What a term row of the source stands for. Assumes nothing.
use Prim.Native.Nat.{ℕ}
use mathlib.Core.Path.{◌≡◌, ap}
use mathlib.Core.Bool.{Bool}
use mathlib.Core.Logic.{◌⊎◌, ⊎_elim}
use Rattle.calculus.specs.Process.{Prefix, act, out, join}
use Rattle.steps.specs.Rows.{PREFIX}
use Rattle.rows.specs.declared.term.TermRow.{TermRow}
use Rattle.rows.specs.declared.term.TermRow.TheVariants.{Act, Out, Join}
use Rattle.rows.specs.Term.{row_of}

-- an ACT, OUT or JOIN with its child
pub step_row : (N : TermRow) (d : ℕ) → ((a : ℕ) × (N ≡ Act a d)) ⊎ (((l : ℕ) × (v : Bool) × (N ≡ Out l v d)) ⊎ ((q : ℕ) × (N ≡ Join q d))) → (π : Prefix) × (row_of N ≡ PREFIX π d)
step_row N d =
    ⊎_elim
    (λ (a, e). (act a, ap row_of e))
    (⊎_elim
    (λ (l, v, e). (out l v, ap row_of e))
    (λ (q, e). (join q, ap row_of e)))
