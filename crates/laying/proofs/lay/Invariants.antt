use Prim.Native.Nat.{ℕ, ◌<◌, ◌≤◌}
use mathlib.Core.Path.{◌≡◌}
use mathlib.Core.List.{List}
use Rattle.flags.specs.Flags.{flagged}
use Rattle.laying.proofs.Laid.{Laid}
use Rattle.laying.proofs.lay.Given as goal

abbrev pub invariant-loop-i : goal.invariant-loop-i
invariant-loop-i g l =
    (l.count ≤ l.i)
    × ((bytes : ℕ → List ℕ) → ((i : ℕ) (r : List ℕ) → i < l.n → goal.F-post g l.row i r → r ≡ bytes i) → Laid bytes (flagged l.flags) l.n l.initial.out l.i l.count l.out)
