use Prim.Native.Nat.{◌≤◌}
use mathlib.Core.Path.{◌≡◌}
use Rattle.laws.specs.Sums.{count}
use Rattle.flags.specs.Flags.{flagged}
use Rattle.laying.specs.Told.{Tells}
use Rattle.laying.proofs.ranks.Given as goal

abbrev pub invariant-loop-i : goal.invariant-loop-i
invariant-loop-i l = (l.found ≤ l.i) × (Tells (count (flagged l.flags)) 0 l.i l.table × (l.found ≡ count (flagged l.flags) l.i))
