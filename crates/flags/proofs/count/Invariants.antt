use Prim.Native.Nat.{◌≤◌}
use Rattle.laws.proofs.Listed.{Counted}
use Rattle.flags.specs.Flags.{flagged}
use Rattle.flags.proofs.count.Given as goal

abbrev pub invariant-loop-i : goal.invariant-loop-i
invariant-loop-i l = (l.found ≤ l.i) × Counted (flagged l.flags) l.n l.i l.found
