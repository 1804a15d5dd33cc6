use Prim.Native.Nat.{◌≤◌, ◌-◌}
use Rattle.flags.specs.Flags.{Shows}
use Rattle.engine.specs.ByValue.{join_from}
use Rattle.engine.proofs.show_joins.Given as goal

abbrev pub invariant-loop-i : goal.invariant-loop-i
invariant-loop-i l = Shows (join_from l.ts l.marks l.reached) l.i l.flags
