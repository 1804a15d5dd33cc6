use Prim.Native.Nat.{◌≤◌, ◌-◌}
use Rattle.flags.specs.Flags.{Shows}
use Rattle.engine.specs.ByValue.{step_from}
use Rattle.engine.proofs.show_steps.Given as goal

abbrev pub invariant-loop-i : goal.invariant-loop-i
invariant-loop-i l = Shows (step_from l.ts l.n l.mode l.marks l.reached l.vals) l.i l.flags
