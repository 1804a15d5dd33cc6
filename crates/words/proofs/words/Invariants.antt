use Prim.Native.Nat.{◌≤◌}
use Rattle.reach.specs.Masks.{has_bit}
use Rattle.words.specs.Words.{base_of}
use Rattle.words.proofs.Filling.{Worded}
use Rattle.words.proofs.words.Given as goal

abbrev pub invariant-loop-l : goal.invariant-loop-l
invariant-loop-l l = (l.i ≤ l.l) × Worded (base_of l.base) l.d (has_bit l.mask) l.m l.x l.i l.l l.table
