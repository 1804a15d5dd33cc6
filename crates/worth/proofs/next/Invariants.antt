use Prim.Native.Nat.{◌*◌}
use Rattle.worth.proofs.Places.{Clear}
use Rattle.worth.proofs.next.Given as goal

abbrev pub invariant-loop-word : goal.invariant-loop-word
invariant-loop-word l = Clear l.rows l.from (l.word * 64)
