use Rattle.reach.specs.Masks.{has_bit}
use Rattle.scene.proofs.Bytes.{Digits}
use Rattle.scene.proofs.values.Given as goal

abbrev pub invariant-loop-l : goal.invariant-loop-l
invariant-loop-l l = Digits (has_bit l.mask) l.m l.x l.l l.rest l.table
