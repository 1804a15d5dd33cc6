use Rattle.reach.specs.Masks.{has_bit}
use Rattle.failure.proofs.Rest.{Rest}
use Rattle.failure.proofs.false_link.Given as goal

abbrev pub invariant-loop-l : goal.invariant-loop-l
invariant-loop-l l = Rest (has_bit l.mask) l.m l.x l.l l.rest
