use Rattle.laws.proofs.Listed.{Written}
use Rattle.flags.specs.Flags.{flagged}
use Rattle.flags.proofs.write.Given as goal

abbrev pub invariant-loop-i : goal.invariant-loop-i
invariant-loop-i l = Written (flagged l.flags) l.n l.i l.found l.out l.initial.out
