use Rattle.fitting.proofs.Places.{Unmarked}
use Rattle.fitting.proofs.unmarked_from.Given as goal

abbrev pub invariant-loop-row : goal.invariant-loop-row
invariant-loop-row l = Unmarked l.marks l.n l.row l.none
