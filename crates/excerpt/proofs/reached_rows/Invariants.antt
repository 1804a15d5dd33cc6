use Rattle.excerpt.proofs.Flagging.{Flagging}
use Rattle.excerpt.proofs.reached_rows.Given as goal

abbrev pub invariant-loop-row : goal.invariant-loop-row
invariant-loop-row l = Flagging l.cs l.c l.row l.flags
