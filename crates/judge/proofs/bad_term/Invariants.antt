use Rattle.judge.specs.Judge.{Sound}
use Rattle.judge.proofs.bad_term.Given as goal

abbrev pub invariant-loop-i : goal.invariant-loop-i
invariant-loop-i l = Sound l.m l.n l.k l.ts l.i
