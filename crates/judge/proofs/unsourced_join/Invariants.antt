use Rattle.laws.proofs.Lowest.{Searched}
use Rattle.judge.specs.Judge.{row_within}
use Rattle.judge.proofs.unsourced_join.Given as goal

abbrev pub invariant-loop-row : goal.invariant-loop-row
invariant-loop-row l = Searched (row_within l.t.terms.now l.masks l.linked) l.n l.row
