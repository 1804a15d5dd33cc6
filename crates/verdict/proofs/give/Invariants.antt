use Rattle.laws.proofs.Lowest.{Searched}
use Rattle.sheet.specs.Table.{lent_table}
use Rattle.verdict.specs.Verdict.{sound}
use Rattle.verdict.specs.Tried.{Tried}
use Rattle.verdict.proofs.give.Given as goal

abbrev pub invariant-loop-j : goal.invariant-loop-j
invariant-loop-j l = record {
  tried : Tried (lent_table l.t) l.seen;
  searched : Searched (sound (lent_table l.t)) l.t.head.n l.j;
}
