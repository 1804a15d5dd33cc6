use Rattle.sheet.specs.Table.{lent_table}
use Rattle.judge.proofs.Pass.{Passed}
use Rattle.judge.proofs.judge_rows.Given as goal

abbrev pub invariant-loop-i : goal.invariant-loop-i
invariant-loop-i l = Passed (lent_table l.t) l.masks l.i l.named l.notes
