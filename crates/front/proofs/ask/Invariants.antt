use lib.ListN.{get_or}
use Rattle.steps.specs.Push.{Pushed}
use Rattle.sheet.specs.Table.{row_at}
use Rattle.front.specs.Asked.{asked_at}
use Rattle.front.proofs.ask.Given as goal

abbrev pub invariant-loop-i : goal.invariant-loop-i
invariant-loop-i l = Pushed (row_at l.ts) (asked_at l.question (row_at l.ts) (λ k. get_or l.marks k 0)) l.n l.i l.table
