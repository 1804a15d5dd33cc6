use lib.ListN.{drop}
use Rattle.lines.specs.Lines.{fields}
use Rattle.lines.proofs.Pages.{Putting}
use Rattle.lines.proofs.Page.numbers.Given as goal

abbrev pub invariant-loop-x : goal.invariant-loop-x
invariant-loop-x l = Putting l.initial.self (fields l.xs) l.self (fields (drop l.x-index l.xs))
