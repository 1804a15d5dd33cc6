use lib.ListN.{drop}
use Rattle.lines.specs.Lines.{letters}
use Rattle.lines.proofs.Pages.{Putting}
use Rattle.lines.proofs.Page.put_letters.Given as goal

abbrev pub invariant-loop-x : goal.invariant-loop-x
invariant-loop-x l = Putting l.initial.self (letters l.xs) l.self (letters (drop l.x-index l.xs))
