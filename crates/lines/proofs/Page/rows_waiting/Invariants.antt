use lib.ListN.{drop}
use Rattle.lines.specs.Lines.{wait_fields}
use Rattle.lines.proofs.Pages.{Putting}
use Rattle.lines.proofs.Page.rows_waiting.Given as goal

abbrev pub invariant-loop-i : goal.invariant-loop-i
invariant-loop-i l = Putting l.initial.self (wait_fields l.rows l.links) l.self (wait_fields (drop l.i l.rows) (drop l.i l.links))
