use lib.ListN.{drop}
use Rattle.lines.proofs.Pages.{Putting}
use Rattle.sheet.specs.Table.{lent_table}
use Rattle.printing.specs.Printed.{step_lines}
use Rattle.promises.specs.Calls.{Accepted}
use Rattle.printing.proofs.step_lines.Given as goal

abbrev pub invariant-loop-row : goal.invariant-loop-row
invariant-loop-row l = record {
  lines : Putting l.initial.out (step_lines (lent_table l.t) l.initial.state l.rows) l.out (step_lines (lent_table l.t) l.state (drop l.row-index l.rows));
  accepted : Accepted (lent_table l.t) l.state;
}
