use Rattle.lines.proofs.Pages.{then, puts_as}
use Rattle.printing.proofs.Judging.{run_refused, run_begins, run_goes}
use Rattle.printing.proofs.run_lines.Goals as goal

pub step_lines-requires : goal.step_lines-requires
step_lines-requires c = run_begins _ _ _ c.start.ensures _ c.in-Ok.is

pub returns-in-Ok : goal.returns-in-Ok
returns-in-Ok c = puts_as (then c.verdict_line.ensures c.step_lines.ensures) (run_goes _ _ _ c.start.ensures _ c.in-Ok.is _ _ c.give_verdict.ensures)

pub returns-in-Err : goal.returns-in-Err
returns-in-Err c = puts_as c.refused_line.ensures (run_refused _ _ _ c.start.ensures _ _ c.in-Err.is)
