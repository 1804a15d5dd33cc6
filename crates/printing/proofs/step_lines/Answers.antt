use mathlib.Core.Path.{refl, sym}
use Rattle.lines.proofs.Pages.{none_put, more_put, all_put, end_put, puts_as}
use Rattle.printing.proofs.Runs.{lines_stop, lines_more, next_accepted, lines_end}
use Rattle.printing.proofs.step_lines.Goals as goal

pub loop-row-init : goal.loop-row-init
loop-row-init c = record { lines = none_put _ _; accepted = c.requires }

pub returns-in-Err : goal.returns-in-Err
returns-in-Err c =
    let l = c.loop-row.invariant in
    end_put (more_put l.lines (lines_stop _ _ l.accepted _ _ c.loop-row-test.true _ c.take_step-next.ensures.value _ c.in-Err.is) c.refused_line.ensures) refl

pub loop-row-preserved : goal.loop-row-preserved
loop-row-preserved c =
    let l = c.loop-row.invariant in
    record {
      lines = more_put l.lines (lines_more _ _ l.accepted _ _ c.loop-row-test.true _ c.take_step-next.ensures.value _ c.in-Ok.is) c.step_line.ensures;
      accepted = next_accepted _ _ l.accepted c.args.rows.now _ c.loop-row-test.true _ c.take_step-next.ensures.value _ c.in-Ok.is;
    }

pub end_lines-requires : goal.end_lines-requires
end_lines-requires c = c.loop-row.invariant.accepted

pub returns : goal.returns
returns c = all_put c.loop-row.invariant.lines (puts_as c.end_lines.ensures (sym (lines_end _ _ _ _ c.loop-row-test.false)))
