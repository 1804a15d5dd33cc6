use Rattle.lines.proofs.Pages.{none_put, more_put, end_put, fields_next, fields_end}
use Rattle.lines.proofs.Page.numbers.Goals as goal

pub loop-x-init : goal.loop-x-init
loop-x-init c = none_put _ _

pub loop-x-preserved : goal.loop-x-preserved
loop-x-preserved c = more_put c.loop-x.invariant (fields_next _ _ c.loop-x-test.true) c.number.ensures

pub returns : goal.returns
returns c = end_put c.loop-x.invariant (fields_end _ _ c.loop-x-test.false)
