use lib.ListN.{drop_of_length-le}
use Rattle.lines.proofs.Pages.{none_put, more_put, end_put, next}
use Rattle.lines.proofs.Page.text.Goals as goal

pub loop-byte-init : goal.loop-byte-init
loop-byte-init c = none_put _ _

pub loop-byte-preserved : goal.loop-byte-preserved
loop-byte-preserved c = more_put c.loop-byte.invariant (next _ _ c.loop-byte-test.true) c.put.ensures

pub returns : goal.returns
returns c = end_put c.loop-byte.invariant (drop_of_length-le _ c.loop-byte-test.false)
