use mathlib.Core.Path.{refl}
use native.Mathlib.Omega.{arith}
use Rattle.lines.proofs.Pages.{none_put, more_put, end_put, waits_next, waits_end}
use Rattle.lines.proofs.Page.rows_waiting.Goals as goal

pub loop-i-init : goal.loop-i-init
loop-i-init c = none_put _ _

pub loop-i-preserved : goal.loop-i-preserved
loop-i-preserved c = more_put (more_put c.loop-i.invariant (waits_next _ _ _ c.loop-i-test.true (omega arith)) c.number.ensures) refl c.link_waited.ensures

pub returns : goal.returns
returns c = end_put c.loop-i.invariant (waits_end _ _ _ c.loop-i-test.false)
