use mathlib.Core.Path.{◌∙◌}
use native.Mathlib.Omega.{arith}
use Rattle.fitting.proofs.Alone.{alone_fails, alone_holds}
use Rattle.fitting.proofs.Places.{wait_read}
use Rattle.laws.proofs.Checks.{scanned_none, scanned_more}
use Rattle.fitting.proofs.fit_waits.Goals as goal

pub ask-held-requires : goal.ask-held-requires
ask-held-requires c = c.requires

pub loop-row-init : goal.loop-row-init
loop-row-init c = scanned_none _

pub returns-then-not-wait_ok : goal.returns-then-not-wait_ok
returns-then-not-wait_ok c = alone_fails _ _ c.loop-row.invariant c.loop-row-test.true (wait_read _ _ _ _ _ c.loop-row-test.true _ c.ask-held.ensures c.wait_ok.ensures ∙ c.if-not-wait_ok.true)

pub loop-row-preserved : goal.loop-row-preserved
loop-row-preserved c = scanned_more _ _ c.loop-row.invariant c.loop-row-test.true (wait_read _ _ _ _ _ c.loop-row-test.true _ c.ask-held.ensures c.wait_ok.ensures ∙ c.if-not-wait_ok.false)

pub returns : goal.returns
returns c = alone_holds _ _ c.loop-row.invariant (omega arith)
