use mathlib.Core.Path.{◌∙◌}
use Rattle.fitting.proofs.Alone.{alone_fails, alone_holds}
use Rattle.fitting.proofs.Places.{clear_read}
use Rattle.laws.proofs.Checks.{scanned_none, scanned_more}
use native.Mathlib.Omega.{arith}
use Rattle.fitting.proofs.fit_clear.Goals as goal

pub loop-row-init : goal.loop-row-init
loop-row-init c = scanned_none _

pub returns-then-not-clear_ok : goal.returns-then-not-clear_ok
returns-then-not-clear_ok c =
    alone_fails _ _ c.loop-row.invariant c.loop-row-test.true
    (clear_read _ _ _ _ _ c.loop-row-test.true _ _ c.requires.1 c.clear_ok.ensures ∙ c.if-not-clear_ok.true)

pub loop-row-preserved : goal.loop-row-preserved
loop-row-preserved c =
    scanned_more _ _ c.loop-row.invariant c.loop-row-test.true
    (clear_read _ _ _ _ _ c.loop-row-test.true _ _ c.requires.1 c.clear_ok.ensures ∙ c.if-not-clear_ok.false)

pub returns : goal.returns
returns c = alone_holds _ _ c.loop-row.invariant (omega arith)
