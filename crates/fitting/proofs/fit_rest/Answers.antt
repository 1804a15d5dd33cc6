use lib.ListN.{get_or}
use borrow.Author.Tests.{eq-eqb, ne_eqb}
use native.Mathlib.Omega.{arith}
use Rattle.laws.proofs.Checks.{scanned_none, scanned_more}
use Rattle.fitting.proofs.Alone.{alone_fails, alone_holds}
use Rattle.fitting.proofs.Places.{rest_all}
use Rattle.fitting.proofs.fit_rest.Goals as goal

pub returns-then-unmarked_from : goal.returns-then-unmarked_from
returns-then-unmarked_from c = rest_all _ (λ k. get_or c.args.marks.now k 0) (c.unmarked_from.ensures.0 c.if-unmarked_from.true)

pub loop-row-init : goal.loop-row-init
loop-row-init c = scanned_none _

pub returns-then-marks-row-ne0 : goal.returns-then-marks-row-ne0
returns-then-marks-row-ne0 c = alone_fails _ _ c.loop-row.invariant c.loop-row-test.true (ne_eqb _ 0 c.if-marks-row-ne0.true)

pub loop-row-preserved : goal.loop-row-preserved
loop-row-preserved c = scanned_more _ _ c.loop-row.invariant c.loop-row-test.true (eq-eqb _ 0 c.if-marks-row-ne0.false)

pub returns : goal.returns
returns c = alone_holds _ _ c.loop-row.invariant (omega arith)
