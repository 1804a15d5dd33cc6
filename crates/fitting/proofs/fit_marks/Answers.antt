use mathlib.Core.Path.{◌≡◌, ◌∙◌}
use native.Mathlib.Omega.{arith}
use lib.ListN.{get_or}
use Rattle.laws.proofs.Checks.{scanned_none, scanned_more}
use Rattle.fitting.proofs.Alone.{alone_fails}
use Rattle.fitting.proofs.Places.{mark_read, rest_read}
use Rattle.fitting.proofs.fit_marks.Goals as goal

pub loop-row-init : goal.loop-row-init
loop-row-init c = scanned_none _

pub returns-then-not-suits : goal.returns-then-not-suits
returns-then-not-suits c = alone_fails _ _ c.loop-row.invariant (omega arith) (mark_read _ _ _ (λ k. get_or c.args.marks.now k 0) _ _ c.loop-row-test.true c.suits.ensures ∙ c.if-not-suits.true)

pub loop-row-preserved : goal.loop-row-preserved
loop-row-preserved c = scanned_more _ _ c.loop-row.invariant (omega arith) (mark_read _ _ _ (λ k. get_or c.args.marks.now k 0) _ _ c.loop-row-test.true c.suits.ensures ∙ c.if-not-suits.false)

pub returns : goal.returns
returns c = let e : c.loop-row.row ≡ c.args.n = omega arith in c.fit_rest.ensures ∙ rest_read _ _ _ _ (rw e at c.loop-row.invariant)
