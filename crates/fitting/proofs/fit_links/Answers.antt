use mathlib.Core.Path.{◌∙◌}
use native.Mathlib.Omega.{arith}
use Rattle.fitting.proofs.Alone.{alone_fails, alone_holds}
use Rattle.fitting.proofs.Places.{link_read}
use Rattle.laws.proofs.Checks.{scanned_none, scanned_more}
use Rattle.fitting.proofs.fit_links.Goals as goal

pub loop-link-init : goal.loop-link-init
loop-link-init c = scanned_none _

pub returns-then-not-link_ok : goal.returns-then-not-link_ok
returns-then-not-link_ok c = alone_fails _ _ c.loop-link.invariant c.loop-link-test.true (link_read _ _ _ _ c.link_ok.ensures ∙ c.if-not-link_ok.true)

pub loop-link-preserved : goal.loop-link-preserved
loop-link-preserved c = scanned_more _ _ c.loop-link.invariant c.loop-link-test.true (link_read _ _ _ _ c.link_ok.ensures ∙ c.if-not-link_ok.false)

pub returns : goal.returns
returns c = alone_holds _ _ c.loop-link.invariant (omega arith)
