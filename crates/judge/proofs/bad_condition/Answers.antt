use mathlib.Core.Path.{◌≡◌}
use mathlib.Core.Path.{sym, ◌∙◌}
use lib.ListN.{length-set}
use Rattle.laws.proofs.Up.{filled_more}
use Rattle.laws.proofs.Checks.{scanned_none, scanned_more, scanned_stop, scanned_end}
use Rattle.reach.proofs.Links.{mask_at_law}
use native.Mathlib.Omega.{arith}
use Rattle.judge.proofs.bad_condition.Goals as goal

pub loop-i-init : goal.loop-i-init
loop-i-init c = (c.requires.1.1.0, (c.requires.1.1.1, scanned_none _))

pub returns-then-not-condition_ok : goal.returns-then-not-condition_ok
returns-then-not-condition_ok c = let l = c.loop-i in
    (scanned_stop _ _ l.invariant.1.1 c.loop-i-test.true (sym c.condition_ok.ensures ∙ c.if-not-condition_ok.true), λ h. absurd (omega arith))

pub loop-i-preserved : goal.loop-i-preserved
loop-i-preserved c = let l = c.loop-i in
    (simp length-set l.invariant.0, (filled_more 0 _ l.i l.masks c.step.result (omega arith) (c.step.ensures ∙ mask_at_law _ l.i l.masks l.invariant.1.0) l.invariant.1.0, scanned_more _ _ l.invariant.1.1 c.loop-i-test.true (sym c.condition_ok.ensures ∙ c.if-not-condition_ok.false)))

pub returns : goal.returns
returns c = let l = c.loop-i in
    let e : l.i ≡ c.args.k = omega arith in
    (sym e ∙ scanned_end _ _ l.invariant.1.1 c.loop-i-test.false, λ h. rw e at l.invariant.1.0)
