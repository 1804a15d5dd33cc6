use mathlib.Core.Path.{refl, ◌∙◌}
use lib.ListN.{length-set}
use Rattle.laws.proofs.Up.{filled_none, filled_more}
use Rattle.reach.proofs.Links.{mask_at_law}
use native.Mathlib.Omega.{arith}
use Rattle.reach.proofs.masks.Goals as goal

pub loop-i-init : goal.loop-i-init
loop-i-init c = (refl, filled_none 0 _ 256)

pub loop-i-preserved : goal.loop-i-preserved
loop-i-preserved c = let l = c.loop-i in
    (simp length-set l.invariant.0, filled_more 0 _ l.i l.table c.step.result (omega arith) (c.step.ensures ∙ mask_at_law _ l.i l.table l.invariant.1) l.invariant.1)
