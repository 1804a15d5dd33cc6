use mathlib.Core.Path.{◌≡◌}
use Rattle.lanes.proofs.Rows.{held_none, held_more, held_found}
use native.Mathlib.Omega.{arith}
use Rattle.lanes.proofs.value.Goals as goal

pub loop-i-init : goal.loop-i-init
loop-i-init c = held_none _ _ _ _

pub loop-i-preserved : goal.loop-i-preserved
loop-i-preserved c = let l = c.loop-i in held_more _ _ _ _ l.i l.trues l.falses l.kept l.invariant c.step-x.result (rw c.of-meant.ensures at c.step-x.ensures) (omega arith)

pub returns : goal.returns
returns c = let l = c.loop-i in
    let e : l.i ≡ c.args.row = omega arith in
    held_found _ _ _ _ _ _ _ _ (rw e at l.invariant) _ (rw c.of-meant.ensures at c.step.ensures)
