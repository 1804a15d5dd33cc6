use Rattle.rows.specs.Conditions.{row_of}
use Rattle.lanes.proofs.Rows.{stepped_false, stepped_true, stepped_link, stepped_op}
use native.Mathlib.Omega.{arith}
use Rattle.lanes.proofs.step.Goals as goal

pub returns-in-False : goal.returns-in-False
unfolding row_of
returns-in-False c = rw (← c.in-False.ensures) (stepped_false _ _ _ _ _ _)

pub returns-in-True : goal.returns-in-True
unfolding row_of
returns-in-True c = rw (← c.in-True.ensures) (stepped_true _ _ _ _ _ _)

pub returns-in-Link : goal.returns-in-Link
unfolding row_of
returns-in-Link c = rw (← c.in-Link.ensures) (stepped_link _ _ _ _ _ _ _ _ c.link.ensures)

pub returns-in-Operation : goal.returns-in-Operation
unfolding row_of
returns-in-Operation c = rw (← c.in-Operation.ensures) (stepped_op _ _ _ _ _ _ _ _ _ _ _ _ (omega arith) (omega arith) c.of_row-x.ensures c.of_row-y.ensures c.operate.ensures)
