use Rattle.rows.specs.Conditions.{operator_of}
use Rattle.lanes.proofs.Operators.{or_lanes, ne_lanes}
use Rattle.lanes.proofs.operate.Goals as goal

pub returns-in-And : goal.returns-in-And
unfolding operator_of
returns-in-And c = rw c.in-And.is c.and.ensures

pub returns-in-Or : goal.returns-in-Or
unfolding operator_of
returns-in-Or c = rw (c.in-Or.is, c.opposite-in-Or-2.ensures) (or_lanes _ _ _ _ (rw (c.opposite.ensures, c.opposite-in-Or.ensures) at c.and-in-Or.ensures))

pub returns-in-Eq : goal.returns-in-Eq
unfolding operator_of
returns-in-Eq c = rw c.in-Eq.is (c.equal.ensures c.args.evaluation)

pub returns-in-Ne : goal.returns-in-Ne
unfolding operator_of
returns-in-Ne c = rw (c.in-Ne.is, c.opposite-in-Ne.ensures) (ne_lanes _ _ _ _ (c.equal-in-Ne.ensures c.args.evaluation))
