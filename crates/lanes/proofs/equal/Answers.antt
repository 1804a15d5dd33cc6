use Rattle.evaluate.specs.Values.{meant}
use Rattle.lanes.proofs.Operators.{eq_lanes}
use Rattle.lanes.proofs.equal.Goals as goal

pub returns : goal.returns
returns c = λ e. eq_lanes (meant e) _ _
