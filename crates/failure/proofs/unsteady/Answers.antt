use native.Mathlib.Omega.{arith}
use Rattle.failure.proofs.Lanes.{unsteady_is}
use Rattle.failure.proofs.unsteady.Goals as goal

pub returns : goal.returns
returns c = unsteady_is _ _ _ _ _ c.value-top.result (omega arith) c.value-top.ensures
