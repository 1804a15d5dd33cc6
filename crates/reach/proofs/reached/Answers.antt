use mathlib.Core.Path.{refl}
use Rattle.reach.specs.Masks.{has_bit}
use Rattle.reach.proofs.reached.Goals as goal

pub returns : goal.returns
unfolding has_bit
returns c = refl
