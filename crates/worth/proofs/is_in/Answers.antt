use mathlib.Core.Path.{refl}
use Rattle.reach.specs.Masks.{has_bit}
use Rattle.worth.specs.Sets.{placed}
use Rattle.worth.proofs.is_in.Goals as goal

pub returns : goal.returns
unfolding placed has_bit
returns c = refl
