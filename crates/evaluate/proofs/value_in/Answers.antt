use Rattle.evaluate.specs.Values.{value_in}
use mathlib.Core.Path.{refl}
use Rattle.evaluate.proofs.value_in.Goals as goal

pub returns : goal.returns
unfolding value_in
returns c = refl
