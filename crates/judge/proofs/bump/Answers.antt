use mathlib.Core.Path.{refl}
use Rattle.judge.specs.Judge.{bumped}
use Rattle.judge.proofs.bump.Goals as goal

pub returns : goal.returns
unfolding bumped
returns c = refl
