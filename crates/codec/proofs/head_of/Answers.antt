use mathlib.Core.Path.{refl}
use Rattle.codec.proofs.Reading.{head_by}
use Rattle.codec.proofs.head_of.Goals as goal

pub returns : goal.returns
returns c = head_by _ _ _ _ refl c.two.ensures.0 c.two-2.ensures.0
