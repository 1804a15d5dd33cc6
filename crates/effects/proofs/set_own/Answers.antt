use mathlib.Core.Path.{ap}
use Rattle.rows.specs.Term.{row_of}
use Rattle.effects.proofs.Climbing.{own_below}
use Rattle.effects.proofs.set_own.Goals as goal

pub set_link-requires : goal.set_link-requires
set_link-requires c = own_below _ _ _ _ (ap row_of c.in-Out.is) c.requires
