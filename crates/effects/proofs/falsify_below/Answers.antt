use mathlib.Core.Path.{◌∙◌}
use Rattle.effects.proofs.Climbing.{falsified_by}
use Rattle.effects.proofs.falsify_below.Goals as goal

pub returns : goal.returns
returns c = c.falsify.ensures ∙ falsified_by _ _ _ _ _ _ c.requires.1 c.gather.ensures
