use mathlib.Core.Path.{◌∙◌}
use Rattle.engine.proofs.Known.{kind_known, knows}
use Rattle.engine.proofs.kind.Goals as goal

pub returns : goal.returns
returns c = c.kind_from.ensures ∙ kind_known _ c.requires _ _ _ (knows c.ask-reached.ensures c.values-vals.ensures) _
