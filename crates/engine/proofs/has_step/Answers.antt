use mathlib.Core.Path.{◌∙◌, ap}
use Rattle.std.specs.Result.{is_ok}
use Rattle.engine.specs.ByValue.{step_from}
use Rattle.engine.proofs.has_step.Goals as goal

pub returns : goal.returns
unfolding step_from
returns c = c.is_ok.ensures.value ∙ ap is_ok c.kind_from.ensures
