use mathlib.Core.Path.{sym, ◌∙◌}
use Rattle.engine.proofs.Known.{answer_taken, answer_refused}
use Rattle.engine.proofs.take.Goals as goal

pub after-requires : goal.after-requires
after-requires c = (c.requires, sym c.in-Ok.is ∙ c.kind.ensures)

pub returns-in-Ok : goal.returns-in-Ok
returns-in-Ok c = answer_taken _ _ _ _ (sym c.in-Ok.is ∙ c.kind.ensures) _ c.after.ensures

pub returns-in-Err : goal.returns-in-Err
returns-in-Err c = answer_refused _ _ _ _ (sym c.in-Err.is ∙ c.kind.ensures)
