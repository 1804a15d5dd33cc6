use mathlib.Core.Path.{sym, ◌∙◌, ap}
use Rattle.std.specs.Prelude.{Ok}
use Rattle.sheet.proofs.Accepted.{rows_lent}
use Rattle.engine.proofs.Known.{taken_needs, clean_needs, after_taken, after_clean}
use Rattle.engine.proofs.after.Goals as goal

pub dropped-requires : goal.dropped-requires
dropped-requires c = let (w, e) = c.requires in (rows_lent w, clean_needs _ w _ _ (ap Ok (sym c.in-Clean.is) ∙ e))

pub returns-in-Clean : goal.returns-in-Clean
returns-in-Clean c = c.dropped.ensures ∙ after_clean _ _ _ (ap Ok (sym c.in-Clean.is) ∙ c.requires.1)

pub taken-requires : goal.taken-requires
taken-requires c = let (w, e) = c.requires in (rows_lent w, taken_needs _ w _ _ _ e)

pub returns-in_default : goal.returns-in_default
returns-in_default c = c.taken.ensures ∙ after_taken _ _ _ _ c.requires.1 c.in_default.not-Clean
