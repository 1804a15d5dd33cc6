use mathlib.Core.Path.{◌∙◌, ap}
use Rattle.moves.specs.Steps.{climbed, own_of, taken_of, counted_in}
use Rattle.effects.proofs.taken.Goals as goal

pub returns : goal.returns
unfolding taken_of
returns c = c.counted.ensures ∙ ap (counted_in _ _ _) (c.climb-decided.ensures ∙ ap (climbed _ _ _ _) (rw c.term_row.ensures at c.set_own-told.ensures ∙ ap (own_of _) c.pass-passed.ensures))
