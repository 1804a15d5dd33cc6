use mathlib.Core.Path.{refl}
use Rattle.judge.specs.Judge.{join_noted}
use Rattle.judge.proofs.note_join.Goals as goal

pub returns : goal.returns
unfolding join_noted
returns c = rw (← c.note_wide.ensures) refl
