use mathlib.Core.Path.{sym}
use Rattle.front.proofs.ByKind.{undecided_mark}
use Rattle.front.proofs.undecided.Goals as goal

pub returns : goal.returns
returns c = sym (undecided_mark _)
