use mathlib.Core.Path.{sym}
use Rattle.front.proofs.ByKind.{waits_mark}
use Rattle.front.proofs.waits.Goals as goal

pub returns : goal.returns
returns c = sym (waits_mark _)
