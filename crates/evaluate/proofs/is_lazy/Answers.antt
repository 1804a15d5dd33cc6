use Rattle.laws.proofs.Tests.{or_is}
use Rattle.sheet.specs.Table.{lazy_of}
use Rattle.evaluate.proofs.is_lazy.Goals as goal

pub returns : goal.returns
unfolding lazy_of
returns c = or_is _ _
