use Rattle.laws.proofs.Tests.{or_is}
use Rattle.sheet.specs.Table.{is_compacted}
use Rattle.judge.proofs.is_compacted.Goals as goal

pub returns : goal.returns
unfolding is_compacted
returns c = or_is _ _
