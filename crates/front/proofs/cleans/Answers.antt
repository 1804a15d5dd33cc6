use Rattle.front.proofs.ByKind.{cleans_by}
use Rattle.front.proofs.cleans.Goals as goal

pub returns : goal.returns
returns c = cleans_by _
