use native.Mathlib.Omega.{arith}
use Rattle.reach.proofs.Subsets.{within_is}
use Rattle.reach.proofs.within.Goals as goal

pub returns : goal.returns
returns c = within_is c.args.mask c.args.links (omega arith) (omega arith)
