use Rattle.sheet.specs.Rules.{condition_ok}
use Rattle.judge.proofs.condition_ok.Goals as goal

pub returns : goal.returns
unfolding condition_ok
returns c = cc
