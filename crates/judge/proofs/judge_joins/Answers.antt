use Rattle.judge.proofs.Chain.{fails, holds_last}
use Rattle.judge.proofs.judge_joins.Goals as goal

pub returns-then-join-end : goal.returns-then-join-end
returns-then-join-end c = fails _ _ _ c.requires c.if-join-end.true

pub returns : goal.returns
returns c = holds_last _ _ c.requires c.if-join-end.false
