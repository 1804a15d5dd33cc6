use mathlib.Core.Path.{◌∙◌}
use Rattle.judge.proofs.Chain.{fails, holds}
use Rattle.judge.proofs.judge_wanted.Goals as goal

pub returns-then-place-end : goal.returns-then-place-end
returns-then-place-end c = fails _ _ _ c.unsourced_join-place.ensures c.if-place-end.true

pub returns : goal.returns
returns c = c.judge_joins.ensures ∙ holds _ _ _ c.unsourced_join-place.ensures c.if-place-end.false
