use native.Mathlib.Omega.{arith}
use mathlib.Core.Path.{◌∙◌}
use lib.Count.{trailing_le}
use Rattle.judge.proofs.Links.{sources_hold, sources_fail}
use Rattle.judge.proofs.Chain.{fails, holds_all}
use Rattle.judge.proofs.judge_sources.Goals as goal

pub overflow_cast-link : goal.overflow_cast-link
overflow_cast-link c = omega (arith, trailing_le 64 c.args.notes.twice)

pub returns-then-link-end : goal.returns-then-link-end
returns-then-link-end c = let p = c.requires in fails _ _ _ (sources_fail _ _ _ _ p.conditions.few_links p.doubled c.if-link-end.true) c.if-link-end.true

pub judge_wanted-requires : goal.judge_wanted-requires
judge_wanted-requires c = c.requires

pub returns : goal.returns
returns c = let p = c.requires in c.judge_wanted.ensures ∙ holds_all _ _ (sources_hold _ _ _ _ p.conditions.few_links p.doubled c.if-link-end.false)
