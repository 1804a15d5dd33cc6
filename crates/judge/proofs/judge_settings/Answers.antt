use mathlib.Core.Path.{◌∙◌}
use Rattle.judge.proofs.Chain.{evaluation_fails, links_fails, settings_hold}
use Rattle.judge.proofs.judge_settings.Goals as goal

pub returns-then-e-gt3 : goal.returns-then-e-gt3
returns-then-e-gt3 c = evaluation_fails _ _ _ c.if-e-gt3.true

pub returns-then-m-gt64 : goal.returns-then-m-gt64
returns-then-m-gt64 c = links_fails _ _ _ c.if-e-gt3.false c.if-m-gt64.true

pub judge_conditions-requires : goal.judge_conditions-requires
judge_conditions-requires c = (c.requires, c.if-m-gt64.false)

pub returns : goal.returns
returns c = c.judge_conditions.ensures ∙ settings_hold _ _ _ c.if-e-gt3.false c.if-m-gt64.false
