use mathlib.Core.Path.{sym, ◌∙◌}
use Rattle.sheet.specs.Rules.{judged}
use Rattle.judge.proofs.Chain.{sized_lent, sizes_fails, sizes_holds}
use Rattle.judge.proofs.judge.Goals as goal

pub returns-then-not-sized_ok : goal.returns-then-not-sized_ok
unfolding judged
returns-then-not-sized_ok c = sizes_fails _ _ _ _ _ (sym c.sized_ok.ensures ∙ c.if-not-sized_ok.true)

pub judge_settings-requires : goal.judge_settings-requires
judge_settings-requires c = sized_lent _ (sym c.sized_ok.ensures ∙ c.if-not-sized_ok.false)

pub returns : goal.returns
unfolding judged
returns c = c.judge_settings.ensures ∙ sizes_holds _ _ _ _ _ (sym c.sized_ok.ensures ∙ c.if-not-sized_ok.false)
