use mathlib.Core.Path.{◌∙◌, refl}
use Rattle.laws.proofs.Up.{filled_none}
use Rattle.laws.proofs.Checks.{place_holds}
use Rattle.judge.proofs.Chain.{fails, holds}
use Rattle.judge.proofs.judge_conditions.Goals as goal

pub bad_condition-place-requires : goal.bad_condition-place-requires
bad_condition-place-requires c = (c.requires.0.conditions_lent, (c.requires.0.few_conditions, (refl, filled_none 0 _ 256)))

pub returns-then-place-end : goal.returns-then-place-end
returns-then-place-end c = fails _ _ _ c.bad_condition-place.ensures.0 c.if-place-end.true

pub judge_terms-requires : goal.judge_terms-requires
judge_terms-requires c = let e = c.bad_condition-place.ensures in
    record { lent = c.requires.0; few_links = c.requires.1; masked = e.1 c.if-place-end.false; sound = place_holds _ _ e.0 c.if-place-end.false }

pub returns : goal.returns
returns c = c.judge_terms.ensures ∙ holds _ _ _ c.bad_condition-place.ensures.0 c.if-place-end.false
