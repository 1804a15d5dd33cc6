use mathlib.Core.Path.{sym, ◌∙◌}
use borrow.Author.Tests.{eq-eqb, ne_eqb}
use Rattle.sheet.specs.Sheet.{contents_ok}
use Rattle.codec.proofs.Reading.{count_wrong, settings_wrong, terms_wrong, conditions_wrong, contents_right}
use Rattle.codec.proofs.bad_contents.Goals as goal

pub returns-then-s-ne3 : goal.returns-then-s-ne3
unfolding contents_ok
returns-then-s-ne3 c = count_wrong c.args.s.now (ne_eqb _ 3 c.if-s-ne3.true)

pub returns-then-not-settings_ok : goal.returns-then-not-settings_ok
unfolding contents_ok
returns-then-not-settings_ok c = settings_wrong c.args.s.now (eq-eqb _ 3 c.if-s-ne3.false) (sym c.settings_ok.ensures ∙ c.if-not-settings_ok.true)

pub returns-then-not-terms_ok : goal.returns-then-not-terms_ok
unfolding contents_ok
returns-then-not-terms_ok c = terms_wrong c.args.s.now (eq-eqb _ 3 c.if-s-ne3.false) (sym c.settings_ok.ensures ∙ c.if-not-settings_ok.false) (sym c.terms_ok.ensures ∙ c.if-not-terms_ok.true)

pub returns-then-not-conditions_ok : goal.returns-then-not-conditions_ok
unfolding contents_ok
returns-then-not-conditions_ok c = conditions_wrong c.args.s.now (eq-eqb _ 3 c.if-s-ne3.false) (sym c.settings_ok.ensures ∙ c.if-not-settings_ok.false) (sym c.terms_ok.ensures ∙ c.if-not-terms_ok.false) (sym c.conditions_ok.ensures ∙ c.if-not-conditions_ok.true)

pub returns : goal.returns
unfolding contents_ok
returns c = contents_right c.args.s.now (eq-eqb _ 3 c.if-s-ne3.false) (sym c.settings_ok.ensures ∙ c.if-not-settings_ok.false) (sym c.terms_ok.ensures ∙ c.if-not-terms_ok.false) (sym c.conditions_ok.ensures ∙ c.if-not-conditions_ok.false)
