use mathlib.Core.Path.{◌∙◌}
use Rattle.fitting.proofs.Alone.{stops, goes_on}
use Rattle.fitting.proofs.fit.Goals as goal

pub returns-in_err-fit_mode : goal.returns-in_err-fit_mode
returns-in_err-fit_mode c = stops _ _ _ c.fit_mode.ensures _ c.in_err-fit_mode.was _ c.from_residual.ensures.1

pub returns-in_err-fit_marks : goal.returns-in_err-fit_marks
returns-in_err-fit_marks c = stops _ _ _ c.fit_marks.ensures _ c.in_err-fit_marks.was _ c.from_residual-in_err-fit_marks.ensures.1 ∙ goes_on _ _ _ c.fit_mode.ensures _ c.in_ok-fit_mode.was

pub returns-in_err-fit_links : goal.returns-in_err-fit_links
returns-in_err-fit_links c = stops _ _ _ c.fit_links.ensures _ c.in_err-fit_links.was _ c.from_residual-in_err-fit_links.ensures.1 ∙ (goes_on _ _ _ c.fit_marks.ensures _ c.in_ok-fit_marks.was ∙ goes_on _ _ _ c.fit_mode.ensures _ c.in_ok-fit_mode.was)

pub returns-in_err-fit_waits : goal.returns-in_err-fit_waits
returns-in_err-fit_waits c = stops _ _ _ c.fit_waits.ensures _ c.in_err-fit_waits.was _ c.from_residual-in_err-fit_waits.ensures.1 ∙ (goes_on _ _ _ c.fit_links.ensures _ c.in_ok-fit_links.was ∙ (goes_on _ _ _ c.fit_marks.ensures _ c.in_ok-fit_marks.was ∙ goes_on _ _ _ c.fit_mode.ensures _ c.in_ok-fit_mode.was))

pub returns-in_err-fit_clear : goal.returns-in_err-fit_clear
returns-in_err-fit_clear c = stops _ _ _ c.fit_clear.ensures _ c.in_err-fit_clear.was _ c.from_residual-in_err-fit_clear.ensures.1 ∙ (goes_on _ _ _ c.fit_waits.ensures _ c.in_ok-fit_waits.was ∙ (goes_on _ _ _ c.fit_links.ensures _ c.in_ok-fit_links.was ∙ (goes_on _ _ _ c.fit_marks.ensures _ c.in_ok-fit_marks.was ∙ goes_on _ _ _ c.fit_mode.ensures _ c.in_ok-fit_mode.was)))

pub returns : goal.returns
returns c = c.fit_counts.ensures ∙ (goes_on _ _ _ c.fit_clear.ensures _ c.in_ok-fit_clear.was ∙ (goes_on _ _ _ c.fit_waits.ensures _ c.in_ok-fit_waits.was ∙ (goes_on _ _ _ c.fit_links.ensures _ c.in_ok-fit_links.was ∙ (goes_on _ _ _ c.fit_marks.ensures _ c.in_ok-fit_marks.was ∙ goes_on _ _ _ c.fit_mode.ensures _ c.in_ok-fit_mode.was))))
