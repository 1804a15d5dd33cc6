use mathlib.Core.Path.{◌∙◌}
use Rattle.failure.proofs.Search.{failure_none, failure_at}
use Rattle.failure.proofs.Found.{totals_pass, totals_fail, number_is, number_there}
use Rattle.failure.proofs.of_condition.Goals as goal

pub returns-in_err-first_unsteady : goal.returns-in_err-first_unsteady
returns-in_err-first_unsteady c = c.from_residual.ensures ∙ failure_none _ _ _ _ (totals_pass _ _ _ _ c.requires _ c.in_err-first_unsteady.ensures)

pub returns-in_err-number : goal.returns-in_err-number
returns-in_err-number c = let t = c.in_ok-first_unsteady.ensures in
    absurd (number_there _ _ _ _ c.requires _ (totals_fail _ _ _ _ c.requires _ _ t.0 t.1) c.in_err-number.ensures)

pub returns : goal.returns
returns c = let t = c.in_ok-first_unsteady.ensures in
    failure_at _ _ _ _ c.requires _ _ _ (totals_fail _ _ _ _ c.requires _ _ t.0 t.1) (c.in_ok-number.ensures.1 ∙ number_is _ _ _ _ c.requires _) c.false_link-link.ensures
