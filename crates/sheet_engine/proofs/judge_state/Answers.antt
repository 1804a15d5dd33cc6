use mathlib.Core.Path.{refl, sym, ◌∙◌}
use Rattle.sheet.proofs.Accepted.{accepted_form, rows_lent}
use Rattle.sheet.proofs.Refusals.{passed_on, judged_accepted}
use Rattle.sheet_engine.proofs.Steps.{table_first, state_then}
use Rattle.sheet_engine.proofs.judge_state.Goals as goal

pub returns-in_err-judge : goal.returns-in_err-judge
returns-in_err-judge c = rw (passed_on _ c.from_residual.ensures.1) (table_first _ c.args.s _ (sym c.judge.ensures ∙ c.in_err-judge.was))

pub fit-requires : goal.fit-requires
fit-requires c = rows_lent (accepted_form _ _ refl (judged_accepted _ _ (sym c.judge.ensures ∙ c.in_ok-judge.was)))

pub returns : goal.returns
returns c = state_then _ c.args.s _ (sym c.judge.ensures ∙ c.in_ok-judge.was) _ c.fit.ensures
