use mathlib.Core.Path.{sym, ◌∙◌, ap}
use Rattle.std.specs.Result.{is_ok}
use Rattle.engine.specs.declared.Stepped.{Stepped}
use Rattle.sheet_engine.proofs.Steps.{state_back}
use Rattle.sheet_engine.proofs.step_in_place.Goals as goal

-- where no step was taken, the state after is the state before
pub returns-else-is_ok : goal.returns-else-is_ok
returns-else-is_ok c = let e = c.take_step-next.ensures.value in
    (ap (λ (r : Stepped). r.answer) e, sym (state_back _ _ _ (sym (ap (λ (r : Stepped). is_ok r.answer) e) ∙ (sym c.is_ok.ensures.value ∙ c.if-is_ok.false))), c.take_step-next.ensures.sized)
