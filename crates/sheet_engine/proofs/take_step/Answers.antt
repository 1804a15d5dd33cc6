use mathlib.Core.Path.{refl, sym, ◌∙◌}
use Rattle.sheet_engine.proofs.Steps.{step_refused_law, step_given, call_formed, call_refused, call_accepted}
use borrow.Author.Rules.{rules}
use Rattle.sheet_engine.proofs.take_step.Goals as goal

pub returns-in-Err : goal.returns-in-Err
returns-in-Err c =
    let d = call_refused _ c.args.s _ (sym c.judge_state.ensures ∙ c.in-Err.is) in
    record { value = step_refused_law _ _ _ d.0 _ d.1; sized = search rules }

pub take-requires : goal.take-requires
take-requires c = call_formed _ c.args.s _ refl (call_accepted _ _ _ (sym c.judge_state.ensures ∙ c.in-Ok.is))

pub returns-in-Ok : goal.returns-in-Ok
returns-in-Ok c = record { value = step_given _ _ _ refl _ _ (call_accepted _ _ _ (sym c.judge_state.ensures ∙ c.in-Ok.is)) c.take.ensures; sized = search rules }
