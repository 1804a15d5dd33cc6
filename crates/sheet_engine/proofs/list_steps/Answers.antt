use Rattle.sheet_engine.proofs.Steps.{list_refused, list_short, list_given, call_formed, call_refused, call_accepted}
use mathlib.Core.Path.{refl, sym, ◌∙◌}
use borrow.Author.Rules.{rules}
use Rattle.sheet.proofs.Refusals.{passed_on}
use Rattle.sheet_engine.proofs.list_steps.Goals as goal

pub returns-in_err-judge_state : goal.returns-in_err-judge_state
returns-in_err-judge_state c =
    let d = call_refused _ c.args.s _ (sym c.judge_state.ensures ∙ c.in_err-judge_state.was) in
    record { value = rw (passed_on _ c.from_residual.ensures.1) (list_refused _ _ _ d.0 _ d.1); sized = search rules }

pub list-size-requires : goal.list-size-requires
list-size-requires c = call_formed _ c.args.s _ refl (call_accepted _ _ _ (sym c.judge_state.ensures ∙ c.in_ok-judge_state.was))

pub returns-then-room-size : goal.returns-then-room-size
returns-then-room-size c = record { value = list_short _ _ _ refl _ _ _ (call_accepted _ _ _ (sym c.judge_state.ensures ∙ c.in_ok-judge_state.was)) c.list-size.ensures.0 c.list-size.ensures.1 c.if-room-size.true; sized = search rules }

pub returns : goal.returns
returns c = record { value = list_given _ _ _ refl _ _ _ (call_accepted _ _ _ (sym c.judge_state.ensures ∙ c.in_ok-judge_state.was)) c.list-size.ensures.0 c.list-size.ensures.1 c.if-room-size.false; sized = search rules }
