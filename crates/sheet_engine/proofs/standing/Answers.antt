use Rattle.sheet_engine.proofs.Steps.{stand_refused, stand_short, stand_given, call_formed, call_refused, call_accepted}
use Rattle.sheet_engine.proofs.HowItStands.{stands_enabled, stands_finished, stands_waiting}
use mathlib.Core.Path.{refl, sym, ◌∙◌}
use borrow.Author.Rules.{rules}
use Rattle.sheet.proofs.Refusals.{passed_on}
use Rattle.sheet_engine.proofs.standing.Goals as goal

pub returns-in_err-judge_state : goal.returns-in_err-judge_state
returns-in_err-judge_state c =
    let d = call_refused _ c.args.s _ (sym c.judge_state.ensures ∙ c.in_err-judge_state.was) in
    record { value = rw (passed_on _ c.from_residual.ensures.1) (stand_refused _ _ _ d.0 _ d.1); sized = search rules }

pub stand-found-requires : goal.stand-found-requires
stand-found-requires c = call_formed _ c.args.s _ refl (call_accepted _ _ _ (sym c.judge_state.ensures ∙ c.in_ok-judge_state.was))

pub returns-then-room-waiting : goal.returns-then-room-waiting
returns-then-room-waiting c = record { value = stand_short _ _ _ refl _ _ _ (call_accepted _ _ _ (sym c.judge_state.ensures ∙ c.in_ok-judge_state.was)) c.stand-found.ensures.1.0 c.stand-found.ensures.1.1 c.if-room-waiting.true; sized = search rules }

pub returns-then-found-ne0 : goal.returns-then-found-ne0
returns-then-found-ne0 c = record { value = stand_given _ _ _ refl _ _ _ (call_accepted _ _ _ (sym c.judge_state.ensures ∙ c.in_ok-judge_state.was)) c.stand-found.ensures.1.0 c.stand-found.ensures.1.1 c.if-room-waiting.false _ (stands_enabled _ _ _ _ c.stand-found.ensures.0 c.stand-found.ensures.1.0 c.if-found-ne0.true); sized = search rules }

pub returns-then-waiting-eq0 : goal.returns-then-waiting-eq0
returns-then-waiting-eq0 c = record { value = stand_given _ _ _ refl _ _ _ (call_accepted _ _ _ (sym c.judge_state.ensures ∙ c.in_ok-judge_state.was)) c.stand-found.ensures.1.0 c.stand-found.ensures.1.1 c.if-room-waiting.false _ (stands_finished _ _ _ _ c.stand-found.ensures.0 c.stand-found.ensures.1.0 c.if-found-ne0.false c.if-waiting-eq0.true); sized = search rules }

pub returns : goal.returns
returns c = record { value = stand_given _ _ _ refl _ _ _ (call_accepted _ _ _ (sym c.judge_state.ensures ∙ c.in_ok-judge_state.was)) c.stand-found.ensures.1.0 c.stand-found.ensures.1.1 c.if-room-waiting.false _ (stands_waiting _ _ _ _ c.stand-found.ensures.0 c.stand-found.ensures.1.0 c.if-found-ne0.false c.if-waiting-eq0.false); sized = search rules }
