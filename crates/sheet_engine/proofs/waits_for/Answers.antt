use Rattle.sheet_engine.proofs.Steps.{waits_refused, waits_short, waits_given, call_formed, call_refused, call_accepted}
use mathlib.Core.Path.{refl, sym, ◌∙◌}
use borrow.Author.Rules.{rules}
use Rattle.sheet.proofs.Refusals.{passed_on}
use Rattle.sheet_engine.proofs.waits_for.Goals as goal

pub returns-in_err-judge_state : goal.returns-in_err-judge_state
returns-in_err-judge_state c =
    let d = call_refused _ c.args.s _ (sym c.judge_state.ensures ∙ c.in_err-judge_state.was) in
    record { value = rw (passed_on _ c.from_residual.ensures.1) (waits_refused _ _ _ d.0 _ d.1); sized = search rules }

pub wait-bytes-requires : goal.wait-bytes-requires
wait-bytes-requires c = call_formed _ c.args.s _ refl (call_accepted _ _ _ (sym c.judge_state.ensures ∙ c.in_ok-judge_state.was))

pub returns-then-room-bytes : goal.returns-then-room-bytes
returns-then-room-bytes c = record { value = waits_short _ _ _ refl _ _ _ (call_accepted _ _ _ (sym c.judge_state.ensures ∙ c.in_ok-judge_state.was)) c.wait-bytes.ensures.0 c.wait-bytes.ensures.1 c.if-room-bytes.true; sized = search rules }

pub returns : goal.returns
returns c = record { value = waits_given _ _ _ refl _ _ _ (call_accepted _ _ _ (sym c.judge_state.ensures ∙ c.in_ok-judge_state.was)) c.wait-bytes.ensures.0 c.wait-bytes.ensures.1 c.if-room-bytes.false; sized = search rules }
