use mathlib.Core.Path.{refl, sym, ◌∙◌}
use borrow.Author.Rules.{rules}
use Rattle.sheet.proofs.Refusals.{passed_on}
use Rattle.sheet_engine.proofs.Steps.{kind_refused, kind_given, call_formed, call_refused, call_accepted}
use Rattle.sheet_engine.proofs.step_kind.Goals as goal

pub returns-in_err-judge_state : goal.returns-in_err-judge_state
returns-in_err-judge_state c =
    let d = call_refused _ c.args.s _ (sym c.judge_state.ensures ∙ c.in_err-judge_state.was) in
    record { value = rw (passed_on _ c.from_residual.ensures.1) (kind_refused _ _ _ d.0 _ d.1); sized = search rules }

pub kind-requires : goal.kind-requires
kind-requires c = call_formed _ c.args.s _ refl (call_accepted _ _ _ (sym c.judge_state.ensures ∙ c.in_ok-judge_state.was))

pub returns : goal.returns
returns c = record { value = kind_given _ _ _ refl _ _ (call_accepted _ _ _ (sym c.judge_state.ensures ∙ c.in_ok-judge_state.was)) c.kind.ensures; sized = search rules }
