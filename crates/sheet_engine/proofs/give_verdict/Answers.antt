use mathlib.Core.Path.{refl, sym, ◌∙◌}
use Rattle.sheet.proofs.Refusals.{judged_refused, judged_accepted}
use Rattle.sheet_engine.proofs.Calls.{judged_law, verdict_refused, verdict_given}
use Rattle.sheet_engine.proofs.give_verdict.Goals as goal

pub give-requires : goal.give-requires
give-requires c = judged_law _ _ refl (judged_accepted _ _ (sym c.judge.ensures ∙ c.in-Ok.is))

pub returns-in-Ok : goal.returns-in-Ok
returns-in-Ok c = verdict_given _ _ refl (judged_accepted _ _ (sym c.judge.ensures ∙ c.in-Ok.is)) _ c.give.ensures

pub returns-in-Err : goal.returns-in-Err
returns-in-Err c = let d = judged_refused _ _ (sym c.judge.ensures ∙ c.in-Err.is) in verdict_refused _ _ d.0 d.1
