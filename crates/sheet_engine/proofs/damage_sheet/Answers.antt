use mathlib.Core.Path.{refl, sym, ◌∙◌}
use Rattle.sheet.proofs.Refusals.{passed_on, judged_refused, judged_accepted}
use Rattle.sheet_engine.proofs.Calls.{damage_refused, damage_shown}
use Rattle.sheet_engine.proofs.damage_sheet.Goals as goal

pub returns-in_err-judge : goal.returns-in_err-judge
returns-in_err-judge c =
    let d = judged_refused _ _ (sym c.judge.ensures ∙ c.in_err-judge.was) in
    rw (passed_on _ c.from_residual.ensures.1) (damage_refused _ _ d.0 _ _ d.1)

pub show-requires : goal.show-requires
show-requires c = judged_accepted _ _ (sym c.judge.ensures ∙ c.in_ok-judge.was)

pub returns : goal.returns
returns c = damage_shown _ _ refl _ _ (judged_accepted _ _ (sym c.judge.ensures ∙ c.in_ok-judge.was)) _ _ c.show.ensures
