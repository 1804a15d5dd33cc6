use mathlib.Core.Path.{refl, sym, ◌∙◌, ap}
use Rattle.sheet.specs.Table.{lent_table}
use borrow.Author.Tests.{leb-true, leb-false}
use Rattle.sheet.proofs.Accepted.{accepted_form, rows_lent}
use Rattle.sheet.proofs.Refusals.{passed_on, judged_refused, judged_accepted}
use Rattle.moves.specs.Steps.{counted}
use Rattle.sheet_engine.proofs.Calls.{start_refused, start_bad_mode, start_fresh}
use Rattle.sheet_engine.proofs.start.Goals as goal

pub returns-in_err-judge : goal.returns-in_err-judge
returns-in_err-judge c =
    let d = judged_refused _ _ (sym c.judge.ensures ∙ c.in_err-judge.was) in
    rw (passed_on _ c.from_residual.ensures.1) (start_refused _ _ d.0 _ d.1)

pub returns-then-not-mode_ok : goal.returns-then-not-mode_ok
returns-then-not-mode_ok c = start_bad_mode _ _ refl _ (judged_accepted _ _ (sym c.judge.ensures ∙ c.in_ok-judge.was)) (leb-false _ 1 (sym c.mode_ok.ensures ∙ c.if-not-mode_ok.true))

pub counted-requires : goal.counted-requires
counted-requires c = rows_lent (accepted_form _ _ refl (judged_accepted _ _ (sym c.judge.ensures ∙ c.in_ok-judge.was)))

pub returns : goal.returns
returns c =
    let a = c.args in
    start_fresh _ _ refl _ (judged_accepted _ _ (sym c.judge.ensures ∙ c.in_ok-judge.was))
    (leb-true _ 1 (sym c.mode_ok.ensures ∙ c.if-not-mode_ok.false))
    c.counted.result
    (c.counted.ensures ∙ ap (counted (lent_table a.t.now)) c.fresh.ensures.value)
