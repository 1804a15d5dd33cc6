use mathlib.Core.Path.{◌∙◌, ap}
use lib.ListN.{length}
use Rattle.laws.specs.Listed.{written}
use Rattle.flags.proofs.Shown.{shown_listed}
use Rattle.engine.specs.ByValue.{steps_from, waiting_from}
use Rattle.engine.proofs.Rows.{nothing_waits, waits_joins}
use Rattle.engine.proofs.stand_by.Goals as goal

pub returns-then-steps-ne0 : goal.returns-then-steps-ne0
unfolding steps_from waiting_from
returns-then-steps-ne0 c =
    let e = c.count-steps.ensures ∙ ap length (shown_listed _ _ _ c.show_steps.ensures) in
    (e, nothing_waits _ _ _ e c.if-steps-ne0.true _)

pub returns : goal.returns
unfolding steps_from waiting_from
returns c =
    let e = c.count-steps.ensures ∙ ap length (shown_listed _ _ _ c.show_steps.ensures) in
    let j = shown_listed _ _ _ c.show_joins.ensures in
    let f = c.fill.ensures in
    (e, rw (waits_joins _ _ _ e c.if-steps-ne0.false) (f.0 ∙ ap length j, f.1 ∙ ap (λ xs. written xs c.args.out.now) j))
