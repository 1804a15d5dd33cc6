use mathlib.Core.Path.{◌∙◌, ap}
use lib.ListN.{length}
use Rattle.laws.specs.Listed.{written}
use Rattle.flags.proofs.Shown.{shown_listed}
use Rattle.engine.specs.ByValue.{steps_from}
use Rattle.engine.proofs.Known.{knows}
use Rattle.engine.proofs.Rows.{steps_from_law}
use Rattle.engine.proofs.list.Goals as goal

pub returns : goal.returns
unfolding steps_from
returns c =
    let e =
    shown_listed _ _ _ c.show_steps.ensures ∙
    steps_from_law _ _ _ _ (knows c.ask-reached.ensures c.values-vals.ensures) c.requires in
    (c.fill.ensures.0 ∙ ap length e, c.fill.ensures.1 ∙ ap (λ xs. written xs c.args.out.now) e)
