use mathlib.Core.Path.{◌∙◌, ap}
use Rattle.sheet.specs.Table.{lent_table}
use lib.ListN.{length}
use Rattle.laws.specs.Listed.{written}
use Rattle.engine.proofs.Known.{Knows, knows}
use Rattle.engine.proofs.Rows.{steps_from_law, waiting_from_law}
use Rattle.engine.proofs.stand.Goals as goal

pub returns : goal.returns
returns c =
    let f = c.stand_by.ensures in
    let k : Knows (lent_table c.args.t.now) c.args.s _ _ = knows c.ask-reached.ensures c.values-vals.ensures in
    let e = waiting_from_law _ _ _ _ k c.requires in
    (f.0 ∙ ap length (steps_from_law _ _ _ _ k c.requires), (f.1.0 ∙ ap length e, f.1.1 ∙ ap (λ xs. written xs c.args.out.now) e))
