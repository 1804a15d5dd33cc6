use lib.ListN.{get_or}
use Rattle.sheet.specs.Table.{row_at}
use Rattle.flags.proofs.Shown.{shown}
use Rattle.collect.specs.Kept.{new_bytes}
use Rattle.collect.proofs.NewRows.{new_four}
use Rattle.collect.proofs.Compacting.{terms_are}
use Rattle.collect.proofs.kept_rows.Goals as goal

pub lay-requires-clause-four : goal.lay-requires-clause-four
lay-requires-clause-four c = λ i r h e. new_four _ _ _ _ _ e

pub returns : goal.returns
returns c = λ cs.
    terms_are _ c.requires.0.1.1 _ _ _ _ _ c.ask-live.ensures c.tops-tops.ensures (shown _ _ _ c.kept-kept.ensures) c.ranks-ranks.ensures _ _
    (c.lay.ensures (λ k. new_bytes (row_at c.args.ts.now k) (get_or c.args.s.marks k 0) c.tops-tops.result c.ranks-ranks.result) (λ i r h e. e))
