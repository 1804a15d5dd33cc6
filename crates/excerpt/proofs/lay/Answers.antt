use Rattle.sheet.specs.Table.{condition_row_at}
use mathlib.Core.Path.{ap, ◌∙◌}
use lib.ListN.{length}
use native.Mathlib.Omega.{arith}
use Rattle.layout.proofs.Bytes.{four_each_condition}
use Rattle.excerpt.specs.Excerpt.{new_bytes}
use Rattle.excerpt.proofs.Excerpted.{rows_are}
use Rattle.excerpt.proofs.lay.Goals as goal

pub reached_rows-flags-requires : goal.reached_rows-flags-requires
reached_rows-flags-requires c = (omega arith, λ i h. c.requires.1.1 i (omega arith))

pub lay-requires-clause-four : goal.lay-requires-clause-four
unfolding new_bytes
lay-requires-clause-four c = λ i r h e. ap length e ∙ four_each_condition _

pub returns : goal.returns
returns c =
    rows_are c.args.cs.now _ _ c.requires.0.0.0 c.requires.1.1 _ _ c.reached_rows-flags.ensures c.ranks-ranks.ensures _ _ (c.lay.ensures (λ i. new_bytes (condition_row_at c.args.cs.now i) _) (λ i r h e. e))
