use Rattle.moves.specs.Steps.{dropped_of}
use Rattle.effects.proofs.dropped.Goals as goal

pub falsify_below-cleaned-requires : goal.falsify_below-cleaned-requires
falsify_below-cleaned-requires c = let q = c.requires in (q.0.1, rw (c.first-child.ensures, c.term_row.ensures) q.1.1)

pub returns : goal.returns
unfolding dropped_of
returns c = rw (c.counted.ensures, c.falsify_below-cleaned.ensures, c.first-child.ensures, c.term_row.ensures, c.drop_join-next.ensures)
