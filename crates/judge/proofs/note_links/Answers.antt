use borrow.Author.Tests.{ne_eqb}
use Rattle.judge.specs.Judge.{links_noted}
use Rattle.judge.proofs.note_links.Goals as goal

pub returns-in-2 : goal.returns-in-2
unfolding links_noted
returns-in-2 c = rw c.in-2.is c.note_source.ensures

pub returns-in-3 : goal.returns-in-3
unfolding links_noted
returns-in-3 c = rw (c.in-3.is, ← c.mask_of.ensures) c.note_join.ensures

pub returns-in_default : goal.returns-in_default
unfolding links_noted
returns-in_default c = rw (ne_eqb _ 2 c.in_default.in_default-own.rest.0.1, ne_eqb _ 3 c.in_default.in_default-own.rest.1)
