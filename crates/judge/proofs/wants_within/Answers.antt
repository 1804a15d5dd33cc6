use borrow.Author.Tests.{ne_eqb}
use Rattle.judge.specs.Judge.{wants_within}
use Rattle.judge.proofs.wants_within.Goals as goal

pub returns-in-3 : goal.returns-in-3
unfolding wants_within
returns-in-3 c = rw (c.in-3.is, ← c.mask_of.ensures) c.within.ensures

pub returns-in_default : goal.returns-in_default
unfolding wants_within
returns-in_default c = rw (ne_eqb _ 3 c.in_default.in_default-own.rest.1)
