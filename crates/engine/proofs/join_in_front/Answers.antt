use borrow.Author.Tests.{ne_eqb}
use Rattle.engine.proofs.Rows.{join_other, join_there}
use Rattle.engine.proofs.join_in_front.Goals as goal

pub returns-then-ts-row-ne3 : goal.returns-then-ts-row-ne3
returns-then-ts-row-ne3 c = join_other _ _ _ _ (ne_eqb _ 3 c.if-ts-row-ne3.true)

pub returns : goal.returns
returns c = join_there _ _ _ _ c.if-ts-row-ne3.false _ c.waits.ensures
