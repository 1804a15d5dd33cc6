use Rattle.sheet.specs.Rules.{child_ok}
use borrow.Author.Rules.{rules}
use Rattle.judge.proofs.child.Goals as goal

pub returns : goal.returns
unfolding child_ok
returns c = search rules
