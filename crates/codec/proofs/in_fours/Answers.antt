use Rattle.sheet.specs.Sheet.{in_fours}
use borrow.Author.Rules.{rules}
use Rattle.codec.proofs.in_fours.Goals as goal

pub returns : goal.returns
unfolding in_fours
returns c = search rules
