use Rattle.words.proofs.Patterns.{word_not}
use native.Mathlib.Omega.{arith}
use Rattle.words.proofs.binary.Goals as goal

pub returns-then-d-eq1 : goal.returns-then-d-eq1
returns-then-d-eq1 c = rw c.if-d-eq1.true c.pattern-ones.ensures

pub returns-else-d-eq1 : goal.returns-else-d-eq1
returns-else-d-eq1 c = word_not _ _ _ _ (omega arith) c.requires.0 c.if-d-eq1.false c.pattern-ones.ensures
