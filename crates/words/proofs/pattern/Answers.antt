use Rattle.words.proofs.Patterns.{pattern_low, pattern_ones, pattern_zeros}
use Rattle.words.proofs.pattern.Goals as goal

pub returns-then-i-lt6 : goal.returns-then-i-lt6
returns-then-i-lt6 c = pattern_low _ c.if-i-lt6.true _ c.requires.1

pub returns-then-x-i-eq1 : goal.returns-then-x-i-eq1
returns-then-x-i-eq1 c = pattern_ones _ c.if-i-lt6.false c.requires.0 _ c.requires.1 c.if-x-i-eq1.true

pub returns-else-x-i-eq1 : goal.returns-else-x-i-eq1
returns-else-x-i-eq1 c = pattern_zeros _ c.if-i-lt6.false c.requires.0 _ c.requires.1 c.if-x-i-eq1.false
