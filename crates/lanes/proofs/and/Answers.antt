use Rattle.evaluate.specs.Values.{meant}
use Rattle.lanes.proofs.Operators.{and_lazy, and_strict}
use Rattle.lanes.proofs.and.Goals as goal

pub returns-in-Lazy : goal.returns-in-Lazy
unfolding meant
returns-in-Lazy c = rw c.in-Lazy.is (and_lazy c.args.a c.args.b)

pub returns-in-Strict : goal.returns-in-Strict
unfolding meant
returns-in-Strict c = rw c.in-Strict.is (and_strict c.args.a c.args.b)
