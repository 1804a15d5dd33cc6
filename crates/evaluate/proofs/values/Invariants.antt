use Rattle.evaluate.specs.Values.{links_in, Evaluated}
use Rattle.evaluate.proofs.values.Given as goal

abbrev pub invariant-loop-i : goal.invariant-loop-i
invariant-loop-i l = Evaluated l.evaluation l.cs (links_in l.links) l.i l.vals
