use lib.ListN.{get_or}
use Rattle.layout.specs.Rows.{root}
use Rattle.moves.specs.Steps.{remainder_in}
use Rattle.laying.specs.Told.{Tells}
use Rattle.collect.proofs.tops.Given as goal

abbrev pub invariant-loop-row : goal.invariant-loop-row
invariant-loop-row l = Tells (λ j. root (remainder_in l.ts l.n (λ k. get_or l.marks k 0) j)) l.row l.n l.table
