use lib.ListN.{get_or}
use Rattle.laws.proofs.Checks.{Scanned}
use Rattle.fitting.specs.Checks.{rest_fit}
use Rattle.fitting.proofs.fit_rest.Given as goal

abbrev pub invariant-loop-row : goal.invariant-loop-row
invariant-loop-row l = Scanned (rest_fit l.n (λ k. get_or l.marks k 0)) l.row
