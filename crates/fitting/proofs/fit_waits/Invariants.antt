use lib.ListN.{get_or}
use Rattle.laws.proofs.Checks.{Scanned}
use Rattle.moves.specs.Fits.{waits_fit}
use Rattle.fitting.proofs.fit_waits.Given as goal

abbrev pub invariant-loop-row : goal.invariant-loop-row
invariant-loop-row l = Scanned (waits_fit l.ts l.n (λ k. get_or l.marks k 0)) l.row
