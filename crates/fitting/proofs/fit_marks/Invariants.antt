use lib.ListN.{get_or}
use Rattle.laws.proofs.Checks.{Scanned}
use Rattle.moves.specs.Steps.{mode_of}
use Rattle.moves.specs.Fits.{marks_fit}
use Rattle.fitting.proofs.fit_marks.Given as goal

abbrev pub invariant-loop-row : goal.invariant-loop-row
invariant-loop-row l = Scanned (marks_fit l.ts l.n (mode_of l.mode) (λ k. get_or l.marks k 0)) l.row
