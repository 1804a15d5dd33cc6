use Rattle.laws.proofs.Checks.{Scanned}
use Rattle.moves.specs.Steps.{marks_of}
use Rattle.moves.specs.Fits.{clear_fit}
use Rattle.fitting.proofs.fit_clear.Given as goal

abbrev pub invariant-loop-row : goal.invariant-loop-row
invariant-loop-row l = Scanned (clear_fit l.ts l.n (marks_of l.s) l.s.links) l.row
