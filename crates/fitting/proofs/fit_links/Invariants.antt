use Rattle.laws.proofs.Checks.{Scanned}
use Rattle.moves.specs.Fits.{links_fit}
use Rattle.fitting.proofs.fit_links.Given as goal

abbrev pub invariant-loop-link : goal.invariant-loop-link
invariant-loop-link l = Scanned (links_fit l.m l.links) l.link
