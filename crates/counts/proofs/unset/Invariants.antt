use mathlib.Core.Path.{◌≡◌}
use mathlib.Core.Bool.{not}
use lib.ListN.{get_or}
use Rattle.laws.specs.Sums.{count}
use Rattle.conditions.specs.Conditions.{is_set}
use Rattle.conditions.specs.Numbers.{undigit}
use Rattle.counts.proofs.unset.Given as goal

abbrev pub invariant-loop-link : goal.invariant-loop-link
invariant-loop-link l = l.found ≡ count (λ k. not (is_set (undigit (get_or l.links k 0)))) l.link
