use Rattle.effects.proofs.Climbing.{Climbs}
use Rattle.effects.proofs.climb.Given as goal

abbrev pub invariant-loop-p : goal.invariant-loop-p
invariant-loop-p l = Climbs l.ts l.n l.old l.row l.initial.state l.at l.p l.state
