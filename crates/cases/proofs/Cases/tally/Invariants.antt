use Rattle.std.proofs.Common.{◌≤◌}
use Rattle.cases.proofs.Cases.tally.Given as goal

-- no more cases agree than were tried
abbrev pub invariant-loop-tried : goal.invariant-loop-tried
invariant-loop-tried g l = l.agreed ≤ l.tried
