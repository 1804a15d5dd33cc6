use Rattle.flags.specs.Flags.{Shows}
use Rattle.collect.specs.Kept.{kept_by}
use Rattle.collect.proofs.kept.Given as goal

abbrev pub invariant-loop-row : goal.invariant-loop-row
invariant-loop-row l = Shows (kept_by l.live l.tops) l.row l.flags
