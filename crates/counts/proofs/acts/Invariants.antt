use mathlib.Core.Path.{◌≡◌}
use mathlib.Core.Bool.{◌&&◌}
use lib.ListN.{get_or}
use Rattle.laws.specs.Sums.{count}
use Rattle.steps.specs.InFront.{waiting_act}
use Rattle.sheet.specs.Table.{row_at}
use Rattle.flags.specs.Flags.{flagged}
use Rattle.counts.proofs.acts.Given as goal

abbrev pub invariant-loop-row : goal.invariant-loop-row
invariant-loop-row l = l.found ≡ count (λ k. waiting_act (row_at l.ts k) (get_or l.marks k 0) && flagged l.live k) l.row
