use mathlib.Core.Path.{◌≡◌}
use lib.ListN.{length}
use Rattle.laws.specs.Up.{Filled}
use Rattle.reach.specs.Masks.{mask_at}
use Rattle.reach.proofs.masks.Given as goal

abbrev pub invariant-loop-i : goal.invariant-loop-i
invariant-loop-i l = (length l.table ≡ 256) × Filled 0 (mask_at l.cs) l.i l.table
