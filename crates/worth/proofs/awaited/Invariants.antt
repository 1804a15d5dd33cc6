use Prim.Native.Nat.{◌-◌, ◌≤◌}
use mathlib.Core.Path.{◌≡◌}
use lib.ListN.{length}
use Rattle.conditions.specs.Conditions.{condition}
use Rattle.sheet.specs.Table.{condition_row_at}
use Rattle.evaluate.specs.Values.{links_in}
use Rattle.worth.specs.Sets.{in_set}
use Rattle.worth.proofs.Falling.{Sought}
use Rattle.worth.proofs.awaited.Given as goal

abbrev pub invariant-loop-at : goal.invariant-loop-at
invariant-loop-at l = record {
  falling : 255 - l.row ≤ l.from;
  inside : l.from ≤ 256;
  size : length l.rows ≡ 4;
  sought : Sought (condition_row_at l.cs) (condition (condition_row_at l.cs) l.row) (links_in l.links) (256 - l.from) (in_set l.rows) l.low;
}

abbrev pub decreases-loop-at : goal.decreases-loop-at
decreases-loop-at l = 256 - l.from
