-- The measure is the rows from the row on.
use Prim.Native.Nat.{◌-◌}
use Rattle.effects.proofs.+gather.Given as goal

abbrev pub decreases-gather : goal.decreases-gather
decreases-gather l = l.n - l.row
