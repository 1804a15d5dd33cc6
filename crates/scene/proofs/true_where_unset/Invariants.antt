use Prim.Native.Nat.{◌*◌}
use mathlib.Core.Path.{◌≡◌}
use lib.Dec.{eqb}
use lib.ListN.{get_or, length}
use Rattle.laws.specs.Tests.{bit}
use Rattle.laws.specs.Up.{Filled}
use Rattle.scene.proofs.true_where_unset.Given as goal

abbrev pub invariant-loop-l : goal.invariant-loop-l
invariant-loop-l l = (length l.table ≡ 64) × Filled 0 (λ k. bit (eqb (get_or l.values k 0) 0) * 2) l.l l.table
