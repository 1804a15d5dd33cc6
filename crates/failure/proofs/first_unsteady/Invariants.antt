use Prim.Native.Nat.{◌+◌, ◌-◌, ◌%◌}
use mathlib.Core.Path.{◌≡◌}
use Rattle.words.specs.Words.{base_of}
use Rattle.failure.specs.Blocks.{numbers, steady_at}
use Rattle.failure.proofs.Blocks.{Below}
use Rattle.failure.proofs.first_unsteady.Given as goal

abbrev pub invariant-loop-x : goal.invariant-loop-x
invariant-loop-x l = record {
  digit : l.digit + 1 ≡ base_of l.base;
  size : l.all ≡ numbers l.base l.m l.cs l.row;
  aligned : l.x % 64 ≡ 0;
  steady : Below (steady_at l.base l.evaluation l.m l.cs l.row) l.x;
}

abbrev pub decreases-loop-x : goal.decreases-loop-x
decreases-loop-x l = l.all - l.x
