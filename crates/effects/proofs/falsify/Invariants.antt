use mathlib.Core.Path.{◌≡◌}
use Prim.Native.Nat.{◌-◌}
use Rattle.reach.specs.Masks.{has_bit}
use Rattle.moves.specs.Steps.{falsify_from}
use Rattle.effects.proofs.falsify.Given as goal

abbrev pub invariant-loop-l : goal.invariant-loop-l
invariant-loop-l l = falsify_from (has_bit l.word) 0 64 l.initial.state ≡ falsify_from (has_bit l.word) l.l (64 - l.l) l.state
