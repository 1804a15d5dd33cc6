use mathlib.Core.Path.{◌≡◌}
use Rattle.laws.specs.Listed.{listed}
use Rattle.laws.proofs.Listed.{left}
use Rattle.reach.specs.Masks.{has_bit}
use Rattle.evaluate.specs.Values.{links_in}
use Rattle.damage.specs.Scene.{any_unset}
use Rattle.scene.proofs.any_unset.Given as goal

abbrev pub invariant-loop-l : goal.invariant-loop-l
invariant-loop-l l = any_unset (links_in l.values) (listed (has_bit l.mask) 0 l.m) ≡ any_unset (links_in l.values) (left (has_bit l.mask) l.m l.l)
