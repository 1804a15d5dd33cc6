use Rattle.reach.specs.Masks.{has_bit}
use Rattle.evaluate.specs.Values.{links_in}
use Rattle.scene.proofs.Setting.{Outs}
use Rattle.scene.proofs.outs.Given as goal

abbrev pub invariant-loop-l : goal.invariant-loop-l
invariant-loop-l l = Outs (links_in l.values) (has_bit l.mask) l.m l.n l.initial.out l.l l.next l.out
