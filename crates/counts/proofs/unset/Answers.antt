use Prim.Native.Nat.{◌≤◌}
use mathlib.Core.Path.{◌≡◌, sym, ◌∙◌, ap}
use mathlib.Core.Bool.{not}
use native.Mathlib.Omega.{arith}
use Rattle.laws.proofs.Tests.{bit_small}
use Rattle.laws.proofs.Sums.{count_zero, count_upto, count_more, count_same}
use Rattle.calculus.specs.Status.{Value}
use Rattle.conditions.specs.Conditions.{is_set}
use Rattle.moves.specs.Steps.{unset_of}
use Rattle.moves.proofs.Falsify.{links_in_law}
use Rattle.counts.proofs.unset.Goals as goal

pub loop-link-init : goal.loop-link-init
loop-link-init c = sym (count_zero _)

pub overflow_add-found : goal.overflow_add-found
overflow_add-found c = let l = c.loop-link in let few : l.found ≤ l.link = rw l.invariant (count_upto _ l.link) in omega (arith, few, bit_small c.unset_byte.result)

pub loop-link-preserved : goal.loop-link-preserved
loop-link-preserved c = let l = c.loop-link in rw (l.invariant, c.unset_byte.ensures) (sym (count_more _ l.link))

pub returns : goal.returns
unfolding unset_of
returns c = let e : c.loop-link.link ≡ c.args.m = omega arith in c.loop-link.invariant ∙ rw e (count_same _ _ _ (λ l h. ap (λ (v : Value). not (is_set v)) (sym (links_in_law _ l (omega arith)))))
