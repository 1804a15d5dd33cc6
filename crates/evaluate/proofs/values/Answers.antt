use mathlib.Core.Path.{◌≡◌, ◌∙◌, ap}
use Rattle.conditions.specs.Numbers.{digit}
use Rattle.conditions.proofs.Numbers.{digit_small}
use Rattle.evaluate.proofs.Rows.{evaluated_none, evaluated_long, evaluated_next, found, evaluated_more}
use native.Mathlib.Omega.{arith}
use Rattle.evaluate.proofs.values.Goals as goal

pub loop-i-init : goal.loop-i-init
loop-i-init c = evaluated_none _ _ _

pub put-requires : goal.put-requires
put-requires c = let l = c.loop-i in
    (evaluated_long _ _ _ _ _ l.invariant, (omega arith, (evaluated_next _ _ _ _ _ l.invariant (omega arith), omega (arith, c.value_by-v.ensures, digit_small))))

pub loop-i-preserved : goal.loop-i-preserved
loop-i-preserved c = let l = c.loop-i in
    let p = c.put.ensures in
    evaluated_more _ _ _ l.i l.vals l.invariant c.put.new.vals p.0 p.1.0 (p.1.1 ∙ ((rw c.of-meant.ensures at c.value_by-v.ensures) ∙ ap digit (found _ _ _ _ _ l.invariant (c.type_inv.cs _).fits (c.type_inv.cs _).fits)))

pub returns : goal.returns
returns c = let e : c.loop-i.i ≡ c.args.k = omega arith in
    rw e at c.loop-i.invariant
