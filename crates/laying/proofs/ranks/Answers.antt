use mathlib.Core.Path.{◌≡◌, refl, sym}
use native.Mathlib.Omega.{arith}
use Rattle.laws.proofs.Tests.{bit_small}
use Rattle.laws.proofs.Sums.{count_zero, count_more}
use Rattle.flags.specs.Flags.{flagged}
use Rattle.laying.proofs.Told.{tells_none, tells_up}
use Rattle.laying.proofs.ranks.Goals as goal

pub loop-i-init : goal.loop-i-init
loop-i-init c = (omega arith, (tells_none _ _ _ refl, sym (count_zero _)))

pub loop-i-preserved : goal.loop-i-preserved
loop-i-preserved c =
    let l = c.loop-i in
    let p = flagged c.args.flags.now in
    (omega (arith, bit_small (p l.i)), (tells_up _ _ l.i l.found l.table l.invariant.1.0 (omega arith) l.invariant.1.1, rw l.invariant.1.1 (sym (count_more p l.i))))

pub returns : goal.returns
returns c = let e : c.loop-i.i ≡ c.args.n = omega arith in rw e at c.loop-i.invariant.1.0
