use native.Mathlib.Omega.{arith}
use borrow.Author.Tests.{eq-eqb, ne_eqb}
use Rattle.laying.proofs.Laid.{laid_none, laid_miss, laid_put, laid_all}
use Rattle.laying.proofs.lay.Goals as goal
use Rattle.laying.proofs.lay.Goals.{then-flags-i-eq1, else-flags-i-eq1}

pub loop-i-init : goal.loop-i-init
loop-i-init g c = (omega arith, λ bytes known. laid_none _ _ _ _)

pub put-requires : goal.put-requires
put-requires g c = (c.requires.four _ _ (omega arith) c.row-bytes.ensures, omega arith)

pub loop-i-preserved : goal.loop-i-preserved
loop-i-preserved g c =
    let l = c.loop-i in
    elim c.if-flags-i-eq1.branch [
      | then-flags-i-eq1 w ↦
          rw (w.count-is, w.out-is, w.put.ensures)
          (omega arith, λ bytes known. laid_put _ _ _ _ l.i l.count l.out (l.invariant.1 bytes known) _ (omega arith) (omega arith) (eq-eqb _ 1 w.if-flags-i-eq1.true) (known l.i _ (omega arith) w.row-bytes.ensures) (c.requires.four _ _ (omega arith) w.row-bytes.ensures))
      | else-flags-i-eq1 w ↦ rw (w.count-is, w.out-is) (omega arith, λ bytes known. laid_miss _ _ _ _ l.i l.count l.out (l.invariant.1 bytes known) (omega arith) (ne_eqb _ 1 w.if-flags-i-eq1.false))
    ]

pub returns : goal.returns
returns g c = let l = c.loop-i in λ bytes known. laid_all _ _ _ _ l.i _ _ (l.invariant.1 bytes known) (omega arith)
