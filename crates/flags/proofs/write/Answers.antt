use native.Mathlib.Omega.{arith}
use borrow.Author.Tests.{eq-eqb, ne_eqb}
use Rattle.laws.proofs.Listed.{written_none, written_hit, written_miss, written_room, written_end}
use Rattle.flags.proofs.write.Goals as goal
use Rattle.flags.proofs.write.Goals.{then-flags-i-eq1, else-flags-i-eq1}

pub loop-i-init : goal.loop-i-init
loop-i-init c = written_none _ _ _

pub bounds-out-found : goal.bounds-out-found
bounds-out-found c = let l = c.loop-i in omega (arith, written_room _ _ l.i l.found l.out _ c.loop-i-test.true (eq-eqb _ 1 c.if-flags-i-eq1.true) l.invariant)

pub loop-i-preserved : goal.loop-i-preserved
loop-i-preserved c =
    let l = c.loop-i in
    elim c.if-flags-i-eq1.branch [
      | then-flags-i-eq1 w ↦ rw (w.found-is, w.out-is) (written_hit _ _ l.i l.found c.loop-i-test.true l.out _ l.invariant (eq-eqb _ 1 w.if-flags-i-eq1.true) (omega arith))
      | else-flags-i-eq1 w ↦ rw (w.found-is, w.out-is) (written_miss _ _ l.i l.found c.loop-i-test.true l.out _ l.invariant (ne_eqb _ 1 w.if-flags-i-eq1.false))
    ]

pub returns : goal.returns
returns c = written_end _ _ _ _ _ _ c.loop-i-test.false c.loop-i.invariant
