use Prim.Native.Nat.{◌+◌, ◌-◌}
use mathlib.Core.Path.{◌≡◌}
use native.Mathlib.Omega.{arith}
use Rattle.excerpt.proofs.Flagging.{flagging_none, flagging_hit, flagging_miss, flagging_all}
use Rattle.excerpt.proofs.reached_rows.Goals as goal

pub loop-row-init : goal.loop-row-init
loop-row-init c = flagging_none _ _ c.requires.1 (omega arith)

pub loop-row-preserved-then-flags-row-eq1 : goal.loop-row-preserved-then-flags-row-eq1
loop-row-preserved-then-flags-row-eq1 c =
    let l = c.loop-row in
    let e : l.row - 1 + 1 ≡ l.row = omega arith in
    rw c.flag_operands.ensures (flagging_hit c.args.cs.now c.args.c c.requires.1 (omega arith) (l.row - 1) l.flags (omega arith) (rw (← e) at l.invariant) c.if-flags-row-eq1.true)

pub loop-row-preserved : goal.loop-row-preserved
loop-row-preserved c =
    let l = c.loop-row in
    let e : l.row - 1 + 1 ≡ l.row = omega arith in
    flagging_miss _ _ c.requires.1 (omega arith) (l.row - 1) l.flags (omega arith) (rw (← e) at l.invariant) c.if-flags-row-eq1.false

pub returns : goal.returns
returns c = let l = c.loop-row in
    let e : l.row ≡ 0 = omega arith in
    flagging_all _ _ c.requires.1 (omega arith) l.flags (rw e at l.invariant)
