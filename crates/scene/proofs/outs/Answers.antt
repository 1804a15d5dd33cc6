use mathlib.Core.Path.{refl, sym}
use native.Mathlib.Omega.{arith}
use lib.Dec.{ltb}
use lib.ListN.{get_or}
use Rattle.scene.proofs.Bytes.{link_unset, link_set}
use Rattle.scene.proofs.Setting.{outs_none, outs_skip, outs_room, outs_put, outs_all}
use Rattle.scene.proofs.outs.Goals as goal
use Rattle.scene.proofs.outs.Goals.{then-reached+then-value-ne0, else-reached, else-reached-via-then-reached+else-value-ne0, else-reached-via-else-reached}

pub loop-l-init : goal.loop-l-init
loop-l-init c = outs_none _ _ _ _ _

pub overflow_cast-row-then-value-ne0-2 : goal.overflow_cast-row-then-value-ne0-2
overflow_cast-row-then-value-ne0-2 c = omega (arith, outs_room _ _ _ _ _ _ _ _ c.loop-l.invariant (omega arith) (sym c.if-reached.ensures))

pub overflow_add-row : goal.overflow_add-row
overflow_add-row c = omega (arith, outs_room _ _ _ _ _ _ _ _ c.loop-l.invariant (omega arith) (sym c.if-reached.ensures))

pub overflow_mul-next : goal.overflow_mul-next
overflow_mul-next c = omega (arith, outs_room _ _ _ _ _ _ _ _ c.loop-l.invariant (omega arith) (sym c.if-reached.ensures))

pub put-requires : goal.put-requires
put-requires c = let l = c.loop-l in
    (refl, omega (arith, l.invariant.long, outs_room _ _ _ _ _ _ _ _ l.invariant (omega arith) (sym c.if-reached.ensures)))

pub loop-l-preserved : goal.loop-l-preserved
loop-l-preserved c =
    let l = c.loop-l in
    elim c.if-reached.branch [
      | then-reached+then-value-ne0 w ↦
          let yes = sym w.if-reached.ensures in
          let room = outs_room _ _ _ _ _ _ _ _ l.invariant (omega arith) yes in
          let up = ltb 1 (get_or c.args.values.now l.l 0) in
          rw (w.out-is, w.next-is, w.put.ensures) (outs_put _ _ _ _ _ l.l l.next l.out l.invariant up (omega arith) yes (link_set _ l.l (omega arith) w.if-value-ne0.true) (omega (arith, l.invariant.long, room)))
      | else-reached w ↦
          rw (w.out-is, w.next-is) (outs_skip _ _ _ _ _ l.l l.next l.out l.invariant (omega arith)
          (elim w.else-reached.branch [
            | else-reached-via-then-reached+else-value-ne0 w' ↦ λ t. link_unset _ l.l (omega arith) w'.if-value-ne0.false
            | else-reached-via-else-reached w' ↦ λ t. let e = w'.if-reached.ensures in cc
          ]))
    ]

pub shape_of-out : goal.shape_of-out
shape_of-out c = c.loop-l.invariant.long

pub returns : goal.returns
returns c = let l = c.loop-l in outs_all _ _ _ _ _ l.l l.next l.out l.invariant c.loop-l-test.false
