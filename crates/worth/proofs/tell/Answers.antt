use Prim.Native.Nat.{◌<◌}
use mathlib.Core.Path.{ap, ◌∙◌}
use lib.ListN.{length}
use Rattle.std.proofs.lemmas.List.{get_or-take, length-take}
use Rattle.worth.specs.Worth.{wait_byte}
use Rattle.worth.specs.Pass.{byte_at}
use Rattle.worth.proofs.Telling.{telling_more, telling_all, same_byte}
use native.Mathlib.Omega.{arith}
use Rattle.worth.proofs.tell.Goals as goal
use Rattle.worth.proofs.tell.Goals.{in-Some, in-None}

pub loop-i-preserved : goal.loop-i-preserved
unfolding byte_at
loop-i-preserved c =
    let l = c.loop-i in
    let t = l.invariant.1 in
    let inside : l.i < length l.out = omega (arith, t.long) in
    elim c.match-told_at.branch [
      | in-Some w ↦
          let s = w.in-Some.ensures in
          let early : w.in-Some.first < l.i = omega (arith, s.0, length-take l.i c.args.joins.now) in
          let there = get_or-take l.i c.args.joins.now w.in-Some.first 0 early in
          (ap length w.asked-is ∙ l.invariant.0, telling_more _ _ l.i _ l.out _ inside (w.out-is ∙ same_byte c.args.ts.now _ _ _ _ _ _ l.i _ _ t early (rw there at s.1) c.condition_byte-q.ensures) t)
      | in-None w ↦
          let e = w.byte.ensures ∙ (ap wait_byte w.of_row.ensures ∙ ap (byte_at _ _ _) c.condition_byte-q.ensures) in
          (ap length w.asked-is ∙ w.add.ensures.size, telling_more _ _ l.i _ l.out _ inside (w.out-is ∙ e) t)
    ]

pub returns : goal.returns
returns c = let l = c.loop-i in telling_all _ _ l.i _ _ (omega arith) c.requires.0 l.invariant.1
