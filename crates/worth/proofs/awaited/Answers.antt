use Rattle.worth.proofs.Places.{next_after, next_placed}
use Rattle.worth.proofs.Falling.{sought_none, sought_next, sought_more, sought_end}
use native.Mathlib.Omega.{arith}
use Rattle.worth.proofs.awaited.Goals as goal

pub loop-at-init : goal.loop-at-init
loop-at-init c = record { falling = omega arith; inside = omega arith; size = c.add.ensures.size; sought = sought_none _ c.args.row _ _ (omega arith) c.add.ensures }

pub visit-low-requires : goal.visit-low-requires
visit-low-requires c =
    let i = c.loop-at.invariant in
    let n = next_after _ _ _ c.in-Some.ensures.1 in
    (omega (arith, n), (i.sought.small, i.size))

pub loop-at-smaller : goal.loop-at-smaller
loop-at-smaller c = let n = next_after _ _ _ c.in-Some.ensures.1 in omega (arith, n)

pub loop-at-preserved : goal.loop-at-preserved
loop-at-preserved c =
    let i = c.loop-at.invariant in
    let s = c.in-Some.ensures in
    let v = c.visit-low.ensures in
    let n = next_after _ _ _ s.1 in
    record {
      falling = omega (arith, n);
      inside = omega (arith, s.0);
      size = v.1.size;
      sought = rw v.0 (sought_more _ _ _ _ _ _ s.0 (next_placed _ _ _ i.inside s.1 s.0) (sought_next _ _ _ _ _ _ _ i.inside s.1 i.sought) _ v.1);
    }

pub returns : goal.returns
returns c = let i = c.loop-at.invariant in sought_end _ _ _ _ _ (sought_next _ _ _ _ _ _ 256 i.inside c.in_default.ensures i.sought)
