use Prim.Native.Nat.{◌+◌, ◌-◌}
use mathlib.Core.Path.{◌≡◌, refl, ◌∙◌}
use native.Mathlib.Omega.{arith}
use Rattle.laying.proofs.Told.{tells_none, tells_down}
use Rattle.collect.proofs.Topped.{top_told}
use Rattle.collect.proofs.tops.Goals as goal

pub loop-row-init : goal.loop-row-init
loop-row-init c = tells_none _ _ _ refl

pub loop-row-preserved : goal.loop-row-preserved
loop-row-preserved c =
    let l = c.loop-row in
    let e : l.row - 1 + 1 ≡ l.row = omega arith in
    let g = rw (← e) at l.invariant in
    let top = rw c.term_row-node.ensures at c.top_of-top.ensures in
    tells_down _ (l.row - 1) _ _ l.table g (omega arith) (top ∙ top_told _ _ c.requires.1.1 _ (l.row - 1) l.table (omega arith) g)

pub returns : goal.returns
returns c = let e : c.loop-row.row ≡ 0 = omega arith in rw e at c.loop-row.invariant
