use borrow.Author.Tests.{eq-eqb, ne_eqb}
use mathlib.Core.Path.{sym, ◌∙◌}
use native.Mathlib.Omega.{arith}
use Prim.Native.Nat.{◌<◌}
use Rattle.effects.proofs.Climbing.{decided_no, decided_plain, decided_right, decided_left, pick_branches, falsifies_same}
use Rattle.effects.proofs.decide_above.Goals as goal

pub returns-then-not-waiting_pick : goal.returns-then-not-waiting_pick
returns-then-not-waiting_pick c = decided_no _ _ _ _ _ _ c.requires.1.1.0 (sym (rw c.term_row-node.ensures at c.waiting_pick.ensures) ∙ c.if-not-waiting_pick.true)

pub returns-then-not-cleans : goal.returns-then-not-cleans
returns-then-not-cleans c =
    let node = c.term_row-node.ensures in
    decided_plain _ _ _ _ _ _ c.requires.1.1.0 _ _ (sym (rw node at c.waiting_pick.ensures) ∙ c.if-not-waiting_pick.false) (rw node at c.second-second.ensures) c.decide-next.ensures (falsifies_same _ ∙ (sym c.cleans.ensures ∙ c.if-not-cleans.true))

pub falsify_below-requires : goal.falsify_below-requires
falsify_below-requires c =
    let q = c.requires in
    let node = c.term_row-node.ensures in
    let h : c.args.p < c.args.n = omega arith in
    (q.0, rw (c.first.ensures, node) (pick_branches _ _ _ _ (q.0.1.1.kids _ h) (sym (rw node at c.waiting_pick.ensures) ∙ c.if-not-waiting_pick.false)).0)

pub returns-then-right : goal.returns-then-right
returns-then-right c =
    let node = c.term_row-node.ensures in
    c.falsify_below.ensures ∙
    decided_right _ _ _ _ _ _ c.requires.1.1.0 _ _ (sym (rw node at c.waiting_pick.ensures) ∙ c.if-not-waiting_pick.false) (rw node at c.second-second.ensures) c.decide-next.ensures (falsifies_same _ ∙ (sym c.cleans.ensures ∙ c.if-not-cleans.false)) (eq-eqb _ _ c.if-right.true) _ (rw node at c.first.ensures)

pub falsify_below-requires-2 : goal.falsify_below-requires-2
falsify_below-requires-2 c =
    let q = c.requires in
    let node = c.term_row-node.ensures in
    let h : c.args.p < c.args.n = omega arith in
    (q.0, rw (c.second-second.ensures, node) (pick_branches _ _ _ _ (q.0.1.1.kids _ h) (sym (rw node at c.waiting_pick.ensures) ∙ c.if-not-waiting_pick.false)).1)

pub returns : goal.returns
returns c =
    let node = c.term_row-node.ensures in
    c.falsify_below-2.ensures ∙
    decided_left _ _ _ _ _ _ c.requires.1.1.0 _ _ (sym (rw node at c.waiting_pick.ensures) ∙ c.if-not-waiting_pick.false) (rw node at c.second-second.ensures) c.decide-next.ensures (falsifies_same _ ∙ (sym c.cleans.ensures ∙ c.if-not-cleans.false)) (ne_eqb _ _ c.if-right.false)
