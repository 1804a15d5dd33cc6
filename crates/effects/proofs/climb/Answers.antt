use mathlib.Core.Path.{sym, ◌∙◌}
use Prim.Native.Nat.{◌≤◌, ◌<◌}
use native.Mathlib.Omega.{arith}
use Rattle.effects.proofs.Climbing.{climb_start, climb_hit, climb_miss, climb_end, names_parent}
use Rattle.effects.proofs.climb.Goals as goal

pub loop-p-init : goal.loop-p-init
loop-p-init c = climb_start _ _ c.requires.0.1.1 _ _ _ c.requires.1

pub decide_above-state-requires : goal.decide_above-state-requires
decide_above-state-requires c =
    let l = c.loop-p in
    let q = c.requires in
    let b : l.p ≤ l.at = l.invariant.below in
    let k : l.at < c.args.n = l.invariant.inside in
    (q.0, (k, (names_parent _ _ q.0.1.1 _ _ (omega arith) k (sym (rw c.term_row.ensures at c.names.ensures) ∙ c.if-names.true), omega arith)))

pub loop-p-preserved-then-names : goal.loop-p-preserved-then-names
loop-p-preserved-then-names c = let l = c.loop-p in climb_hit _ _ c.requires.0.1.1 _ _ _ _ _ _ _ (omega arith) l.invariant (sym (rw c.term_row.ensures at c.names.ensures) ∙ c.if-names.true) c.decide_above-state.ensures

pub loop-p-preserved : goal.loop-p-preserved
loop-p-preserved c = let l = c.loop-p in climb_miss _ _ c.requires.0.1.1 _ _ _ _ _ _ (omega arith) l.invariant (sym (rw c.term_row.ensures at c.names.ensures) ∙ c.if-names.false)

pub returns : goal.returns
returns c = let l = c.loop-p in sym (climb_end _ _ c.requires.0.1.1 _ _ _ _ _ _ (omega arith) l.invariant)
