use mathlib.Core.Path.{sym, ◌∙◌}
use Rattle.words.proofs.Filling.{worded_none, worded_hit, worded_miss, worded_few, worded_end}
use native.Mathlib.Omega.{arith}
use Rattle.words.proofs.words.Goals as goal
use Rattle.words.proofs.words.Goals.{then-reached, else-reached}

pub loop-l-init : goal.loop-l-init
loop-l-init c = (omega arith, worded_none _ _ _ _ _)

pub digit_word-requires : goal.digit_word-requires
digit_word-requires c = let l = c.loop-l in
    let s = c.requires in
    (s.0, (omega (arith, s.1.1.0, worded_few _ _ _ _ _ l.i l.l l.table l.invariant.1 c.loop-l-test.true (sym c.reached.ensures ∙ c.if-reached.true)), s.1.1.1))

pub loop-l-preserved : goal.loop-l-preserved
loop-l-preserved c =
    let l = c.loop-l in
    let i = l.invariant in
    elim c.if-reached.branch [
      | then-reached w ↦ rw (w.i-is, w.table-is) (omega arith, worded_hit _ _ _ _ _ l.i l.l l.table i.1 c.loop-l-test.true _ c.requires.1.0 (sym c.reached.ensures ∙ w.if-reached.true) w.digit_word.ensures)
      | else-reached w ↦ rw (w.i-is, w.table-is) (omega arith, worded_miss _ _ _ _ _ l.i l.l l.table i.1 c.loop-l-test.true (sym c.reached.ensures ∙ w.if-reached.false))
    ]

pub returns : goal.returns
returns c = let l = c.loop-l in
    worded_end _ _ _ _ _ l.i l.l l.table l.invariant.1 c.loop-l-test.false
