use Rattle.judge.proofs.Counts.{children_few}
use native.Mathlib.Omega.{arith}
use mathlib.Core.Path.{◌≡◌, ◌∙◌}
use Rattle.sheet.specs.Table.{lent_table, row_at}
use Rattle.judge.proofs.Chain.{fails}
use Rattle.judge.proofs.Counts.{term_read, sound_stop}
use Rattle.judge.proofs.Pass.{none_passed, row_passed, row_misnamed, all_passed, rows_hold}
use Rattle.judge.proofs.judge_rows.Goals as goal

pub loop-i-init : goal.loop-i-init
loop-i-init c = none_passed (lent_table c.args.t.now) _ _ c.requires.1

pub bounds-named-i : goal.bounds-named-i
bounds-named-i c = omega (arith, c.requires.0.lent.few_terms)

pub judge_tree-requires : goal.judge_tree-requires
judge_tree-requires c = let l = c.loop-i in
    row_misnamed (lent_table c.args.t.now) _ c.requires.0 l.i l.named l.notes l.invariant c.loop-i-test.true c.if-times-ne1.true

pub returns-then-times-ne1 : goal.returns-then-times-ne1
returns-then-times-ne1 c = c.judge_tree.ensures

pub returns-then-not-term_row : goal.returns-then-not-term_row
returns-then-not-term_row c = let l = c.loop-i in
    let a = c.args in
    let ok = term_read a.t.now.terms.now a.t.now.head.m a.t.now.head.n a.t.now.head.k l.i c.term_row.result c.term_row.ensures in
    fails _ _ _ (sound_stop _ _ _ _ l.i l.invariant.sound c.loop-i-test.true (ok ∙ c.if-not-term_row.true)) c.loop-i-test.true

pub note_children-requires : goal.note_children-requires
note_children-requires c = let l = c.loop-i in
    (l.invariant.children.long, children_few _ l.i _ (omega (arith, c.requires.0.lent.few_terms)) l.invariant.children)

pub loop-i-preserved : goal.loop-i-preserved
unfolding row_at
loop-i-preserved c = let l = c.loop-i in
    let a = c.args in
    let ok = term_read a.t.now.terms.now a.t.now.head.m a.t.now.head.n a.t.now.head.k l.i c.term_row.result c.term_row.ensures in
    rw c.note_links-notes.ensures (row_passed (lent_table a.t.now) _ c.requires.0 l.i l.named l.notes l.invariant c.loop-i-test.true c.if-times-ne1.false (ok ∙ c.if-not-term_row.false) _ c.note_children.ensures)

pub judge_sources-requires : goal.judge_sources-requires
judge_sources-requires c = let l = c.loop-i in
    let a = c.args in
    let e : l.i ≡ a.t.now.head.n = omega arith in
    all_passed (lent_table a.t.now) _ l.named l.notes (rw e at l.invariant) c.requires.0

pub returns : goal.returns
returns c = let l = c.loop-i in
    let a = c.args in
    let e : l.i ≡ a.t.now.head.n = omega arith in
    c.judge_sources.ensures ∙ rows_hold (lent_table a.t.now) _ l.named l.notes (rw e at l.invariant)
