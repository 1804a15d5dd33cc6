use native.Mathlib.Omega.{arith}
use mathlib.Core.Path.{◌≡◌, ◌∙◌}
use Rattle.laws.proofs.Checks.{place_end}
use Rattle.judge.proofs.Counts.{term_read, sound_more, sound_stop, sound_holds}
use Rattle.judge.proofs.bad_term.Goals as goal

pub loop-i-init : goal.loop-i-init
loop-i-init c = c.requires.1.1

pub returns-then-not-term_row : goal.returns-then-not-term_row
returns-then-not-term_row c = let l = c.loop-i in
    let a = c.args in
    let ok = term_read a.ts.now a.m a.n a.k l.i c.term_row.result c.term_row.ensures in
    sound_stop _ _ _ _ l.i l.invariant c.loop-i-test.true (ok ∙ c.if-not-term_row.true)

pub loop-i-preserved : goal.loop-i-preserved
loop-i-preserved c = let l = c.loop-i in
    let a = c.args in
    let ok = term_read a.ts.now a.m a.n a.k l.i c.term_row.result c.term_row.ensures in
    sound_more _ _ _ _ l.i l.invariant (ok ∙ c.if-not-term_row.false)

pub returns : goal.returns
returns c = let a = c.args in
    let e : c.loop-i.i ≡ a.n = omega arith in
    place_end _ (omega arith) (sound_holds a.m a.n a.k a.ts.now (rw e at c.loop-i.invariant))
