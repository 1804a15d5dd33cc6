use mathlib.Core.Path.{◌≡◌, refl}
use Rattle.worth.proofs.Places.{clear_none, clear_word, next_here, next_none}
use native.Mathlib.Omega.{arith}
use Rattle.worth.proofs.next.Goals as goal

pub loop-word-init : goal.loop-word-init
loop-word-init c = clear_none _ _

pub returns-in-Some : goal.returns-in-Some
returns-in-Some c =
    let l = c.loop-word in
    let b = rw c.saturating_sub.ensures at c.in-Some.ensures in
    (omega arith, next_here _ _ l.word _ l.invariant b.1 c.loop-word-test.true b.0)

pub loop-word-preserved : goal.loop-word-preserved
loop-word-preserved c = let l = c.loop-word in clear_word _ _ l.word 64 l.invariant (rw c.saturating_sub.ensures at c.in_default.ensures) refl

pub returns : goal.returns
returns c = let l = c.loop-word in let e : l.word ≡ 4 = omega arith in next_none _ _ (rw e at l.invariant) c.requires
