use Prim.Native.Nat.{ℕ}
use mathlib.Core.Path.{ap}
use mathlib.Core.List.{[], ◌∷◌}
use Rattle.lines.proofs.Pages.{none_put, more_put, end_put, puts_as, letters_next, letters_end}
use Rattle.lines.proofs.Page.put_letters.Goals as goal

pub loop-x-init : goal.loop-x-init
loop-x-init c = none_put _ _

pub loop-x-preserved : goal.loop-x-preserved
loop-x-preserved c = more_put c.loop-x.invariant (letters_next _ _ c.loop-x-test.true) (puts_as c.put.ensures (ap (λ (x : ℕ). x ∷ []) c.letter_of.ensures))

pub returns : goal.returns
returns c = end_put c.loop-x.invariant (letters_end _ _ c.loop-x-test.false)
