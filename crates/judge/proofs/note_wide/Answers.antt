use Prim.Native.Nat.{ℕ}
use lib.Dec.{leb, ltb}
use lib.ListN.{length}
use mathlib.Core.Path.{◌≡◌, refl}
use mathlib.Core.Bool.{Bool, true, false, cond, ◌||◌}
use Rattle.laws.specs.Listed.{listed}
use Rattle.laws.proofs.Tests.{or_is}
use Rattle.reach.specs.Masks.{has_bit}
use Rattle.judge.specs.Judge.{wide_noted}
use Rattle.judge.proofs.note_wide.Goals as goal

-- either way, by what the test says
noted : (w join n row mask : ℕ) (b : Bool) → w ≡ length (listed (has_bit mask) 0 64) → (leb w 8 || ltb join n) ≡ b → cond b join row ≡ wide_noted join n row mask
unfolding wide_noted
noted w join n row mask b e test = rw (← e, ← or_is (leb w 8) (ltb join n), test) refl

pub returns-then-width-join : goal.returns-then-width-join
returns-then-width-join c = noted c.width.result _ _ _ _ true c.width.ensures c.if-width-join.true

pub returns : goal.returns
returns c = noted c.width.result _ _ _ _ false c.width.ensures c.if-width-join.false
