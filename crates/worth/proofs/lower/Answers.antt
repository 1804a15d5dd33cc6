use mathlib.Core.Path.{sym}
use Rattle.worth.proofs.Falling.{lower_over, lower_unset, lower_set}
use Rattle.worth.proofs.lower.Goals as goal
use Rattle.worth.proofs.lower.Goals.{else-l-low-via-then-l-low+else-links-l-eq0, else-l-low-via-else-l-low}

pub returns-then-links-l-eq0 : goal.returns-then-links-l-eq0
returns-then-links-l-eq0 c = sym (lower_unset _ _ _ c.requires c.if-l-low.true c.if-links-l-eq0.true)

pub returns-else-l-low : goal.returns-else-l-low
returns-else-l-low c =
    elim c.else-l-low.branch [
      | else-l-low-via-then-l-low+else-links-l-eq0 w ↦ sym (lower_set _ _ _ c.requires w.if-l-low.true w.if-links-l-eq0.false)
      | else-l-low-via-else-l-low w ↦ sym (lower_over _ _ _ w.if-l-low.false)
    ]
