use mathlib.Core.Path.{refl}
use Rattle.lines.proofs.Pages.{more_room, more_full}
use Rattle.lines.proofs.Page.put.Goals as goal

pub returns-then-at-self : goal.returns-then-at-self
returns-then-at-self c = record { same = refl; put = more_room _ _ _ c.if-at-self.true }

pub returns-else-at-self : goal.returns-else-at-self
returns-else-at-self c = record { same = refl; put = more_full _ _ _ c.if-at-self.false }
