use mathlib.Core.Path.{sym}
use Rattle.lines.proofs.Pages.{puts_as, wait_false, wait_link}
use Rattle.lines.proofs.Page.link_waited.Goals as goal

pub returns-then-l-eq-NO_LINK : goal.returns-then-l-eq-NO_LINK
returns-then-l-eq-NO_LINK c = puts_as c.text.ensures (sym (wait_false _ c.if-l-eq-NO_LINK.true))

pub returns : goal.returns
returns c = puts_as c.number.ensures (sym (wait_link _ c.if-l-eq-NO_LINK.false))
