use mathlib.Core.Path.{sym, ap}
use Rattle.lines.specs.Lines.{verdict_line}
use Rattle.lines.proofs.Pages.{puts_as}
use Rattle.lines.proofs.Page.verdict_line.Goals as goal

pub returns-in-Ok : goal.returns-in-Ok
returns-in-Ok c = puts_as c.given_line.ensures (ap verdict_line (sym c.in-Ok.is))

pub returns-in-Err : goal.returns-in-Err
unfolding verdict_line
returns-in-Err c = puts_as c.refused_line.ensures (ap verdict_line (sym c.in-Err.is))
