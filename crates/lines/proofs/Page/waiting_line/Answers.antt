use Rattle.lines.specs.Lines.{waiting_line}
use Rattle.lines.proofs.Pages.{then}
use Rattle.lines.proofs.Page.waiting_line.Goals as goal

pub returns : goal.returns
unfolding waiting_line
returns c = then c.text.ensures (then c.rows_waiting.ensures c.feed.ensures)
