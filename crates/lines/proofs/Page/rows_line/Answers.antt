use Rattle.lines.specs.Lines.{rows_line}
use Rattle.lines.proofs.Pages.{then}
use Rattle.lines.proofs.Page.rows_line.Goals as goal

pub returns : goal.returns
unfolding rows_line
returns c = then c.text.ensures (then c.numbers.ensures c.feed.ensures)
