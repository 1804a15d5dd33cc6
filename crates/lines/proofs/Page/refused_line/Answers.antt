use Rattle.lines.specs.Lines.{refused_line}
use Rattle.lines.proofs.Pages.{then}
use Rattle.lines.proofs.Page.refused_line.Goals as goal

pub returns : goal.returns
unfolding refused_line
returns c = then c.text.ensures (then c.number.ensures (then c.number-2.ensures c.feed.ensures))
