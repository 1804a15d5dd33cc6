use Rattle.lines.specs.Lines.{named_line}
use Rattle.lines.proofs.Pages.{then}
use Rattle.lines.proofs.Page.named_line.Goals as goal

pub returns : goal.returns
unfolding named_line
returns c = then c.text.ensures (then c.number.ensures (then c.text-2.ensures (then c.numbers.ensures c.feed.ensures)))
