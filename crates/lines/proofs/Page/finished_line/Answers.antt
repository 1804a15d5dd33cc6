use Rattle.lines.specs.Lines.{finished_line}
use Rattle.lines.proofs.Page.finished_line.Goals as goal

pub returns : goal.returns
unfolding finished_line
returns c = c.text.ensures
