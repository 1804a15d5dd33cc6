use Rattle.lines.specs.Lines.{field}
use Rattle.lines.proofs.Pages.{then}
use Rattle.lines.proofs.Page.number.Goals as goal

pub returns : goal.returns
unfolding field
returns c = then c.put.ensures c.digits.ensures
