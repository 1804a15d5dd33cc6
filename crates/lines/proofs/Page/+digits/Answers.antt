use Rattle.lines.proofs.Pages.{then}
use Rattle.lines.proofs.Decimal.{decimal_one, decimal_more}
use Rattle.lines.proofs.Page.+digits.Goals as goal

pub returns-then-x-lt10 : goal.returns-then-x-lt10
returns-then-x-lt10 t c = rw (decimal_one _ c.if-x-lt10.true) c.put.ensures

pub returns : goal.returns
returns t c = rw (decimal_more _ c.if-x-lt10.false c.ranges.x.fits) (then c.digits.ensures c.put-2.ensures)
