use Rattle.lines.proofs.Pages.{puts_as}
use Rattle.printing.proofs.Judging.{leading_cut, size_read, sheet_cut, input_goes}
use Rattle.printing.proofs.input_lines.Goals as goal

pub returns-then-length-lt3 : goal.returns-then-length-lt3
returns-then-length-lt3 c = puts_as c.refused_line.ensures (leading_cut _ c.if-length-lt3.true)

pub returns-then-length-size : goal.returns-then-length-size
returns-then-length-size c = puts_as c.refused_line-then-length-size.ensures (sheet_cut _ _ (size_read _ _ c.from_le_bytes-size.ensures) c.if-length-lt3.false c.if-length-size.true)

pub returns : goal.returns
returns c = puts_as c.sheet_lines.ensures (input_goes _ _ (size_read _ _ c.from_le_bytes-size.ensures) c.if-length-lt3.false c.if-length-size.false)
