use mathlib.Core.Path.{refl}
use Rattle.lines.proofs.Pages.{puts_as}
use Rattle.printing.proofs.Judging.{sheet_goes, sheet_refused}
use Rattle.printing.proofs.sheet_lines.Goals as goal

pub returns-in-Ok : goal.returns-in-Ok
returns-in-Ok c = puts_as c.run_lines.ensures (sheet_goes _ _ _ _ c.read_sheet.ensures.value _ _ _ _ c.in-Ok.is c.terms_part-terms.ensures c.conditions_part-conditions.ensures refl)

pub returns-in-Err : goal.returns-in-Err
returns-in-Err c = puts_as c.refused_line.ensures (sheet_refused _ _ _ _ c.read_sheet.ensures.value _ c.in-Err.is)
