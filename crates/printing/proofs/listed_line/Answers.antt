use lib.ListN.{replicate}
use mathlib.Core.Path.{refl, sym, ap}
use lib.Seq.{length-take-le}
use Rattle.lines.proofs.Pages.{puts_as}
use Rattle.lines.specs.Lines.{enabled_word, rows_line}
use Rattle.printing.proofs.Runs.{fetched_lies, fetched_part, fetched_unrefused, listed_fetched}
use Rattle.printing.proofs.listed_line.Goals as goal

pub slice_bounds-rows-end : goal.slice_bounds-rows-end
slice_bounds-rows-end c =
    fetched_lies (listed_fetched _ _ c.requires (replicate 256 0) refl _ _ c.list_steps.ensures.value) _ c.in-Ok.is

pub slice_bounds-enabled_line-end : goal.slice_bounds-enabled_line-end
slice_bounds-enabled_line-end c =
    sym (length-take-le _ _ (fetched_lies (listed_fetched _ _ c.requires (replicate 256 0) refl _ _ c.list_steps.ensures.value) _ c.in-Ok.is))

pub returns-in-Ok : goal.returns-in-Ok
returns-in-Ok c =
    let rows = fetched_part (listed_fetched _ _ c.requires (replicate 256 0) refl _ _ c.list_steps.ensures.value) _ c.in-Ok.is in
    puts_as c.enabled_line.ensures (ap (rows_line enabled_word) rows)

pub returns-in-Err : goal.returns-in-Err
returns-in-Err c =
    absurd (fetched_unrefused (listed_fetched _ _ c.requires (replicate 256 0) refl _ _ c.list_steps.ensures.value) _ c.in-Err.is)
