use lib.ListN.{replicate}
use mathlib.Core.Path.{refl, sym, ap₂}
use lib.Seq.{length-take-le}
use Rattle.lines.proofs.Pages.{puts_as}
use Rattle.lines.specs.Lines.{waiting_line}
use Rattle.printing.proofs.Runs.{fetched_lies, fetched_part, fetched_unrefused, waits_fetched, waits_matched}
use Rattle.printing.proofs.waited_line.Goals as goal

pub slice_bounds-links-end : goal.slice_bounds-links-end
slice_bounds-links-end c =
    fetched_lies (waits_fetched _ _ c.requires.0 (replicate 256 0) refl _ _ c.waits_for.ensures.value) _ c.in-Ok.is

pub slice_bounds-waiting_line-end : goal.slice_bounds-waiting_line-end
slice_bounds-waiting_line-end c =
    sym (length-take-le _ _ (fetched_lies (waits_fetched _ _ c.requires.0 (replicate 256 0) refl _ _ c.waits_for.ensures.value) _ c.in-Ok.is))

pub waiting_line-requires : goal.waiting_line-requires
waiting_line-requires c =
    let links = fetched_part (waits_fetched _ _ c.requires.0 (replicate 256 0) refl _ _ c.waits_for.ensures.value) _ c.in-Ok.is in
    waits_matched _ _ _ _ c.requires.1 links

pub returns-in-Ok : goal.returns-in-Ok
returns-in-Ok c =
    let links = fetched_part (waits_fetched _ _ c.requires.0 (replicate 256 0) refl _ _ c.waits_for.ensures.value) _ c.in-Ok.is in
    puts_as c.waiting_line.ensures (ap₂ waiting_line c.requires.1 links)

pub returns-in-Err : goal.returns-in-Err
returns-in-Err c =
    absurd (fetched_unrefused (waits_fetched _ _ c.requires.0 (replicate 256 0) refl _ _ c.waits_for.ensures.value) _ c.in-Err.is)
