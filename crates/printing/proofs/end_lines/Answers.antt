use lib.ListN.{replicate}
use mathlib.Core.Path.{refl, sym}
use native.Mathlib.Omega.{arith}
use lib.Seq.{length-take-le}
use Rattle.lines.specs.Lines.{last_line}
use Rattle.lines.proofs.Pages.{then, puts_as}
use Rattle.printing.specs.Printed.{end_lines}
use Rattle.promises.proofs.Calls.{formed}
use Rattle.printing.proofs.Runs.{line_of, stand_unrefused, waited_lies, waited_part}
use Rattle.printing.proofs.end_lines.Goals as goal

pub links_line-requires : goal.links_line-requires
links_line-requires c = let g = c.requires in omega (arith, (formed g).few_links, g.sized.all_links)

pub slice_bounds-rows-end : goal.slice_bounds-rows-end
slice_bounds-rows-end c =
    waited_lies _ _ c.requires (replicate 256 0) refl _ c.standing.ensures.value.0 _ _ _ c.in-Ok-Waiting.is c.in-Ok-Waiting.field-0-is c.standing.ensures.value.1

pub slice_bounds-waited_line-end : goal.slice_bounds-waited_line-end
slice_bounds-waited_line-end c =
    sym (length-take-le _ _ (waited_lies _ _ c.requires (replicate 256 0) refl _ c.standing.ensures.value.0 _ _ _ c.in-Ok-Waiting.is c.in-Ok-Waiting.field-0-is c.standing.ensures.value.1))

pub waited_line-requires : goal.waited_line-requires
waited_line-requires c =
    let p = c.requires in
    (p, waited_part _ _ p (replicate 256 0) refl _ c.standing.ensures.value.0 _ _ _ c.in-Ok-Waiting.is c.in-Ok-Waiting.field-0-is c.standing.ensures.value.1)

pub returns-in-Ok-Enabled : goal.returns-in-Ok-Enabled
unfolding end_lines last_line
returns-in-Ok-Enabled c = then c.links_line.ensures (puts_as c.listed_line.ensures (line_of _ _ c.requires (replicate 256 0) refl _ c.standing.ensures.value.0 _ _ c.in-Ok-Enabled.is c.in-Ok-Enabled.field-0-is))

pub returns-in-Ok-Finished : goal.returns-in-Ok-Finished
unfolding end_lines last_line
returns-in-Ok-Finished c = then c.links_line.ensures (puts_as c.finished_line.ensures (line_of _ _ c.requires (replicate 256 0) refl _ c.standing.ensures.value.0 _ _ c.in-Ok-Finished.is c.in-Ok-Finished.field-0-is))

pub returns-in-Ok-Waiting : goal.returns-in-Ok-Waiting
unfolding end_lines last_line
returns-in-Ok-Waiting c =
    then c.links_line.ensures (puts_as c.waited_line.ensures (line_of _ _ c.requires (replicate 256 0) refl _ c.standing.ensures.value.0 _ _ c.in-Ok-Waiting.is c.in-Ok-Waiting.field-0-is))

pub returns-in-Err : goal.returns-in-Err
returns-in-Err c = absurd (stand_unrefused _ _ c.requires (replicate 256 0) refl _ c.standing.ensures.value.0 _ c.in-Err.is)
