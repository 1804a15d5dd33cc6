use mathlib.Core.Path.{sym}
use lib.Seq.{length-take-le}
use Rattle.lines.proofs.Pages.{then, puts_as, links_none, links_some}
use Rattle.lines.proofs.Page.links_line.Goals as goal

pub returns-then-m-eq0 : goal.returns-then-m-eq0
returns-then-m-eq0 c = puts_as c.text.ensures (sym (links_none _ _ c.if-m-eq0.true))

pub slice_bounds-put_letters-end : goal.slice_bounds-put_letters-end
slice_bounds-put_letters-end c = sym (length-take-le _ _ c.requires)

pub returns : goal.returns
returns c = puts_as (then c.text-2.ensures (then c.put_letters.ensures c.feed.ensures)) (sym (links_some _ _ c.if-m-eq0.false))
