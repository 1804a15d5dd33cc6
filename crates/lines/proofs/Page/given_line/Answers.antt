use Rattle.std.specs.Prelude.{Ok}
use mathlib.Core.Path.{sym, ap}
use Rattle.verdict.specs.declared.Verdict.{Verdict}
use Rattle.lines.specs.Lines.{verdict_line}
use Rattle.lines.proofs.Pages.{then, puts_as}
use Rattle.lines.proofs.Page.given_line.Goals as goal

pub returns-in-Pass : goal.returns-in-Pass
unfolding verdict_line
returns-in-Pass c = puts_as c.text.ensures (ap (λ (v : Verdict). verdict_line (Ok v)) (sym c.in-Pass.is))

pub returns-in-Fail : goal.returns-in-Fail
unfolding verdict_line
returns-in-Fail c = puts_as (then c.text-in-Fail.ensures (then c.number.ensures (then c.number-in-Fail.ensures (then c.number-in-Fail-2.ensures c.feed.ensures)))) (ap (λ (v : Verdict). verdict_line (Ok v)) (sym c.in-Fail.is))
