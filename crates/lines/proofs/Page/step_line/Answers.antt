use Rattle.std.specs.Prelude.{Ok}
use mathlib.Core.Path.{sym, ap}
use Rattle.state.specs.declared.StepKind.{StepKind}
use Rattle.lines.specs.Lines.{step_line}
use Rattle.lines.proofs.Pages.{puts_as}
use Rattle.lines.proofs.Page.step_line.Goals as goal

pub returns-in-Act : goal.returns-in-Act
unfolding step_line
returns-in-Act c = puts_as c.named_line.ensures (ap (λ (k : StepKind). step_line c.args.row (Ok k)) (sym c.in-Act.is))

pub returns-in-Set : goal.returns-in-Set
unfolding step_line
returns-in-Set c = puts_as c.named_line-in-Set.ensures (ap (λ (k : StepKind). step_line c.args.row (Ok k)) (sym c.in-Set.is))

pub returns-in-Open : goal.returns-in-Open
unfolding step_line
returns-in-Open c = puts_as c.named_line-in-Open.ensures (ap (λ (k : StepKind). step_line c.args.row (Ok k)) (sym c.in-Open.is))

pub returns-in-Clean : goal.returns-in-Clean
unfolding step_line
returns-in-Clean c = puts_as c.named_line-in-Clean.ensures (ap (λ (k : StepKind). step_line c.args.row (Ok k)) (sym c.in-Clean.is))
