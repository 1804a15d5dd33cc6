use mathlib.Core.Path.{sym, ◌∙◌, ap}
use Rattle.std.specs.Prelude.{Err}
use borrow.Author.Tests.{eq-eqb, ne_eqb}
use native.Mathlib.Omega.{arith}
use Rattle.engine.proofs.Known.{from_none, from_unseen, from_passed, from_front}
use Rattle.engine.proofs.kind_from.Goals as goal

pub returns-then-n-row : goal.returns-then-n-row
returns-then-n-row c = ap Err c.no_step-none.ensures ∙ from_none _ _ _ _ _ _ _ c.if-n-row.true

pub returns-then-reached-row-ne1 : goal.returns-then-reached-row-ne1
returns-then-reached-row-ne1 c = ap Err c.no_step-none.ensures ∙ from_unseen _ _ _ _ _ _ _ (ne_eqb _ 1 c.if-reached-row-ne1.true)

pub returns-then-not-waiting_step : goal.returns-then-not-waiting_step
returns-then-not-waiting_step c = ap Err c.no_step-none.ensures ∙ from_passed _ _ _ _ _ _ _ (sym c.waiting_step.ensures ∙ c.if-not-waiting_step.true)

pub returns : goal.returns
returns c = c.row_kind.ensures ∙ from_front _ _ _ _ _ _ _ (omega arith) (eq-eqb _ 1 c.if-reached-row-ne1.false) (sym c.waiting_step.ensures ∙ c.if-not-waiting_step.false)
