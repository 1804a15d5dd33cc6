use mathlib.Core.Path.{sym, ap, ◌∙◌}
use Rattle.steps.specs.InFront.{waiting_step}
use Rattle.rows.specs.Term.{row_of}
use Rattle.effects.proofs.Climbing.{gathers_waits, gathers_other, gathers_out}
use Rattle.effects.proofs.own_bit.Goals as goal

pub returns-then-waits : goal.returns-then-waits
returns-then-waits c = gathers_out _ _ _ _ _ _ (ap row_of c.in-Out.is) (sym c.waits.ensures ∙ c.if-waits.true) c.bit.ensures

pub returns-else-waits : goal.returns-else-waits
unfolding waiting_step
returns-else-waits c = gathers_waits _ _ (rw c.in-Out.is (sym c.waits.ensures ∙ c.if-waits.false))

pub returns-in_default : goal.returns-in_default
returns-in_default c = gathers_other _ _ c.in_default.not-Out
