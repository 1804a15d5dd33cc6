use mathlib.Core.Path.{◌≡◌, refl, sym, ap, ◌∙◌}
use mathlib.Core.Bool.{false}
use mathlib.Core.Logic.{⊎_elim}
use Rattle.rows.specs.declared.condition.ConditionRow.TheVariants as named
use Rattle.rows.specs.Conditions.{row_of}
use Rattle.worth.specs.Pass.{is_operand, lowered}
use Rattle.worth.proofs.Places.{adds_none, adds_two}
use Rattle.worth.proofs.visit.Goals as goal

pub returns-in-False : goal.returns-in-False
unfolding row_of is_operand lowered
returns-in-False c =
    let none = adds_none (λ r. false) _ c.requires.1.1 (λ r. refl) in
    ⊎_elim
    (λ (e : c.condition_row.result ≡ named.False). rw (← (sym (ap row_of e) ∙ c.condition_row.ensures)) (refl, none))
    (λ (e : c.condition_row.result ≡ named.True). rw (← (sym (ap row_of e) ∙ c.condition_row.ensures)) (refl, none))
    c.in-False.is

pub returns-in-Link : goal.returns-in-Link
unfolding row_of is_operand lowered
returns-in-Link c = rw (← c.in-Link.ensures) (c.lower.ensures, adds_none _ _ c.requires.1.1 (λ r. refl))

pub returns-in-Operation : goal.returns-in-Operation
unfolding row_of is_operand lowered
returns-in-Operation c = rw (← c.in-Operation.ensures) (refl, adds_two _ _ _ _ _ c.add.ensures c.add-in-Operation.ensures)
