use mathlib.Core.Path.{◌∙◌, ap}
use mathlib.Core.Logic.{⊎_elim}
use Rattle.conditions.specs.Numbers.{digit}
use Rattle.evaluate.proofs.Tables.{unset_left, unset_right, both_set}
use Rattle.evaluate.proofs.strictly.Goals as goal

pub returns-then-r-eq0 : goal.returns-then-r-eq0
returns-then-r-eq0 c = ⊎_elim (unset_left _ _ _) (λ e. unset_right _ _ _ e.1) c.if-r-eq0.either

pub returns-else-r-eq0 : goal.returns-else-r-eq0
returns-else-r-eq0 c = c.by_table.ensures ∙ ap digit (both_set _ _ _ c.if-r-eq0.false.0 c.if-r-eq0.false.1)
