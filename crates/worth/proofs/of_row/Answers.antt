use Rattle.worth.proofs.Values.{worth_0, worth_1, worth_2}
use native.Mathlib.Omega.{arith}
use mathlib.Core.Path.{sym, ◌∙◌}
use Rattle.worth.proofs.of_row.Goals as goal

pub returns-in-0 : goal.returns-in-0
returns-in-0 c = rw c.awaited.ensures (worth_0 _ _ (sym c.value_in.ensures ∙ c.in-0.is))

pub returns-in-1 : goal.returns-in-1
returns-in-1 c = worth_1 _ _ (sym c.value_in.ensures ∙ c.in-1.is)

pub returns-in_default : goal.returns-in_default
returns-in_default c = let e = c.value_in.ensures in worth_2 _ _ (λ z. omega (arith, e, z)) (λ z. omega (arith, e, z))
