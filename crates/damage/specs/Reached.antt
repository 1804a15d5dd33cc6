-- Document 02, request 9, "only condition rows reached are kept": the rows that a condition row reaches, and a row whose operands have other numbers.
use Rattle.std.specs.Prelude.{ℕ, ◌<◌, Bool, false, List, eqb}
use Rattle.laws.specs.Tests.{or}
use Rattle.laws.specs.Up.{up}
use Rattle.conditions.specs.Conditions.{ConditionRow, FALSE, TRUE, LINK, OP}
use Rattle.sheet.specs.Table.{condition_row_at}

-- itself, and what its operands reach
unfoldable pub reaches_by : ℕ → ConditionRow → (ℕ → ℕ → Bool) → ℕ → Bool
reaches_by i FALSE R k = eqb k i
reaches_by i TRUE R k = eqb k i
reaches_by i (LINK l) R k = eqb k i
reaches_by i (OP o a b) R k = or (eqb k i) (or (R a k) (R b k))

unfoldable pub reaches_row : (ℕ → ConditionRow) → ℕ → ℕ → Bool
reaches_row rows = up (λ k. false) (λ i R. reaches_by i (rows i) R)

unfoldable pub renumbered_condition : (ℕ → ℕ) → ConditionRow → ConditionRow
renumbered_condition ρ FALSE = FALSE
renumbered_condition ρ TRUE = TRUE
renumbered_condition ρ (LINK l) = LINK l
renumbered_condition ρ (OP o a b) = OP o (ρ a) (ρ b)

-- "Operands have lower numbers than their row": of a row, and of the rows below k
unfoldable pub Lower : ℕ → ConditionRow → Type 0
Lower i FALSE = Unit {0}
Lower i TRUE = Unit {0}
Lower i (LINK l) = Unit {0}
Lower i (OP o a b) = (a < i) × (b < i)

abbrev pub LowerTo : List ℕ → ℕ → Type 0
LowerTo cs k = (i : ℕ) → i < k → Lower i (condition_row_at cs i)
