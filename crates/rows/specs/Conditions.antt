-- What the condition rows and operators of the source name.
use Rattle.conditions.specs.Operators as operators
use Rattle.conditions.specs.Conditions as conditions
use Rattle.rows.specs.declared.condition.Operator.{Operator}
use Rattle.rows.specs.declared.condition.Operator.TheVariants.{And, Or, Eq, Ne}
use Rattle.rows.specs.declared.condition.ConditionRow.{ConditionRow}
use Rattle.rows.specs.declared.condition.ConditionRow.TheVariants.{False, True, Link, Operation}

unfoldable pub operator_of : Operator → operators.Operator
operator_of And = operators.AND
operator_of Or = operators.OR
operator_of Eq = operators.EQ
operator_of Ne = operators.NE

unfoldable pub row_of : ConditionRow → conditions.ConditionRow
row_of False = conditions.FALSE
row_of True = conditions.TRUE
row_of (Link l) = conditions.LINK l
row_of (Operation o a b) = conditions.OP (operator_of o) a b
