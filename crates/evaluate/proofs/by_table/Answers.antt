use mathlib.Core.Path.{refl}
use Rattle.conditions.specs.Operators.{AND, OR, EQ, NE, table}
use Rattle.conditions.specs.Numbers.{digit}
use Rattle.evaluate.specs.declared.TheConstants as numbers
use Rattle.rows.specs.Conditions.{operator_of}
use Rattle.evaluate.proofs.Tables.{table_at}
use Rattle.evaluate.proofs.by_table.Goals as goal

pub returns-in-And : goal.returns-in-And
unfolding operator_of table digit
returns-in-And c = rw c.in-And.is (table_at numbers.AND AND refl _ _ _ _ c.reading-x.ensures.0 c.reading-y.ensures.0)

pub returns-in-Or : goal.returns-in-Or
unfolding operator_of table digit
returns-in-Or c = rw c.in-Or.is (table_at numbers.OR OR refl _ _ _ _ c.reading-x.ensures.0 c.reading-y.ensures.0)

pub returns-in-Eq : goal.returns-in-Eq
unfolding operator_of table digit
returns-in-Eq c = rw c.in-Eq.is (table_at numbers.EQ EQ refl _ _ _ _ c.reading-x.ensures.0 c.reading-y.ensures.0)

pub returns-in-Ne : goal.returns-in-Ne
unfolding operator_of table digit
returns-in-Ne c = rw c.in-Ne.is (table_at numbers.NE NE refl _ _ _ _ c.reading-x.ensures.0 c.reading-y.ensures.0)
