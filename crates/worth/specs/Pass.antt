-- What one row does in the pass over the rows that a condition reaches, and what is told of a JOIN row, from the table of values.
use Rattle.std.specs.Prelude.{ℕ, ◌+◌, ◌*◌, ◌≤◌, Bool, false, cond, not, ◌&&◌, List, eqb, ltb, get_or, length}
use Rattle.laws.specs.Tests.{or}
use Rattle.calculus.specs.Status.{Links}
use Rattle.conditions.specs.Conditions.{ConditionRow, FALSE, TRUE, LINK, OP, is_set}
use Rattle.conditions.specs.Numbers.{undigit}
use Rattle.evaluate.specs.Values.{links_in, value_in}
use Rattle.worth.specs.Worth.{awaited_at, worth_by, wait_byte}

-- the row is an operand of the condition row
unfoldable pub is_operand : ConditionRow → ℕ → Bool
is_operand FALSE r = false
is_operand TRUE r = false
is_operand (LINK l) r = false
is_operand (OP o a b) r = or (eqb r a) (eqb r b)

-- an unset link that is lower than the lowest so far takes its place
unfoldable pub lower_by : Links → ℕ → ℕ → ℕ
lower_by v l low = cond (ltb l low && not (is_set (v l))) l low

unfoldable pub lowered : ConditionRow → Links → ℕ → ℕ
lowered FALSE v low = low
lowered TRUE v low = low
lowered (LINK l) v low = lower_by v l low
lowered (OP o a b) v low = low

-- the condition row of a JOIN row, by its byte
abbrev pub condition_byte : List ℕ → ℕ → ℕ
condition_byte ts r = get_or ts (r * 4 + 1) 0

-- the byte that is told of a condition row, and of a JOIN row
unfoldable pub byte_at : List ℕ → List ℕ → List ℕ → ℕ → ℕ
byte_at cs links vals q = wait_byte (worth_by (undigit (value_in vals q)) (awaited_at cs q (links_in links)))

abbrev pub byte_of : List ℕ → List ℕ → List ℕ → List ℕ → ℕ → ℕ
byte_of ts cs links vals r = byte_at cs links vals (condition_byte ts r)

-- the row is lent, and its condition row is
abbrev pub RowLent : List ℕ → List ℕ → ℕ → Type 0
RowLent ts cs r = (r * 4 + 4 ≤ length ts) × (condition_byte ts r * 4 + 4 ≤ length cs)
