-- Document 02, request 5: "Where a condition is unset, evaluation also hands back the lowest unset link reached from it." The value of a condition row, with that link; its value part; and the byte that tells what a JOIN waits for.
use Rattle.std.specs.Prelude.{ℕ, List}
use Rattle.calculus.specs.Status.{Value, Unset, False, True, Links}
use Rattle.conditions.specs.Conditions.{condition}
use Rattle.conditions.specs.Awaited.{awaited}
use Rattle.sheet.specs.Table.{Table, condition_row_at, eval_of}
use Rattle.worth.specs.declared.Worth.{Worth}
use Rattle.worth.specs.declared.Worth.TheVariants as worth

-- the lowest unset link reached from a row; 64 where there is none
unfoldable pub awaited_at : List ℕ → ℕ → Links → ℕ
awaited_at cs row v = awaited 64 (condition (condition_row_at cs) row) v

-- a value, and the link where it is unset
abbrev pub worth_by : Value → ℕ → Worth
worth_by Unset l = worth.Unset l
worth_by False l = worth.False
worth_by True l = worth.True

-- the value part
abbrev pub value_of : Worth → Value
value_of (worth.Unset l) = Unset
value_of worth.False = False
value_of worth.True = True

-- what evaluation hands back
unfoldable pub worth_of : ℕ → List ℕ → ℕ → Links → Worth
worth_of e cs row v = worth_by (eval_of e cs row v) (awaited_at cs row v)

abbrev pub worth_in : Table → ℕ → Links → Worth
worth_in t = worth_of t.evaluation t.conditions

-- a JOIN waits for a link, or for none where its condition is false; one whose condition is true does not wait. Links are below 64
abbrev pub no_link : ℕ
no_link = 255

abbrev pub wait_byte : Worth → ℕ
wait_byte (worth.Unset l) = l
wait_byte worth.False = no_link
wait_byte worth.True = no_link
