-- What the passes over condition rows make: which are reached, and their bytes under new numbers.
use Rattle.std.specs.Prelude.{ℕ, ◌≡◌, List, get_or, set}
use Rattle.laws.specs.Listed.{listed}
use Rattle.conditions.specs.Conditions.{ConditionRow, FALSE, TRUE, LINK, OP}
use Rattle.sheet.specs.Table.{Table, condition_row_at}
use Rattle.layout.specs.Bytes.{condition_bytes, laid}
use Rattle.flags.specs.Flags.{flagged}
use Rattle.laying.specs.LaidIn.{LaidIn}
use Rattle.damage.specs.Reached.{renumbered_condition}
use Rattle.damage.specs.Damage.{rank, kept_conditions}

-- a table of flags, in which the operands of a row are flagged too
unfoldable pub with_operands : ConditionRow → List ℕ → List ℕ
with_operands FALSE t = t
with_operands TRUE t = t
with_operands (LINK l) t = t
with_operands (OP o a b) t = set (set t a 1) b 1

-- the bytes of a row, its operands under the numbers of a table
unfoldable pub new_bytes : ConditionRow → List ℕ → List ℕ
new_bytes N ranks = condition_bytes (renumbered_condition (λ j. get_or ranks j 0) N)

-- ... and of all that are flagged, in their old order
abbrev pub new_conditions : List ℕ → ℕ → List ℕ → List ℕ → List ℕ
new_conditions cs k flags ranks = laid (λ i. new_bytes (condition_row_at cs i) ranks) (listed (flagged flags) 0 k)

-- the condition rows that are kept of any table with these: what else it has is not asked
abbrev pub Excerpts : List ℕ → ℕ → ℕ → ℕ → List ℕ → Type 0
Excerpts cs k c count rows = (t : Table) → t.conditions ≡ cs → t.k ≡ k → LaidIn (rank t c k) (kept_conditions t c) count rows
