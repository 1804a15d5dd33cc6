-- The links below 64 that a condition reaches, as the binary digits of a number.
use Rattle.std.specs.Prelude.{ℕ, ◌/◌, ◌%◌, ◌^◌, Bool, cond, not, ◌&&◌, List, eqb, ltb}
use Rattle.std.specs.Int.Bits.{bit_or}
use Rattle.laws.specs.Sums.{count}
use Rattle.conditions.specs.Conditions.{Condition, constant, link, op, ConditionRow, FALSE, TRUE, LINK, OP, condition}
use Rattle.sheet.specs.Table.{condition_row_at}

-- digit l of a number is set
unfoldable pub has_bit : ℕ → ℕ → Bool
has_bit x l = eqb ((x / 2 ^ l) % 2) 1

unfoldable pub link_bit : ℕ → ℕ
link_bit l = cond (ltb l 64) (2 ^ l) 0

unfoldable pub mask_of : Condition → ℕ
mask_of (constant b) = 0
mask_of (link l) = link_bit l
mask_of (op o a b) = bit_or (mask_of a) (mask_of b)

-- every link of a mask is in another
unfoldable pub within : ℕ → ℕ → Bool
within mask links = eqb (count (λ l. has_bit mask l && not (has_bit links l)) 64) 0

-- the mask of a condition row, from those of other rows
unfoldable pub mask_by : ConditionRow → (ℕ → ℕ) → ℕ
mask_by FALSE M = 0
mask_by TRUE M = 0
mask_by (LINK l) M = link_bit l
mask_by (OP o a b) M = bit_or (M a) (M b)

-- the mask of the condition at a row
abbrev pub mask_at : List ℕ → ℕ → ℕ
mask_at cs row = mask_of (condition (condition_row_at cs) row)
