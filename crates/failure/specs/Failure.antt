-- The failure of a condition row, as document 01 words it, and what is asked of a row whose failure is looked for.
use Rattle.std.specs.Prelude.{ℕ, ◌+◌, ◌*◌, ◌<◌, ◌≤◌, ◌≡◌, Bool, true, cond, List, length, Option, Some, None}
use Rattle.conditions.specs.Conditions.{condition, reached}
use Rattle.conditions.specs.Numbers.{links_of, assign}
use Rattle.conditions.specs.Failure.{offender, number, fails}
use Rattle.sheet.specs.Table.{condition_row_at, eval_of}
use Rattle.reach.specs.Masks.{mask_at}
use Rattle.failure.specs.declared.Failure.{Failure}

-- "the links of the condition in rising order"
abbrev pub links_at : ℕ → List ℕ → ℕ → List ℕ
links_at m cs row = links_of m (condition (condition_row_at cs) row)

module _ (e m : ℕ) (cs : List ℕ) (row : ℕ) where
  unfoldable pub fails_at : Bool
  fails_at = fails (eval_of e cs row) m (links_at m cs row)

  unfoldable pub number_at : ℕ
  number_at = number (eval_of e cs row) m (links_at m cs row)

  unfoldable pub link_at : ℕ
  link_at = offender (eval_of e cs row) m (assign (links_at m cs row) number_at)

  unfoldable pub failure_of : Option Failure
  failure_of = cond fails_at (Some (record { number = number_at; link = link_at })) None

-- the row is lent, its links are below m, at most 8, and those of the mask
pub record Narrow (m : ℕ) (cs : List ℕ) (row mask : ℕ) : Type 0 where
  pub lent : row * 4 + 4 ≤ length cs
  pub few_rows : row < 256
  pub few_links : m ≤ 64
  pub below_m : (l : ℕ) → reached (condition (condition_row_at cs) row) l ≡ true → l < m
  pub narrow : length (links_at m cs row) ≤ 8
  pub its_mask : mask ≡ mask_at cs row
