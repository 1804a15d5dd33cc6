-- Document 01, "Refusal numbers": "The checks run in the order of the numbers; a call skips those that do not concern it. The first failure is given, and only for its cause." What that says of an answer.
use Rattle.std.specs.Prelude.{ℕ, ◌<◌, ◌≤◌, ◌≡◌, true, false, List, ◌∷◌, ◌++◌, ◌⊎◌, length}
use Rattle.laws.specs.Checks.{Check, AllHold}
use Rattle.sheet.specs.Rules.{from3}
use Rattle.sheet.specs.Sheet.{sheet_size, contents, table_in}

-- the first check of a list that fails, and its lowest place
pub record FirstFails (checks : List Check) (number place : ℕ) : Type 0 where
  pub before : List Check
  pub check : Check
  pub after : List Check
  pub order : checks ≡ before ++ (check ∷ after)
  pub before_hold : AllHold before
  pub its_number : check.number ≡ number
  pub from : check.from ≤ place
  pub inside : place < check.upto
  pub breaks : check.rule place ≡ false
  pub lowest : (p : ℕ) → check.from ≤ p → p < place → check.rule p ≡ true

-- An answer to these checks: either all hold, and it is the good one, or one is the first that fails, and it is refused with that number and place.
abbrev pub Answered : {A : Type 0} → (ℕ → ℕ → A) → A → List Check → A → Type 0
Answered refused good checks answer =
    (AllHold checks × (answer ≡ good)) ⊎ ((number : ℕ) × (place : ℕ) × FirstFails checks number place × (answer ≡ refused number place))

-- the checks of a sheet: 1, 2, and those of the table of its parts from 3 on, for its parts have the sizes that 2 gives them
abbrev pub read_checks : List ℕ → List Check
read_checks s = sheet_size (length s) ∷ (contents s ∷ from3 (table_in s))
