-- Link values from bytes, and a table of the values of condition rows.
use Rattle.std.specs.Prelude.{ℕ, ◌*◌, ◌/◌, ◌%◌, ◌^◌, ◌<◌, ◌≡◌, cond, List, ltb, get_or, length}
use Rattle.laws.specs.Up.{below}
use Rattle.calculus.specs.Status.{Unset, Links}
use Rattle.conditions.specs.Conditions as conditions
use Rattle.conditions.specs.Numbers.{digit, undigit}
use Rattle.sheet.specs.Table.{eval_of}
use Rattle.evaluate.specs.declared.Evaluation.{Evaluation}
use Rattle.evaluate.specs.declared.Evaluation.TheVariants.{Strict, Lazy}

-- what the evaluations of the source name
unfoldable pub meant : Evaluation → conditions.Evaluation
meant Strict = conditions.Strict
meant Lazy = conditions.Lazy

-- one byte a link, 0 unset, 1 false, any other true; a link from 64 on is unset
unfoldable pub links_in : List ℕ → Links
links_in s l = cond (ltb l 64) (undigit (get_or s l 0)) Unset

-- the two bits of a byte at one of its four places, the lowest at place 0
abbrev pub bits_at : ℕ → ℕ → ℕ
bits_at byte i = byte / 2 ^ (i * 2) % 4

-- the value of a row, from the table: two bits a row, four rows a byte
unfoldable pub value_in : List ℕ → ℕ → ℕ
value_in vals row = bits_at (get_or vals (row / 4) 0) (row % 4)

-- of 256 rows the table holds the values of those below k, and FALSE elsewhere, as an operand that is not below its row reads
unfoldable pub Evaluated : ℕ → List ℕ → Links → ℕ → List ℕ → Type 0
Evaluated e cs v k vals = (length vals ≡ 64) × ((row : ℕ) → row < 256 → value_in vals row ≡ below 1 (λ j. digit (eval_of e cs j v)) k row)
