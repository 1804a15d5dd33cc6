-- What reading, handing on and writing answer, and what they leave in a lent buffer.
use Rattle.std.specs.Prelude.{ℕ, ◌*◌, ◌<◌, ◌≤◌, List, [], ◌∷◌, ◌++◌, Result, Ok, get_or, length}
use Rattle.laws.specs.Checks.{Check, Holds, checked}
use Rattle.laws.specs.Listed.{written}
use Rattle.sheet.specs.declared.Head.{Head}
use Rattle.sheet.specs.Table.{table_of}
use Rattle.sheet.specs.declared.Refusal.{Refusal}
use Rattle.sheet.specs.Rules.{table_checks, no}
use Rattle.sheet.specs.Sheet.{sheet_of, size_of, head_of, contents, sheet_checks, room}

-- no number of the lent bytes is more than a byte, as the checker knows of each that it is handed
abbrev pub Bytes : List ℕ → Type 0
Bytes s = (i : ℕ) → get_or s i 0 < 256

-- the head, or the first check that fails
unfoldable pub read_of : List ℕ → Result Head Refusal
read_of s = checked no (Ok (head_of s)) (sheet_checks s)

-- "a returned part is empty" on refusal
unfoldable pub part_of : List ℕ → List ℕ → List ℕ
part_of s body = checked (λ number place. []) body (sheet_checks s)

-- writing: the table's checks, then 12
abbrev pub write_checks : Head → List ℕ → List ℕ → ℕ → List Check
write_checks h ts cs lent = table_checks (table_of h ts cs) ++ (room (size_of h) lent ∷ [])

unfoldable pub write_of : Head → List ℕ → List ℕ → ℕ → Result ℕ Refusal
write_of h ts cs lent = checked no (Ok (size_of h)) (write_checks h ts cs lent)

-- "Writing ... leave[s] bytes past [its] output unchanged"; a refusal changes nothing
unfoldable pub written_of : Head → List ℕ → List ℕ → List ℕ → List ℕ
written_of h ts cs out = checked (λ number place. out) (written (sheet_of h ts cs) out) (write_checks h ts cs (length out))

-- 1 and 2 hold: the bodies lie in the bytes
pub record Framed (s : List ℕ) : Type 0 where
  pub long : 22 ≤ length s
  pub sound : Holds (contents s)

-- what laying a table out asks: m, n and k are not over their limits, and the rows are lent
pub record InRange (h : Head) (ts cs : List ℕ) : Type 0 where
  pub few_links : h.m ≤ 64
  pub few_terms : h.n ≤ 256
  pub few_conditions : h.k ≤ 256
  pub terms_lent : 4 * h.n ≤ length ts
  pub conditions_lent : 4 * h.k ≤ length cs
