-- Document 02, request 3: "Refusals: 13, place the lowest JOIN row; it stands after 7 and before 8." What 13 says of a table.
use Rattle.std.specs.Prelude.{ℕ, ◌<◌, List, [], ◌∷◌, length}
use Rattle.laws.specs.Checks.{Check, AllHold}
use Rattle.sheet.specs.Table.{Table}
use Rattle.sheet.specs.Rules.{sizes, settings, conditions, terms, tree, one_source}
use Rattle.sheet.specs.Accepted.{UnsourcedJoin}

-- 1 and 3 to 7, of a table
abbrev pub up_to7 : Table → List Check
up_to7 t =
    sizes t.n t.k (length t.terms) (length t.conditions) ∷
    settings t.evaluation t.m ∷
    conditions t.m t.k t.conditions ∷
    terms t.m t.n t.k t.terms ∷
    tree t.n t.terms ∷
    one_source t.m t.n t.terms ∷ []

-- they hold, and this is the lowest of the JOIN rows whose condition reaches a link with no OUT row; a compacted sheet has none, by request 8
pub record Thirteen (t : Table) (place : ℕ) : Type 0 where
  pub earlier_hold : AllHold (up_to7 t)
  pub inside : place < t.n
  pub unsourced : UnsourcedJoin t place
  pub lowest : (j : ℕ) → j < place → UnsourcedJoin t j → ⊥
