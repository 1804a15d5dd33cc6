-- Document 02, request 6: what the answers of `acts_left` and `links_unset` have to be, and where 10 (e) stands.
use Rattle.std.specs.Prelude.{◌≡◌, List, [], ◌∷◌, ◌++◌}
use Rattle.laws.specs.Checks.{Check}
use Rattle.sheet.specs.Table.{Table}
use Rattle.sheet.specs.Rules.{table_checks}
use Rattle.state.specs.declared.State.{State}
use Rattle.moves.specs.Steps.{mode_of, marks_of, links_of, left_in, acts_of, unset_of}
use Rattle.moves.specs.Fits.{mode_check, marks_fit, links_fit, waits_fit, clear_fit}
use Rattle.sheet_engine.specs.Answers.{acts_left, links_unset}

-- "equal to the full counts": the ACT rows in the remainder, and the unset links among the sheet's m
pub record FullCounts (t : Table) (s : State) : Type 0 where
  pub acts : acts_left s ≡ acts_of (left_in t s)
  pub unset : links_unset s ≡ unset_of t.m (links_of s)

-- the checks of a table, 9, and 10 (a) to (d)
abbrev pub up_to_d : Table → State → List Check
up_to_d t s =
    table_checks t ++
    (mode_check s.mode ∷
    marks_fit t.terms t.n (mode_of s.mode) (marks_of s) ∷
    links_fit t.m s.links ∷
    waits_fit t.terms t.n (marks_of s) ∷
    clear_fit t.terms t.n (marks_of s) s.links ∷ [])
