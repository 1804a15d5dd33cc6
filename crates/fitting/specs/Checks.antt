-- The checks of a state against a table, 9 and 10, in order; `from_c` is the list from 10 (c) on.
use Rattle.std.specs.Prelude.{ℕ, List, [], ◌∷◌, Result, Ok, eqb}
use Rattle.laws.specs.Checks.{Check, checked}
use Rattle.steps.specs.Marks.{Marks}
use Rattle.sheet.specs.declared.Refusal.{Refusal}
use Rattle.sheet.specs.Rules.{no}
use Rattle.state.specs.declared.State.{State}
use Rattle.moves.specs.Steps.{mode_of, marks_of}
use Rattle.moves.specs.Fits.{mode_check, marks_fit, links_fit, waits_fit, clear_fit, counts_fit}

module _ (m n : ℕ) (ts : List ℕ) (s : State) where
  abbrev pub from_e : List Check
  from_e = counts_fit m ts n s ∷ []

  abbrev pub from_d : List Check
  from_d = clear_fit ts n (marks_of s) s.links ∷ from_e

  abbrev pub from_c : List Check
  from_c = waits_fit ts n (marks_of s) ∷ from_d

  abbrev pub from_b : List Check
  from_b = links_fit m s.links ∷ from_c

  abbrev pub from_a : List Check
  from_a = marks_fit ts n (mode_of s.mode) (marks_of s) ∷ from_b

  abbrev pub state_checks : List Check
  state_checks = mode_check s.mode ∷ from_a

  -- what is answered to a state: the first check that fails, or that none does
  abbrev pub fitted : Result (Unit {0}) Refusal
  fitted = checked no (Ok tt) state_checks

-- 10 (a) from row n on: "are 0 from row n on"
abbrev pub rest_fit : ℕ → Marks → Check
rest_fit n μ = record { number = 10; from = n; upto = 256; rule = λ k. eqb (μ k) 0 }

-- what one check answers
abbrev pub alone : Check → Result (Unit {0}) Refusal
alone c = checked no (Ok tt) (c ∷ [])
