-- What the calls answer, for every input: the first check that fails, or what is asked for.
use Rattle.std.specs.Prelude.{ℕ, List, [], ◌∷◌, ◌++◌, Result, Ok, length, false}
use Rattle.laws.specs.Checks.{Check, checked}
use Rattle.laws.specs.Listed.{written}
use Rattle.sheet.specs.declared.Refusal.{Refusal}
use Rattle.sheet.specs.Table.{Table}
use Rattle.sheet.specs.Rules.{table_checks, no}
use Rattle.state.specs.declared.State.{State}
use Rattle.sheet.specs.Sheet.{room}
use Rattle.moves.specs.Steps.{Kind, listed_of, kind_at, start_of}
use Rattle.moves.specs.Standing.{joins_of, waiting_of, awaits_of}
use Rattle.moves.specs.Fits.{mode_check, fit_checks}
use Rattle.compacted.specs.Compacted.{compacted_sheet, restarted}
use Rattle.engine.specs.declared.Stepped.{Stepped}
use Rattle.engine.specs.ByValue.{taken_answer}
use Rattle.verdict.specs.declared.Verdict.{Verdict}
use Rattle.verdict.specs.Verdict.{verdict_of}
use Rattle.damage.specs.Damage.{shown_sheet, show_checks}
use Rattle.sheet_engine.specs.declared.Stands.{Stands}
use Rattle.sheet_engine.specs.declared.Stands.TheVariants.{Enabled, Finished, Waiting}
use Rattle.sheet_engine.specs.declared.Compacted.{Compacted}

-- the verdict: the table's checks, then pass or fail
unfoldable pub verdict_answer : Table → Result Verdict Refusal
verdict_answer t = checked no (Ok (verdict_of t)) (table_checks t)

-- starting: the table's checks, then 9
abbrev pub start_checks : Table → ℕ → List Check
start_checks t mode = table_checks t ++ (mode_check mode ∷ [])

unfoldable pub start_answer : Table → ℕ → Result State Refusal
start_answer t mode = checked no (Ok (start_of t mode)) (start_checks t mode)

-- Document 02, request 6: "the two questions are answered from them [...]; they take the state alone, and no check concerns them"
abbrev pub acts_left : State → ℕ
acts_left s = s.acts

abbrev pub links_unset : State → ℕ
links_unset s = s.unset

-- a call with a table and a state: the table's checks, 9, then 10 (a) to (e)
abbrev pub call_checks : Table → State → List Check
call_checks t s = table_checks t ++ (mode_check s.mode ∷ fit_checks t s)

-- listing: then 12
abbrev pub list_checks : Table → State → ℕ → List Check
list_checks t s lent = call_checks t s ++ (room (length (listed_of t s)) lent ∷ [])

unfoldable pub list_answer : Table → State → ℕ → Result ℕ Refusal
list_answer t s lent = checked no (Ok (length (listed_of t s))) (list_checks t s lent)

-- "listing leave[s] bytes past [its] output unchanged"; a refusal changes nothing
unfoldable pub list_buffer : Table → State → List ℕ → List ℕ
list_buffer t s lent = checked (λ number place. lent) (written (listed_of t s) lent) (list_checks t s (length lent))

-- Document 02, request 1: "With no step listed, a state is finished if no JOIN row is in front, and otherwise waiting." By the steps that are listed and the JOIN rows in front.
unfoldable pub standing_by : List ℕ → List ℕ → Stands
standing_by (r ∷ steps) joins = Enabled
standing_by [] [] = Finished
standing_by [] (j ∷ joins) = Waiting (length (j ∷ joins))

unfoldable pub standing_of : Table → State → Stands
standing_of t s = standing_by (listed_of t s) (joins_of t s)

-- the rows that it waits for, to a lent buffer: 12 as in listing
abbrev pub standing_checks : Table → State → ℕ → List Check
standing_checks t s lent = call_checks t s ++ (room (length (waiting_of t s)) lent ∷ [])

unfoldable pub standing_answer : Table → State → ℕ → Result Stands Refusal
standing_answer t s lent = checked no (Ok (standing_of t s)) (standing_checks t s lent)

unfoldable pub standing_buffer : Table → State → List ℕ → List ℕ
standing_buffer t s lent = checked (λ number place. lent) (written (waiting_of t s) lent) (standing_checks t s (length lent))

-- Document 02, request 5: for each of these rows, in their order, its link, or 255 where its condition is false
unfoldable pub waits_answer : Table → State → ℕ → Result ℕ Refusal
waits_answer t s lent = checked no (Ok (length (waiting_of t s))) (standing_checks t s lent)

unfoldable pub waits_buffer : Table → State → List ℕ → List ℕ
waits_buffer t s lent = checked (λ number place. lent) (written (awaits_of t s) lent) (standing_checks t s (length lent))

-- the step of a row: 11 is its kind where it has none
unfoldable pub kind_answer : Table → State → ℕ → Kind
kind_answer t s row = checked no (kind_at t s row) (call_checks t s)

-- "a state handed in by value comes back as it was"
abbrev pub not_taken : State → ℕ → ℕ → Stepped
not_taken s number place = record { answer = no number place; state = s }

unfoldable pub step_answer : Table → State → ℕ → Stepped
step_answer t s row = checked (not_taken s) (taken_answer t s row) (call_checks t s)

-- Document 02, request 8: "make the compacted sheet", its bytes to a lent buffer, "with it a state": 12 as in writing
abbrev pub compact_checks : Table → State → ℕ → List Check
compact_checks t s lent = call_checks t s ++ (room (length (compacted_sheet t s)) lent ∷ [])

abbrev pub not_compacted : State → ℕ → ℕ → Compacted
not_compacted s number place = record { answer = no number place; state = s }

abbrev pub was_compacted : Table → State → Compacted
was_compacted t s = record { answer = Ok (length (compacted_sheet t s)); state = restarted t s }

unfoldable pub compact_answer : Table → State → ℕ → Compacted
compact_answer t s lent = checked (not_compacted s) (was_compacted t s) (compact_checks t s lent)

unfoldable pub compact_buffer : Table → State → List ℕ → List ℕ
compact_buffer t s lent = checked (λ number place. lent) (written (compacted_sheet t s) lent) (compact_checks t s (length lent))

-- Document 02, request 9: "For a failing JOIN row build a small sheet", its bytes to a lent buffer: the table's checks, then 15 and 12
abbrev pub damage_checks : Table → ℕ → ℕ → List Check
damage_checks t row lent = table_checks t ++ show_checks t row lent

unfoldable pub damage_answer : Table → ℕ → ℕ → Result ℕ Refusal
damage_answer t row lent = checked no (Ok (length (shown_sheet t row))) (damage_checks t row lent)

unfoldable pub damage_buffer : Table → ℕ → List ℕ → List ℕ
damage_buffer t row lent = checked (λ number place. lent) (written (shown_sheet t row) lent) (damage_checks t row (length lent))
