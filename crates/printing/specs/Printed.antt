-- Document 01, "The program": what is printed, for every input.
use Rattle.std.specs.Prelude.{cond, ◌&&◌, List, [], ◌∷◌, ◌++◌, ℕ, ◌+◌, leb, get_or, length, take, drop}
use Rattle.laws.specs.Checks.{Check, checked}
use Rattle.sheet.specs.Table.{Table}
use Rattle.sheet.specs.Sheet.{number_at, table_in, sheet_checks}
use Rattle.state.specs.declared.State.{State}
use Rattle.moves.specs.Steps.{kind_at, has_step, stepped_of, listed_of, start_of}
use Rattle.moves.specs.Standing.{waiting_of, awaits_of}
use Rattle.moves.specs.Fits.{mode_check}
use Rattle.sheet_engine.specs.Answers.{verdict_answer, standing_of}
use Rattle.lines.specs.Lines.{refused_line, verdict_line, step_line, links_line, last_line}

-- "Standard input: a mode byte, a sheet length (2 bytes), the sheet, then step rows, a byte each."
abbrev pub mode_in : List ℕ → ℕ
mode_in input = get_or input 0 0

abbrev pub size_in : List ℕ → ℕ
size_in input = number_at input 1

unfoldable pub sheet_in : List ℕ → List ℕ
sheet_in input = take (size_in input) (drop 3 input)

unfoldable pub rows_in : List ℕ → List ℕ
rows_in input = drop (3 + size_in input) input

-- "Input that ends before the sheet is complete, the three leading bytes included, is refusal 1, place 0."
abbrev pub complete : List ℕ → Check
complete input = record { number = 1; from = 0; upto = 1; rule = λ p. leb 3 (length input) && leb (3 + size_in input) (length input) }

-- ""links" with [...] m letters [...]"; then the last line, by how the state stands
unfoldable pub end_lines : Table → State → List ℕ
end_lines t s = links_line t.m s.links ++ last_line (standing_of t s) (listed_of t s) (waiting_of t s) (awaits_of t s)

-- "for each step "step", the row, and [...]; A refusal prints "refused", number and place, and ends."
unfoldable pub step_lines : Table → State → List ℕ → List ℕ
step_lines t s [] = end_lines t s
step_lines t s (r ∷ rs) = step_line r (kind_at t s r) ++ cond (has_step t s r) (step_lines t (stepped_of t s r) rs) []

-- "Output lines: "verdict pass", or "verdict fail" with row, number, link; for each step [...]"
unfoldable pub run_lines : Table → ℕ → List ℕ → List ℕ
run_lines t mode rows = verdict_line (verdict_answer t) ++ step_lines t (start_of t mode) rows

-- "Sheet and mode are judged before the first line is printed."
unfoldable pub sheet_lines : ℕ → List ℕ → List ℕ → List ℕ
sheet_lines mode sheet rows = checked refused_line (run_lines (table_in sheet) mode rows) (sheet_checks sheet ++ (mode_check mode ∷ []))

unfoldable pub printed : List ℕ → List ℕ
printed input = checked refused_line (sheet_lines (mode_in input) (sheet_in input) (rows_in input)) (complete input ∷ [])
