-- Document 01, "Examples on each side": the cases marked P, and after document 02 how sheet X stands, what is left of it, what it is when compacted, what its damage sheet is, and the steps of sheet Y in two orders, as one table. A row is a sheet in bytes, what is asked of it, and what the calls answer.
use Rattle.moves.specs.Steps.{Kind}
use Rattle.std.specs.Prelude.{ℕ, ◌-◌, List, [], ◌∷◌, ◌++◌, Result, Ok, Err, take, replicate}
use Rattle.sheet.specs.declared.Head.{Head}
use Rattle.sheet.specs.declared.Refusal.{Refusal}
use Rattle.sheet.specs.Table.{Table, table_of}
use Rattle.sheet.specs.Rules.{no}
use Rattle.sheet.specs.Sheet.{sheet_of, terms_of, conditions_of}
use Rattle.codec.specs.Answers.{read_of, part_of}
use Rattle.state.specs.declared.State.{State}
use Rattle.state.specs.declared.StepKind.TheVariants.{Act, Set, Open, Clean}
use Rattle.moves.specs.Runs.{Taken}
use Rattle.verdict.specs.declared.Verdict as declared_verdict
use Rattle.verdict.specs.declared.Verdict.TheVariants.{Pass, Fail}
use Rattle.sheet_engine.specs.declared.Stands as declared_stands
use Rattle.sheet_engine.specs.declared.Stands.TheVariants.{Enabled, Finished, Waiting}
use Rattle.sheet_engine.specs.Answers.{verdict_answer, acts_left, links_unset, list_answer, standing_answer, step_answer, damage_answer}
use Rattle.promises.specs.Calls.{fresh_in, listed_steps, waiting_rows, awaited_bytes}
use Rattle.promises.specs.Compacted.{sheet_made, state_made}
use Rattle.promises.specs.Damage.{sheet_shown}

-- what is asked: the verdict; or what a caller sees who starts the sheet in a mode and takes the steps of some rows; or how the sheet stands then; or what is left; or what it is then, compacted; or the damage sheet of a row
pub data Question : Type 0 where
  verdict : Question
  after : (mode : ℕ) (rows : List ℕ) → Question
  standing : (mode : ℕ) (rows : List ℕ) → Question
  counts : (mode : ℕ) (rows : List ℕ) → Question
  compacting : (mode : ℕ) (rows : List ℕ) → Question
  damage : (row : ℕ) → Question

-- the answers of `take_step` on the way and of `list_steps`, the listed steps with their kinds, and the links of the sheet; or the answer of `standing`, with the rows waited for and, from `waits_for`, what each waits for; or the answers of `acts_left` and `links_unset`; or the sheet and the state that `compact` makes, of the state the links of the sheet and the two counts; or the answer of `damage_sheet`, with the sheet
pub data Answer : Type 0 where
  Verdict : Result declared_verdict.Verdict Refusal → Answer
  Seen : (took : List Kind) (answer : Result ℕ Refusal) (steps : List Taken) (links : List ℕ) → Answer
  Stands : (answer : Result declared_stands.Stands Refusal) (rows links : List ℕ) → Answer
  Counts : (acts unset : ℕ) → Answer
  Made : (sheet links : List ℕ) (acts unset : ℕ) → Answer
  Shown : (answer : Result ℕ Refusal) (sheet : List ℕ) → Answer

pub record Case : Type 0 where
  pub sheet : List ℕ
  pub question : Question
  pub answer : Answer

-- the table that `read_sheet` and the part calls hand out; of a refused sheet a table without rows, which every call refuses
abbrev pub table_from : Result Head Refusal → List ℕ → List ℕ → Table
table_from (Ok h) ts cs = table_of h ts cs
table_from (Err e) ts cs = table_of (record { evaluation = 0; m = 0; n = 0; k = 0 }) ts cs

unfoldable pub table_read : List ℕ → Table
table_read s = table_from (read_of s) (part_of s (terms_of s)) (part_of s (conditions_of s))

-- the answers of `take_step`, row after row, and the state after them
abbrev pub took_all : Table → State → List ℕ → List Kind
took_all t s [] = []
took_all t s (row ∷ rows) = (step_answer t s row).answer ∷ took_all t (step_answer t s row).state rows

abbrev pub state_after : Table → State → List ℕ → State
state_after t s [] = s
state_after t s (row ∷ rows) = state_after t (step_answer t s row).state rows

abbrev pub seen_in : Table → State → List Kind → Answer
seen_in t s took = Seen took (list_answer t s 256) (listed_steps t s) (take t.m s.links)

abbrev pub stands_in : Table → State → Answer
stands_in t s = Stands (standing_answer t s 256) (waiting_rows t s) (awaited_bytes t s)

abbrev pub counts_told : State → Answer
counts_told s = Counts (acts_left s) (links_unset s)

abbrev pub made_in : Table → State → Answer
made_in t s = let z : State = state_made t s (replicate 2066 0) in Made (sheet_made t s (replicate 2066 0)) (take t.m z.links) (acts_left z) (links_unset z)

unfoldable pub answer_to : Table → Question → Answer
answer_to t verdict = Verdict (verdict_answer t)
answer_to t (after mode rows) = seen_in t (state_after t (fresh_in t mode) rows) (took_all t (fresh_in t mode) rows)
answer_to t (standing mode rows) = stands_in t (state_after t (fresh_in t mode) rows)
answer_to t (counts mode rows) = counts_told (state_after t (fresh_in t mode) rows)
answer_to t (compacting mode rows) = made_in t (state_after t (fresh_in t mode) rows)
answer_to t (damage row) = Shown (damage_answer t row 2066) (sheet_shown t row (replicate 2066 0))

-- sheet X
abbrev pub X : List ℕ
X =
    0x03 ∷ 0x01 ∷ 0x10 ∷ 0x00 ∷ 0x02 ∷ 0x00 ∷ 0x02 ∷ 0x12 ∷ 0x00 ∷ 0x24 ∷ 0x00 ∷ 0x03 ∷ 0x36 ∷ 0x00 ∷ 0x0C ∷ 0x00 ∷ 0x01 ∷ 0x01 ∷
    0x05 ∷ 0x01 ∷ 0x06 ∷ 0x00 ∷ 0x04 ∷ 0x02 ∷ 0x04 ∷ 0x00 ∷ 0x01 ∷ 0x0A ∷ 0x03 ∷ 0x00 ∷ 0x00 ∷ 0x00 ∷ 0x00 ∷ 0x00 ∷ 0x02 ∷ 0x00 ∷ 0x01 ∷ 0x05 ∷ 0x00 ∷ 0x00 ∷ 0x00 ∷ 0x00 ∷ 0x03 ∷ 0x02 ∷ 0x07 ∷ 0x00 ∷ 0x01 ∷ 0x0C ∷ 0x08 ∷ 0x00 ∷ 0x00 ∷ 0x00 ∷ 0x00 ∷ 0x00 ∷
    0x00 ∷ 0x00 ∷ 0x00 ∷ 0x00 ∷ 0x02 ∷ 0x00 ∷ 0x00 ∷ 0x00 ∷ 0x05 ∷ 0x00 ∷ 0x01 ∷ 0x00 ∷ []

-- of sheet X so many rows, with these bytes, lazy and compacted, with the condition rows of X
abbrev pub compacted_x : ℕ → List ℕ → List ℕ
compacted_x n terms = sheet_of (record { evaluation = 3; m = 1; n = n; k = 3 }) terms (conditions_of X)

-- the damage sheet of X: 0 PICK of 1 ACT 1, 2 JOIN, 3 ACT 2, 4 NIL and 5 OUT 0 true, 6 NIL
abbrev pub damage_x : List ℕ
damage_x = sheet_of (record { evaluation = 1; m = 1; n = 7; k = 3 }) ((4 ∷ 1 ∷ 5 ∷ 0 ∷ []) ++ (1 ∷ 1 ∷ 2 ∷ 0 ∷ []) ++ (3 ∷ 2 ∷ 3 ∷ 0 ∷ []) ++ (1 ∷ 2 ∷ 4 ∷ 0 ∷ []) ++ (0 ∷ 0 ∷ 0 ∷ 0 ∷ []) ++ (2 ∷ 0 ∷ 1 ∷ 6 ∷ []) ++ (0 ∷ 0 ∷ 0 ∷ 0 ∷ [])) (conditions_of X)

-- sheet Y: 0 PICK of 1 FLOW and 6 OUT 1 true, 7 NIL; the FLOW of 2 ACT 10, 3 NIL and 4 OUT 0 true, 5 NIL
abbrev pub Y : List ℕ
Y = sheet_of (record { evaluation = 1; m = 2; n = 8; k = 0 }) ((4 ∷ 1 ∷ 6 ∷ 0 ∷ []) ++ (5 ∷ 2 ∷ 4 ∷ 0 ∷ []) ++ (1 ∷ 10 ∷ 3 ∷ 0 ∷ []) ++ (0 ∷ 0 ∷ 0 ∷ 0 ∷ []) ++ (2 ∷ 0 ∷ 1 ∷ 5 ∷ []) ++ (0 ∷ 0 ∷ 0 ∷ 0 ∷ []) ++ (2 ∷ 1 ∷ 1 ∷ 7 ∷ []) ++ (0 ∷ 0 ∷ 0 ∷ 0 ∷ [])) []

-- "In the cases on conditions, every link named has an OUT row": 0 OUT 0 true, 1 OUT 1 true, 2 JOIN on the last of k condition rows, 3 NIL; evaluation 0 strict, 1 lazy
abbrev pub join_on : (evaluation k : ℕ) → List ℕ → List ℕ
join_on evaluation k conditions = sheet_of (record { evaluation = evaluation; m = 2; n = 4; k = k }) ((2 ∷ 0 ∷ 1 ∷ 1 ∷ []) ++ (2 ∷ 1 ∷ 1 ∷ 2 ∷ []) ++ (3 ∷ (k - 1) ∷ 3 ∷ 0 ∷ []) ++ (0 ∷ 0 ∷ 0 ∷ 0 ∷ [])) conditions

abbrev pub FALSE : List ℕ
FALSE = 0 ∷ 0 ∷ 0 ∷ 0 ∷ []

abbrev pub TRUE : List ℕ
TRUE = 1 ∷ 0 ∷ 0 ∷ 0 ∷ []

abbrev pub LINK : ℕ → List ℕ
LINK l = 2 ∷ l ∷ 0 ∷ 0 ∷ []

abbrev pub OR : ℕ → ℕ → List ℕ
OR a b = 4 ∷ a ∷ b ∷ 0 ∷ []

abbrev pub EQ : ℕ → ℕ → List ℕ
EQ a b = 5 ∷ a ∷ b ∷ 0 ∷ []

abbrev pub NE : ℕ → ℕ → List ℕ
NE a b = 6 ∷ a ∷ b ∷ 0 ∷ []

-- a sheet of three links, lazy: 0 OUT 0 true, 1 OUT 1 true, 2 OUT 2 true, 3 JOIN on (link 0 = link 1) or link 2, which does not reach the condition row TRUE, 4 NIL
abbrev pub three_links : List ℕ
three_links = sheet_of (record { evaluation = 1; m = 3; n = 5; k = 6 }) ((2 ∷ 0 ∷ 1 ∷ 1 ∷ []) ++ (2 ∷ 1 ∷ 1 ∷ 2 ∷ []) ++ (2 ∷ 2 ∷ 1 ∷ 3 ∷ []) ++ (3 ∷ 5 ∷ 4 ∷ 0 ∷ []) ++ (0 ∷ 0 ∷ 0 ∷ 0 ∷ [])) (LINK 0 ++ TRUE ++ LINK 1 ++ LINK 2 ++ EQ 0 2 ++ OR 4 3)

-- its damage sheet: 0 FLOW of 1 OUT 1 false, 2 PICK and 9 JOIN on FALSE, 10 OUT 2 true, 11 NIL; the PICK of 3 ACT 1, 4 JOIN, 5 ACT 2, 6 NIL and 7 OUT 0 true, 8 NIL
abbrev pub damage_three : List ℕ
damage_three = sheet_of (record { evaluation = 1; m = 3; n = 12; k = 6 }) ((5 ∷ 1 ∷ 9 ∷ 0 ∷ []) ++ (2 ∷ 1 ∷ 0 ∷ 2 ∷ []) ++ (4 ∷ 3 ∷ 7 ∷ 0 ∷ []) ++ (1 ∷ 1 ∷ 4 ∷ 0 ∷ []) ++ (3 ∷ 4 ∷ 5 ∷ 0 ∷ []) ++ (1 ∷ 2 ∷ 6 ∷ 0 ∷ []) ++ (0 ∷ 0 ∷ 0 ∷ 0 ∷ []) ++ (2 ∷ 0 ∷ 1 ∷ 8 ∷ []) ++ (0 ∷ 0 ∷ 0 ∷ 0 ∷ []) ++ (3 ∷ 5 ∷ 10 ∷ 0 ∷ []) ++ (2 ∷ 2 ∷ 1 ∷ 11 ∷ []) ++ (0 ∷ 0 ∷ 0 ∷ 0 ∷ [])) (LINK 0 ++ LINK 1 ++ LINK 2 ++ EQ 0 1 ++ OR 3 2 ++ FALSE)

-- ... and that of a strict OR of links 0 and 1: 0 OUT 0 true, 1 PICK of 2 ACT 1, 3 JOIN, 4 ACT 2, 5 NIL and 6 OUT 1 true, 7 NIL
abbrev pub damage_or : List ℕ
damage_or = sheet_of (record { evaluation = 0; m = 2; n = 8; k = 3 }) ((2 ∷ 0 ∷ 1 ∷ 1 ∷ []) ++ (4 ∷ 2 ∷ 6 ∷ 0 ∷ []) ++ (1 ∷ 1 ∷ 3 ∷ 0 ∷ []) ++ (3 ∷ 2 ∷ 4 ∷ 0 ∷ []) ++ (1 ∷ 2 ∷ 5 ∷ 0 ∷ []) ++ (0 ∷ 0 ∷ 0 ∷ 0 ∷ []) ++ (2 ∷ 1 ∷ 1 ∷ 7 ∷ []) ++ (0 ∷ 0 ∷ 0 ∷ 0 ∷ [])) (LINK 0 ++ LINK 1 ++ OR 0 1)

-- ... that of (FALSE = link 0) or link 1, lazy: 0 FLOW of 1 PICK and 8 JOIN on FALSE, 9 OUT 1 true, 10 NIL; the PICK of 2 ACT 1, 3 JOIN, 4 ACT 2, 5 NIL and 6 OUT 0 true, 7 NIL
abbrev pub damage_false : List ℕ
damage_false = sheet_of (record { evaluation = 1; m = 2; n = 11; k = 6 }) ((5 ∷ 1 ∷ 8 ∷ 0 ∷ []) ++ (4 ∷ 2 ∷ 6 ∷ 0 ∷ []) ++ (1 ∷ 1 ∷ 3 ∷ 0 ∷ []) ++ (3 ∷ 4 ∷ 4 ∷ 0 ∷ []) ++ (1 ∷ 2 ∷ 5 ∷ 0 ∷ []) ++ (0 ∷ 0 ∷ 0 ∷ 0 ∷ []) ++ (2 ∷ 0 ∷ 1 ∷ 7 ∷ []) ++ (0 ∷ 0 ∷ 0 ∷ 0 ∷ []) ++ (3 ∷ 5 ∷ 9 ∷ 0 ∷ []) ++ (2 ∷ 1 ∷ 1 ∷ 10 ∷ []) ++ (0 ∷ 0 ∷ 0 ∷ 0 ∷ [])) (FALSE ++ LINK 0 ++ EQ 0 1 ++ LINK 1 ++ OR 2 3 ++ FALSE)

-- two JOINs that fail, strict: 0 OUT 0 true, 1 OUT 1 true, 2 JOIN if link 0 is false, 3 JOIN if link 1 is false, 4 NIL; and the damage sheet of row 3: 0 PICK of 1 ACT 1, 2 JOIN, 3 ACT 2, 4 NIL and 5 OUT 1 true, 6 NIL
abbrev pub two_joins : List ℕ
two_joins = sheet_of (record { evaluation = 0; m = 2; n = 5; k = 5 }) ((2 ∷ 0 ∷ 1 ∷ 1 ∷ []) ++ (2 ∷ 1 ∷ 1 ∷ 2 ∷ []) ++ (3 ∷ 2 ∷ 3 ∷ 0 ∷ []) ++ (3 ∷ 4 ∷ 4 ∷ 0 ∷ []) ++ (0 ∷ 0 ∷ 0 ∷ 0 ∷ [])) (FALSE ++ LINK 0 ++ EQ 0 1 ++ LINK 1 ++ EQ 0 3)

abbrev pub damage_second : List ℕ
damage_second = sheet_of (record { evaluation = 0; m = 2; n = 7; k = 3 }) ((4 ∷ 1 ∷ 5 ∷ 0 ∷ []) ++ (1 ∷ 1 ∷ 2 ∷ 0 ∷ []) ++ (3 ∷ 2 ∷ 3 ∷ 0 ∷ []) ++ (1 ∷ 2 ∷ 4 ∷ 0 ∷ []) ++ (0 ∷ 0 ∷ 0 ∷ 0 ∷ []) ++ (2 ∷ 1 ∷ 1 ∷ 6 ∷ []) ++ (0 ∷ 0 ∷ 0 ∷ 0 ∷ [])) (FALSE ++ LINK 1 ++ EQ 0 1)

-- a step with its kind
abbrev pub at : ℕ → Kind → Taken
at row kind = record { row = row; kind = kind }

abbrev pub of : List ℕ → Question → Answer → Case
of sheet question answer = record { sheet = sheet; question = question; answer = answer }

abbrev pub cases : List Case
cases =
    -- "X fresh lists 2, 4": in both modes
    of X (after 0 []) (Seen [] (Ok 2) (at 2 (Ok (Act 10)) ∷ at 4 (Ok (Set 0 1)) ∷ []) (0 ∷ [])) ∷
    of X (after 1 []) (Seen [] (Ok 2) (at 2 (Ok (Act 10)) ∷ at 4 (Ok (Set 0 1)) ∷ []) (0 ∷ [])) ∷
    -- "plain, after 2, nothing", "cleaning, after 2, row 6"
    of X (after 0 (2 ∷ [])) (Seen (Ok (Act 10) ∷ []) (Ok 0) [] (0 ∷ [])) ∷
    of X (after 1 (2 ∷ [])) (Seen (Ok (Act 10) ∷ []) (Ok 1) (at 6 (Ok Open) ∷ []) (1 ∷ [])) ∷
    -- "cleaning, X after 4: link 0 true, row 6 listed as clean", "plain, after 4: nothing"
    of X (after 1 (4 ∷ [])) (Seen (Ok (Set 0 1) ∷ []) (Ok 1) (at 6 (Ok Clean) ∷ []) (2 ∷ [])) ∷
    of X (after 0 (4 ∷ [])) (Seen (Ok (Set 0 1) ∷ []) (Ok 0) [] (2 ∷ [])) ∷
    -- document 02, requests 1 and 5: plain waits for row 6, after 2 for link 0, after 4 for none, since its condition is false
    of X (standing 0 []) (Stands (Ok Enabled) [] []) ∷
    of X (standing 0 (2 ∷ [])) (Stands (Ok (Waiting 1)) (6 ∷ []) (0 ∷ [])) ∷
    of X (standing 0 (4 ∷ [])) (Stands (Ok (Waiting 1)) (6 ∷ []) (255 ∷ [])) ∷
    of X (standing 1 (2 ∷ 6 ∷ 7 ∷ [])) (Stands (Ok Finished) [] []) ∷
    -- "cleaning may finish where plain waits": 4, and then the cleaning step 6
    of X (standing 1 (4 ∷ 6 ∷ [])) (Stands (Ok Finished) [] []) ∷
    -- request 6: the ACTs 10 and 12 are left, and link 0 is unset; the PICK takes a branch, with cleaning the link of the other becomes false, and the clean step takes ACT 12
    of X (counts 0 []) (Counts 2 1) ∷
    of X (counts 1 []) (Counts 2 1) ∷
    of X (counts 0 (2 ∷ [])) (Counts 1 1) ∷
    of X (counts 1 (2 ∷ [])) (Counts 1 0) ∷
    of X (counts 0 (4 ∷ [])) (Counts 1 0) ∷
    of X (counts 1 (4 ∷ [])) (Counts 1 0) ∷
    of X (counts 1 (4 ∷ 6 ∷ [])) (Counts 0 0) ∷
    of X (counts 1 (2 ∷ 6 ∷ 7 ∷ [])) (Counts 0 0) ∷
    -- request 7: rows 2 and 4 of Y lie on the two sides of the FLOW, and either may be taken first; each decides the PICK above, and link 1 becomes false. Across the PICK it is not so: after 6 neither is listed
    of Y (after 1 []) (Seen [] (Ok 3) (at 2 (Ok (Act 10)) ∷ at 4 (Ok (Set 0 1)) ∷ at 6 (Ok (Set 1 1)) ∷ []) (0 ∷ 0 ∷ [])) ∷
    of Y (after 1 (2 ∷ [])) (Seen (Ok (Act 10) ∷ []) (Ok 1) (at 4 (Ok (Set 0 1)) ∷ []) (0 ∷ 1 ∷ [])) ∷
    of Y (after 1 (4 ∷ [])) (Seen (Ok (Set 0 1) ∷ []) (Ok 1) (at 2 (Ok (Act 10)) ∷ []) (2 ∷ 1 ∷ [])) ∷
    of Y (after 1 (2 ∷ 4 ∷ [])) (Seen (Ok (Act 10) ∷ Ok (Set 0 1) ∷ []) (Ok 0) [] (2 ∷ 1 ∷ [])) ∷
    of Y (after 1 (4 ∷ 2 ∷ [])) (Seen (Ok (Set 0 1) ∷ Ok (Act 10) ∷ []) (Ok 0) [] (2 ∷ 1 ∷ [])) ∷
    of Y (after 1 (6 ∷ [])) (Seen (Ok (Set 1 1) ∷ []) (Ok 0) [] (1 ∷ 2 ∷ [])) ∷
    -- request 8: after 2, of the PICK nothing is left but NIL, and the JOIN reads link 0, whose OUT row is spent; after 4 and the clean step the JOIN is NIL, and its ACT 12 is gone; a sheet that nobody has run keeps its rows
    of X (compacting 1 (2 ∷ [])) (Made (compacted_x 5 ((5 ∷ 1 ∷ 2 ∷ 0 ∷ []) ++ (0 ∷ 0 ∷ 0 ∷ 0 ∷ []) ++ (3 ∷ 2 ∷ 3 ∷ 0 ∷ []) ++ (1 ∷ 12 ∷ 4 ∷ 0 ∷ []) ++ (0 ∷ 0 ∷ 0 ∷ 0 ∷ []))) (1 ∷ []) 1 0) ∷
    of X (compacting 1 (4 ∷ 6 ∷ [])) (Made (compacted_x 3 ((5 ∷ 1 ∷ 2 ∷ 0 ∷ []) ++ (0 ∷ 0 ∷ 0 ∷ 0 ∷ []) ++ (0 ∷ 0 ∷ 0 ∷ 0 ∷ []))) (2 ∷ []) 0 0) ∷
    of X (compacting 0 []) (Made (compacted_x 9 (terms_of X)) (0 ∷ []) 2 1) ∷
    -- request 9: row 6 of X fails, and has a damage sheet, on which cleaning does activities 1 and 2, and plain waits after 1; row 7 is no JOIN, and no row is 300
    of X (damage 6) (Shown (Ok 58) damage_x) ∷
    of damage_x (after 1 (1 ∷ 2 ∷ 3 ∷ [])) (Seen (Ok (Act 1) ∷ Ok Open ∷ Ok (Act 2) ∷ []) (Ok 0) [] (1 ∷ [])) ∷
    of damage_x (standing 0 (1 ∷ [])) (Stands (Ok (Waiting 1)) (2 ∷ []) (0 ∷ [])) ∷
    of X (damage 7) (Shown (no 15 7) []) ∷
    of X (damage 300) (Shown (no 15 300) []) ∷
    -- ... strict, number 5 has link 0 true and link 1 false; lazy, (link 0 = link 1) or link 2 fails at 4, where link 2 is unset, so that a FLOW stands at the root
    of (join_on 0 3 (LINK 0 ++ LINK 1 ++ OR 0 1)) (damage 2) (Shown (Ok 62) damage_or) ∷
    of three_links (damage 3) (Shown (Ok 90) damage_three) ∷
    -- ... a FALSE row that is there already is not shared; and of two JOINs that fail the verdict names row 2, and row 3 has a damage sheet of its own
    of (join_on 1 5 (FALSE ++ LINK 0 ++ EQ 0 1 ++ LINK 1 ++ OR 2 3)) (damage 2) (Shown (Ok 86) damage_false) ∷
    of two_joins verdict (Verdict (Ok (Fail 2 1 0))) ∷
    of two_joins (damage 3) (Shown (Ok 58) damage_second) ∷
    -- "lazy OR of links 0 and 1 passes", "strict, it fails with number 5, link 1"
    of (join_on 1 3 (LINK 0 ++ LINK 1 ++ OR 0 1)) verdict (Verdict (Ok Pass)) ∷
    of (join_on 0 3 (LINK 0 ++ LINK 1 ++ OR 0 1)) verdict (Verdict (Ok (Fail 2 5 1))) ∷
    -- "lazy EQ of links 0 and 1 fails with 4, link 0"
    of (join_on 1 3 (LINK 0 ++ LINK 1 ++ EQ 0 1)) verdict (Verdict (Ok (Fail 2 4 0))) ∷
    -- "NE of link 0 with itself passes"
    of (join_on 0 2 (LINK 0 ++ NE 0 0)) verdict (Verdict (Ok Pass)) ∷
    of (join_on 1 2 (LINK 0 ++ NE 0 0)) verdict (Verdict (Ok Pass)) ∷
    -- "EQ of TRUE and link 0 passes"
    of (join_on 0 3 (TRUE ++ LINK 0 ++ EQ 0 1)) verdict (Verdict (Ok Pass)) ∷
    of (join_on 1 3 (TRUE ++ LINK 0 ++ EQ 0 1)) verdict (Verdict (Ok Pass)) ∷
    -- "EQ of FALSE and link 0 fails with 1, link 0"
    of (join_on 0 3 (FALSE ++ LINK 0 ++ EQ 0 1)) verdict (Verdict (Ok (Fail 2 1 0))) ∷
    of (join_on 1 3 (FALSE ++ LINK 0 ++ EQ 0 1)) verdict (Verdict (Ok (Fail 2 1 0))) ∷
    []
