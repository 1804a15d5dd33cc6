-- Document 01, "The program": the lines, as bytes.
use Rattle.std.specs.Prelude.{Result, Ok, Err, cond, List, [], ◌∷◌, ◌++◌, ℕ, zero, suc, ◌+◌, ◌/◌, ◌%◌, eqb, ltb, take}
use Rattle.worth.specs.Worth.{no_link}
use Rattle.moves.specs.Steps.{Kind}
use Rattle.state.specs.declared.StepKind.TheVariants as kind
use Rattle.sheet.specs.declared.Refusal.{Refusal}
use Rattle.verdict.specs.declared.Verdict.{Verdict}
use Rattle.verdict.specs.declared.Verdict.TheVariants as verdict
use Rattle.sheet_engine.specs.declared.Stands.{Stands}
use Rattle.sheet_engine.specs.declared.Stands.TheVariants as standing

-- "Fields and row numbers are decimal": twenty digits hold every number of 64 bits
abbrev pub glyph : ℕ → ℕ
glyph d = 48 + d

unfoldable pub digits_by : ℕ → ℕ → List ℕ
digits_by zero x = []
digits_by (suc f) x = cond (ltb x 10) (glyph x ∷ []) (digits_by f (x / 10) ++ (glyph (x % 10) ∷ []))

unfoldable pub decimal : ℕ → List ℕ
decimal x = digits_by 20 x

-- "parted by one space; each line ends with a line feed"
unfoldable pub field : ℕ → List ℕ
field x = 32 ∷ decimal x

unfoldable pub fields : List ℕ → List ℕ
fields [] = []
fields (x ∷ xs) = field x ++ fields xs

abbrev pub feed : List ℕ
feed = 10 ∷ []

-- "A refusal prints "refused", number and place"
abbrev pub refused_word : List ℕ
refused_word = 114 ∷ (101 ∷ (102 ∷ (117 ∷ (115 ∷ (101 ∷ (100 ∷ []))))))

unfoldable pub refused_line : ℕ → ℕ → List ℕ
refused_line number place = refused_word ++ (field number ++ (field place ++ feed))

-- ""verdict pass", or "verdict fail" with row, number, link"
abbrev pub pass_words : List ℕ
pass_words = 118 ∷ (101 ∷ (114 ∷ (100 ∷ (105 ∷ (99 ∷ (116 ∷ (32 ∷ (112 ∷ (97 ∷ (115 ∷ (115 ∷ [])))))))))))

abbrev pub fail_words : List ℕ
fail_words = 118 ∷ (101 ∷ (114 ∷ (100 ∷ (105 ∷ (99 ∷ (116 ∷ (32 ∷ (102 ∷ (97 ∷ (105 ∷ (108 ∷ [])))))))))))

unfoldable pub verdict_line : Result Verdict Refusal → List ℕ
verdict_line (Ok verdict.Pass) = pass_words ++ feed
verdict_line (Ok (verdict.Fail row number link)) = fail_words ++ (field row ++ (field number ++ (field link ++ feed)))
verdict_line (Err e) = refused_line e.number e.place

-- "for each step "step", the row, and "act" with the activity, "set" with link and 0 or 1, "open" or "clean""
abbrev pub step_word : List ℕ
step_word = 115 ∷ (116 ∷ (101 ∷ (112 ∷ [])))

abbrev pub act_word : List ℕ
act_word = 32 ∷ (97 ∷ (99 ∷ (116 ∷ [])))

abbrev pub set_word : List ℕ
set_word = 32 ∷ (115 ∷ (101 ∷ (116 ∷ [])))

abbrev pub open_word : List ℕ
open_word = 32 ∷ (111 ∷ (112 ∷ (101 ∷ (110 ∷ []))))

abbrev pub clean_word : List ℕ
clean_word = 32 ∷ (99 ∷ (108 ∷ (101 ∷ (97 ∷ (110 ∷ [])))))

unfoldable pub named_line : ℕ → List ℕ → List ℕ → List ℕ
named_line row word values = step_word ++ (field row ++ (word ++ (fields values ++ feed)))

unfoldable pub step_line : ℕ → Kind → List ℕ
step_line row (Ok (kind.Act a)) = named_line row act_word (a ∷ [])
step_line row (Ok (kind.Set l v)) = named_line row set_word (l ∷ (v ∷ []))
step_line row (Ok kind.Open) = named_line row open_word []
step_line row (Ok kind.Clean) = named_line row clean_word []
step_line row (Err e) = refused_line e.number e.place

-- ""links" with, if m is not 0, one space and then m letters u, f or t, not parted"
abbrev pub links_word : List ℕ
links_word = 108 ∷ (105 ∷ (110 ∷ (107 ∷ (115 ∷ []))))

unfoldable pub letter : ℕ → ℕ
letter x = cond (eqb x 0) 117 (cond (eqb x 1) 102 116)

unfoldable pub letters : List ℕ → List ℕ
letters [] = []
letters (x ∷ xs) = letter x ∷ letters xs

unfoldable pub links_line : ℕ → List ℕ → List ℕ
links_line m values = links_word ++ (cond (eqb m 0) [] (32 ∷ letters (take m values)) ++ feed)

-- the words of the last line
abbrev pub enabled_word : List ℕ
enabled_word = 101 ∷ (110 ∷ (97 ∷ (98 ∷ (108 ∷ (101 ∷ (100 ∷ []))))))

abbrev pub waiting_word : List ℕ
waiting_word = 119 ∷ (97 ∷ (105 ∷ (116 ∷ (105 ∷ (110 ∷ (103 ∷ []))))))

abbrev pub finished_word : List ℕ
finished_word = 102 ∷ (105 ∷ (110 ∷ (105 ∷ (115 ∷ (104 ∷ (101 ∷ (100 ∷ [])))))))

-- a word, and rows
unfoldable pub rows_line : List ℕ → List ℕ → List ℕ
rows_line word rows = word ++ (fields rows ++ feed)

unfoldable pub finished_line : List ℕ
finished_line = finished_word ++ feed

-- Document 02, request 5: ""waiting" lines print each row followed by its link, or by "-" where the condition is false." The byte of the latter is `no_link`.
unfoldable pub wait_field : ℕ → List ℕ
wait_field l = cond (eqb l no_link) (32 ∷ (45 ∷ [])) (field l)

unfoldable pub wait_fields : List ℕ → List ℕ → List ℕ
wait_fields [] links = []
wait_fields (r ∷ rows) [] = []
wait_fields (r ∷ rows) (l ∷ links) = field r ++ (wait_field l ++ wait_fields rows links)

unfoldable pub waiting_line : List ℕ → List ℕ → List ℕ
waiting_line rows links = waiting_word ++ (wait_fields rows links ++ feed)

-- ""enabled" with the rows." Document 02, request 1: "The program prints "finished", or "waiting" with those rows in rising order." By how the state stands, the steps that are listed, the rows that it waits for and what each waits for.
unfoldable pub last_line : Stands → List ℕ → List ℕ → List ℕ → List ℕ
last_line standing.Enabled steps waiting links = rows_line enabled_word steps
last_line standing.Finished steps waiting links = finished_line
last_line (standing.Waiting count) steps waiting links = waiting_line waiting links
