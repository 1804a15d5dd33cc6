-- What a caller sees through the calls, by the definitions that their contracts cite: the steps that are listed in a state, how it stands, what it waits for, and runs of steps that are taken.
use Rattle.std.specs.Result.{is_ok}
use Rattle.std.specs.Prelude.{ℕ, ◌≤◌, ◌≡◌, true, ◌⊎◌, Result, Ok, Err, get_or, length, take, replicate}
use mathlib.Core.List.{List, [], ◌∷◌, map, Memᴰ}
use Rattle.calculus.specs.Process.{Process}
use Rattle.calculus.specs.Status.{Links}
use Rattle.calculus.specs.Plain.{Label}
use Rattle.calculus.specs.Rules.{Rule}
use Rattle.sheet.specs.Table.{Table, eval_in}
use Rattle.sheet.specs.declared.Refusal.{Refusal}
use Rattle.sheet.specs.Rules.{refusal_of, judged}
use Rattle.state.specs.declared.State.{State}
use Rattle.moves.specs.Steps.{mode_of, links_of, Sized, left_in}
use Rattle.moves.specs.Fits.{Fits}
use Rattle.moves.specs.Runs.{Taken}
use Rattle.sheet_engine.specs.Answers.{verdict_answer, start_answer, list_answer, list_buffer, standing_answer, standing_buffer, waits_answer, waits_buffer, kind_answer, step_answer, compact_answer, compact_buffer, damage_answer, damage_buffer}
use Rattle.sheet_engine.specs.Values.{VerdictValues, verdict_values, start_values, StandingValues, standing_values}

-- A table and a state that a call with both does not refuse: none of 1 to 10 and 13 fails, and the state is of the right size. Whoever is answered by one knows all of it from the contract of the call (`list_accepts`, `standing_accepts`, `waits_accepts`, `kind_accepts`, `take_accepts`, `in_place_accepts`, `compact_accepts`).
pub record Accepted (t : Table) (s : State) : Type 0 where
  pub table : (refusal_of t).number ≡ 0
  pub mode : s.mode ≤ 1
  pub fits : Fits t s
  pub sized : Sized s

-- A verdict, by document 01's number and values for it: the sheet is accepted and passes, or it fails.
abbrev pub verdict_in : Table → VerdictValues
verdict_in t = verdict_values (verdict_answer t)

abbrev pub Passes : Table → Type 0
Passes t = ((verdict_in t).refusal ≡ 0) × ((verdict_in t).fails ≡ 0)

abbrev pub Fails : Table → Type 0
Fails t = (verdict_in t).fails ≡ 1

-- Every call answers alike for two tables.
pub record SameAnswers (t t' : Table) : Type 0 where
  pub judged : judged t ≡ judged t'
  pub verdict : verdict_answer t ≡ verdict_answer t'
  pub started : (mode : ℕ) → start_answer t mode ≡ start_answer t' mode
  pub listed : (s : State) (lent : ℕ) → list_answer t s lent ≡ list_answer t' s lent
  pub buffer : (s : State) (lent : List ℕ) → list_buffer t s lent ≡ list_buffer t' s lent
  pub standing : (s : State) (lent : ℕ) → standing_answer t s lent ≡ standing_answer t' s lent
  pub waiting : (s : State) (lent : List ℕ) → standing_buffer t s lent ≡ standing_buffer t' s lent
  pub waits : (s : State) (lent : ℕ) → waits_answer t s lent ≡ waits_answer t' s lent
  pub awaited : (s : State) (lent : List ℕ) → waits_buffer t s lent ≡ waits_buffer t' s lent
  pub kind : (s : State) (row : ℕ) → kind_answer t s row ≡ kind_answer t' s row
  pub stepped : (s : State) (row : ℕ) → step_answer t s row ≡ step_answer t' s row
  pub compacted : (s : State) (lent : ℕ) → compact_answer t s lent ≡ compact_answer t' s lent
  pub collected : (s : State) (lent : List ℕ) → compact_buffer t s lent ≡ compact_buffer t' s lent
  pub damage : (row lent : ℕ) → damage_answer t row lent ≡ damage_answer t' row lent
  pub shown : (row : ℕ) (lent : List ℕ) → damage_buffer t row lent ≡ damage_buffer t' row lent

-- "started fresh": the state that `start` hands out; of a refusal the values have one of zeros
abbrev pub fresh_in : Table → ℕ → State
fresh_in t mode = (start_values (start_answer t mode)).state

-- a link as the state's byte: 0 unset, 1 false, 2 true
abbrev pub link : State → ℕ → ℕ
link s l = get_or s.links l 0

-- What `list_steps` lists: of the lent buffer as many bytes as it answers, none where it refuses.
abbrev pub count_of : Result ℕ Refusal → ℕ
count_of (Ok count) = count
count_of (Err e) = 0

unfoldable pub listed_in : Table → State → List ℕ → List ℕ
listed_in t s lent = take (count_of (list_answer t s (length lent))) (list_buffer t s lent)

-- ... with a buffer of 256 bytes, which no list exceeds
abbrev pub listed_rows : Table → State → List ℕ
listed_rows t s = listed_in t s (replicate 256 0)

-- How a state stands, by the number and values that `standing_values` gives for it: what `standing` answers with a buffer of 256 bytes, which no list of rows exceeds.
abbrev pub standing_in : Table → State → StandingValues
standing_in t s = standing_values (standing_answer t s 256)

abbrev pub Enabled : Table → State → Type 0
Enabled t s = (standing_in t s).word ≡ 1

abbrev pub Finished : Table → State → Type 0
Finished t s = (standing_in t s).word ≡ 2

abbrev pub Waiting : Table → State → Type 0
Waiting t s = (standing_in t s).word ≡ 3

-- The rows that it waits for: of the lent buffer as many bytes as `standing` answers, none where it refuses.
unfoldable pub waiting_in : Table → State → List ℕ → List ℕ
waiting_in t s lent = take (standing_values (standing_answer t s (length lent))).rows (standing_buffer t s lent)

abbrev pub waiting_rows : Table → State → List ℕ
waiting_rows t s = waiting_in t s (replicate 256 0)

-- What they wait for: of the lent buffer as many bytes as `waits_for` answers, none where it refuses.
unfoldable pub awaited_in : Table → State → List ℕ → List ℕ
awaited_in t s lent = take (count_of (waits_answer t s (length lent))) (waits_buffer t s lent)

abbrev pub awaited_bytes : Table → State → List ℕ
awaited_bytes t s = awaited_in t s (replicate 256 0)

-- exactly one of three
abbrev pub OneOf : Type 0 → Type 0 → Type 0 → Type 0
OneOf A B C = (A × (B → ⊥) × (C → ⊥)) ⊎ (((A → ⊥) × B × (C → ⊥)) ⊎ ((A → ⊥) × (B → ⊥) × C))

-- the listed steps, each with its row and the kind that `step_kind` answers
abbrev pub listed_steps : Table → State → List Taken
listed_steps t s = map (λ row. record { row = row; kind = kind_answer t s row }) (listed_rows t s)

-- the state after the step of a row, as `take_step` hands it out
abbrev pub next : Table → State → ℕ → State
next t s row = (step_answer t s row).state

-- R's rules allow a step in a state: of what is left of the sheet, under the state's links, in its mode
abbrev pub Allowed : Table → State → Label → Process → Links → Type 0
Allowed t s α P v = Rule (eval_in t) (mode_of s.mode) (left_in t s) (links_of s) α P v

-- A run of the calls: rows, each listed by `list_steps` and taken by `take_step` in the state before, which hands out the state after.
pub data Run (t : Table) : State → Type 0 where
  done : {s : State} → Run t s
  more : {s : State} (row : ℕ) → Memᴰ row (listed_rows t s) → is_ok (step_answer t s row).answer ≡ true → Run t (next t s row) → Run t s

-- its steps, with the kinds that `take_step` answered, and the state after it
unfoldable pub taken : {t : Table} {s : State} → Run t s → List Taken
taken done = []
taken {t} {s} (more row listed ok G) = record { row = row; kind = (step_answer t s row).answer } ∷ taken G

unfoldable pub last : {t : Table} {s : State} → Run t s → State
last {s = s} done = s
last (more row listed ok G) = last G
