-- DEMAND 1: every public call ends, takes any input, and refuses with number and place. Assumes nothing.
use Rattle.sheet.specs.declared.Refusal.{Refusal}
use Rattle.std.specs.Prelude.{Result, Ok}
use Prim.Native.Nat.{ℕ}
use mathlib.Core.Path.{◌≡◌, refl, sym, subst}
use mathlib.Core.List.{List, [], ◌∷◌, map}
use lib.ListN.{length}
use seplogic.Ra.Ura.{Ura}
use base.Logic.{SProp, ent}
use prog.Memory.{Memory}
use prog.Routine.{Routine}
use types.Logic.{Logic}
use contract.Monad.{Fun, top, fact, fact_mono}
use contract.Lifetimes.{Lfts}
use denote.Triple.Entry.{Args, Res}
use denote.Triple.Clauses.{AtExit}
use Rattle.sheet_engine.proofs.read_sheet as read_sheet_call
use Rattle.sheet_engine.proofs.settings_part as settings_part_call
use Rattle.sheet_engine.proofs.terms_part as terms_part_call
use Rattle.sheet_engine.proofs.conditions_part as conditions_part_call
use Rattle.sheet_engine.proofs.judge_table as judge_table_call
use Rattle.sheet_engine.proofs.write_sheet as write_sheet_call
use Rattle.sheet_engine.proofs.give_verdict as give_verdict_call
use Rattle.sheet_engine.proofs.start as start_call
use Rattle.sheet_engine.proofs.list_steps as list_steps_call
use Rattle.sheet_engine.proofs.standing as standing_call
use Rattle.sheet_engine.proofs.waits_for as waits_for_call
use Rattle.sheet_engine.proofs.acts_left as acts_left_call
use Rattle.sheet_engine.proofs.links_unset as links_unset_call
use Rattle.sheet_engine.proofs.step_kind as step_kind_call
use Rattle.sheet_engine.proofs.take_step as take_step_call
use Rattle.sheet_engine.proofs.step_in_place as step_in_place_call
use Rattle.sheet_engine.proofs.compact as compact_call
use Rattle.sheet_engine.proofs.damage_sheet as damage_sheet_call
use Rattle.sheet_engine.specs.contracts.read_sheet as read_sheet_contract
use Rattle.sheet_engine.specs.contracts.settings_part as settings_part_contract
use Rattle.sheet_engine.specs.contracts.terms_part as terms_part_contract
use Rattle.sheet_engine.specs.contracts.conditions_part as conditions_part_contract
use Rattle.sheet_engine.specs.contracts.judge_table as judge_table_contract
use Rattle.sheet_engine.specs.contracts.write_sheet as write_sheet_contract
use Rattle.sheet_engine.specs.contracts.give_verdict as give_verdict_contract
use Rattle.sheet_engine.specs.contracts.start as start_contract
use Rattle.sheet_engine.specs.contracts.list_steps as list_steps_contract
use Rattle.sheet_engine.specs.contracts.standing as standing_contract
use Rattle.sheet_engine.specs.contracts.waits_for as waits_for_contract
use Rattle.sheet_engine.specs.contracts.acts_left as acts_left_contract
use Rattle.sheet_engine.specs.contracts.links_unset as links_unset_contract
use Rattle.sheet_engine.specs.contracts.step_kind as step_kind_contract
use Rattle.sheet_engine.specs.contracts.take_step as take_step_contract
use Rattle.sheet_engine.specs.contracts.step_in_place as step_in_place_contract
use Rattle.sheet_engine.specs.contracts.compact as compact_contract
use Rattle.sheet_engine.specs.contracts.damage_sheet as damage_sheet_contract
use Rattle.laws.specs.Checks.{Check}
use Rattle.laws.specs.Listed.{written}
use Rattle.sheet.specs.declared.Head.{Head}
use Rattle.sheet.specs.Table.{Table, table_of, lent_table}
use Rattle.sheet.specs.Rules.{table_checks, no, judged}
use Rattle.sheet.specs.Sheet.{sheet_of, size_of, head_of}
use Rattle.codec.specs.Answers.{read_of, part_of, write_checks, write_of, written_of}
use Rattle.state.specs.declared.State.{State}
use Rattle.moves.specs.Steps.{kind_at, listed_of, start_of, stepped_of, Kind}
use Rattle.moves.specs.Standing.{waiting_of, awaits_of}
use Rattle.compacted.specs.Compacted.{compacted_sheet}
use Rattle.engine.specs.declared.Stepped.{Stepped}
use Rattle.verdict.specs.Verdict.{verdict_of}
use Rattle.damage.specs.Damage.{shown_sheet}
use Rattle.sheet_engine.specs.declared.Compacted.{Compacted}
use Rattle.sheet_engine.specs.declared.Stands.{Stands}
use Rattle.sheet_engine.specs.Answers.{verdict_answer, start_checks, start_answer, acts_left, links_unset, list_checks, list_answer, list_buffer, standing_of, standing_checks, standing_answer, standing_buffer, waits_answer, waits_buffer, kind_answer, not_taken, step_answer, compact_checks, not_compacted, was_compacted, compact_answer, compact_buffer, damage_checks, damage_answer, damage_buffer}
use Rattle.sheet_engine.specs.Values.{row_checks, was_taken}
use Rattle.promises.specs.Asks.{AsksNothing}
use Rattle.promises.specs.Refused.{Answered, read_checks}
use Rattle.promises.proofs.Refused.{answered, both_answered, map_answered, sheet_answered, kind_answered, step_answered}
-- ... each answer once more by document 01's number and values, where a refusal has 0 in all other places; and that no second answer fits the contract of a call
pub use Rattle.sheet_engine.proofs.Values.{read_answers, write_answers, verdict_answers, list_answers, standing_answers, waits_answers, kind_answers, step_answers, compact_answers, damage_answers}
pub use Rattle.sheet_engine.proofs.Unique.{read_sheet_one, settings_part_one, terms_part_one, conditions_part_one, judge_table_one, write_sheet_one, give_verdict_one, start_one, acts_left_one, links_unset_one, list_steps_one, standing_one, waits_for_one, step_kind_one, take_step_one, step_in_place_one, compact_one, damage_sheet_one}

-- "Every public call ends": each meets its contract, and a contract is met only by code that ends.
pub every_call_ends : {M : Type 1} → read_sheet_call.Statement.statement M
    × settings_part_call.Statement.statement M
    × terms_part_call.Statement.statement M
    × conditions_part_call.Statement.statement M
    × judge_table_call.Statement.statement M
    × write_sheet_call.Statement.statement M
    × give_verdict_call.Statement.statement M
    × start_call.Statement.statement M
    × acts_left_call.Statement.statement M
    × links_unset_call.Statement.statement M
    × list_steps_call.Statement.statement M
    × standing_call.Statement.statement M
    × waits_for_call.Statement.statement M
    × step_kind_call.Statement.statement M
    × take_step_call.Statement.statement M
    × step_in_place_call.Statement.statement M
    × compact_call.Statement.statement M
    × damage_sheet_call.Statement.statement M
every_call_ends = (
  read_sheet_call.Met.met,
  settings_part_call.Met.met,
  terms_part_call.Met.met,
  conditions_part_call.Met.met,
  judge_table_call.Met.met,
  write_sheet_call.Met.met,
  give_verdict_call.Met.met,
  start_call.Met.met,
  acts_left_call.Met.met,
  links_unset_call.Met.met,
  list_steps_call.Met.met,
  standing_call.Met.met,
  waits_for_call.Met.met,
  step_kind_call.Met.met,
  take_step_call.Met.met,
  step_in_place_call.Met.met,
  compact_call.Met.met,
  damage_sheet_call.Met.met,
)

-- "and takes any bytes, table, state or row number": no contract asks anything of what is handed in.
module _ {M : Type 1} {𝓤 : Ura M} (𝓛 : Logic 𝓤) (at_mem : Memory → SProp 𝓤) (run : Routine → Fun 𝓤) where
  pub every_call_takes_any : AsksNothing 𝓤 read_sheet_contract.ended (read_sheet_contract.clauses 𝓛 at_mem run)
      × AsksNothing 𝓤 settings_part_contract.ended (settings_part_contract.clauses 𝓛 at_mem run)
      × AsksNothing 𝓤 terms_part_contract.ended (terms_part_contract.clauses 𝓛 at_mem run)
      × AsksNothing 𝓤 conditions_part_contract.ended (conditions_part_contract.clauses 𝓛 at_mem run)
      × AsksNothing 𝓤 judge_table_contract.ended (judge_table_contract.clauses 𝓛 at_mem run)
      × AsksNothing 𝓤 write_sheet_contract.ended (write_sheet_contract.clauses 𝓛 at_mem run)
      × AsksNothing 𝓤 give_verdict_contract.ended (give_verdict_contract.clauses 𝓛 at_mem run)
      × AsksNothing 𝓤 start_contract.ended (start_contract.clauses 𝓛 at_mem run)
      × AsksNothing 𝓤 acts_left_contract.ended (acts_left_contract.clauses 𝓛 at_mem run)
      × AsksNothing 𝓤 links_unset_contract.ended (links_unset_contract.clauses 𝓛 at_mem run)
      × AsksNothing 𝓤 list_steps_contract.ended (list_steps_contract.clauses 𝓛 at_mem run)
      × AsksNothing 𝓤 standing_contract.ended (standing_contract.clauses 𝓛 at_mem run)
      × AsksNothing 𝓤 waits_for_contract.ended (waits_for_contract.clauses 𝓛 at_mem run)
      × AsksNothing 𝓤 step_kind_contract.ended (step_kind_contract.clauses 𝓛 at_mem run)
      × AsksNothing 𝓤 take_step_contract.ended (take_step_contract.clauses 𝓛 at_mem run)
      × AsksNothing 𝓤 step_in_place_contract.ended (step_in_place_contract.clauses 𝓛 at_mem run)
      × AsksNothing 𝓤 compact_contract.ended (compact_contract.clauses 𝓛 at_mem run)
      × AsksNothing 𝓤 damage_sheet_contract.ended (damage_sheet_contract.clauses 𝓛 at_mem run)
  every_call_takes_any = (
    λ κs a g P. top 𝓤 P,
    λ κs a g P. top 𝓤 P,
    λ κs a g P. top 𝓤 P,
    λ κs a g P. top 𝓤 P,
    λ κs a g P. top 𝓤 P,
    λ κs a g P. top 𝓤 P,
    λ κs a g P. top 𝓤 P,
    λ κs a g P. top 𝓤 P,
    λ κs a g P. top 𝓤 P,
    λ κs a g P. top 𝓤 P,
    λ κs a g P. top 𝓤 P,
    λ κs a g P. top 𝓤 P,
    λ κs a g P. top 𝓤 P,
    λ κs a g P. top 𝓤 P,
    λ κs a g P. top 𝓤 P,
    λ κs a g P. top 𝓤 P,
    λ κs a g P. top 𝓤 P,
    λ κs a g P. top 𝓤 P,
  )

-- "What breaks a rule is refused with the number and place in document 01, and the caller's buffers and state are then as before." For each call: either every check holds and the answer is the one asked for, or it is refused with the number of the first check that fails and its lowest place.
-- `read_sheet`: the head
pub read_sheet_answers : (s : List ℕ) → Answered no (Ok (head_of s)) (read_checks s) (read_of s)
unfolding read_of
read_sheet_answers s = sheet_answered no (Ok (head_of s)) s

-- `settings_part`, `terms_part`, `conditions_part`: the body; a refused part is empty
pub parts_answer : (s body : List ℕ) → Answered (λ number place. []) body (read_checks s) (part_of s body)
unfolding part_of
parts_answer s body = sheet_answered (λ number place. []) body s

-- `judge_table`: number and place, or nothing
pub judge_table_answers : (t : Table) → Answered no (Ok (tt {0})) (table_checks t) (judged t)
unfolding judged
judge_table_answers t = answered no (Ok (tt {0})) (table_checks t)

-- `write_sheet`: the size, and the sheet at the buffer's front; a refusal leaves the buffer as it was
pub write_sheet_answers : (h : Head) (ts cs out : List ℕ) → Answered {A = (Result ℕ Refusal) × List ℕ} (λ number place. (no number place, out)) (Ok (size_of h), written (sheet_of h ts cs) out) (write_checks h ts cs (length out)) (write_of h ts cs (length out), written_of h ts cs out)
unfolding write_of written_of
write_sheet_answers h ts cs out = both_answered no (Ok (size_of h)) (λ number place. out) (written (sheet_of h ts cs) out) (write_checks h ts cs (length out))

-- `give_verdict`: pass or fail
pub give_verdict_answers : (t : Table) → Answered no (Ok (verdict_of t)) (table_checks t) (verdict_answer t)
unfolding verdict_answer
give_verdict_answers t = answered no (Ok (verdict_of t)) (table_checks t)

-- `start`: a fresh state; of a refusal the values have a state of zeros (`begin_answers`, `sheet_engine/proofs/Values`)
pub start_answers : (t : Table) (mode : ℕ) → Answered no (Ok (start_of t mode)) (start_checks t mode) (start_answer t mode)
unfolding start_answer
start_answers t mode = answered no (Ok (start_of t mode)) (start_checks t mode)

-- `acts_left` and `links_unset`: the number that the state holds. "No check concerns them": nothing is refused. By their own contracts, at every model.
module _ {M : Type 1} {𝓤 : Ura M} (𝓛 : Logic 𝓤) (at_mem : Memory → SProp 𝓤) (run : Routine → Fun 𝓤) (κs : Lfts 0) where
  pub acts_left_answers : (a : Args acts_left_contract.signature κs) (z : AtExit acts_left_contract.ended κs) (r : Res acts_left_contract.signature κs) → ent 𝓤 ((acts_left_contract.clauses 𝓛 at_mem run κs a).ensures tt r z) (fact 𝓤 (r ≡ acts_left a.0))
  acts_left_answers a z r = fact_mono 𝓤 _ _ (λ told. told)

  pub links_unset_answers : (a : Args links_unset_contract.signature κs) (z : AtExit links_unset_contract.ended κs) (r : Res links_unset_contract.signature κs) → ent 𝓤 ((links_unset_contract.clauses 𝓛 at_mem run κs a).ensures tt r z) (fact 𝓤 (r ≡ links_unset a.0))
  links_unset_answers a z r = fact_mono 𝓤 _ _ (λ told. told)

-- `list_steps`: their number, and their rows at the buffer's front; a refusal leaves the buffer as it was
pub list_steps_answers : (t : Table) (s : State) (out : List ℕ) → Answered {A = (Result ℕ Refusal) × List ℕ} (λ number place. (no number place, out)) (Ok (length (listed_of t s)), written (listed_of t s) out) (list_checks t s (length out)) (list_answer t s (length out), list_buffer t s out)
unfolding list_answer list_buffer
list_steps_answers t s out = both_answered no (Ok (length (listed_of t s))) (λ number place. out) (written (listed_of t s) out) (list_checks t s (length out))

-- `standing`: how the state stands, and the rows that it waits for at the buffer's front; a refusal leaves the buffer as it was
pub standing_call_answers : (t : Table) (s : State) (out : List ℕ) → Answered {A = (Result Stands Refusal) × List ℕ} (λ number place. (no number place, out)) (Ok (standing_of t s), written (waiting_of t s) out) (standing_checks t s (length out)) (standing_answer t s (length out), standing_buffer t s out)
unfolding standing_answer standing_buffer
standing_call_answers t s out = both_answered no (Ok (standing_of t s)) (λ number place. out) (written (waiting_of t s) out) (standing_checks t s (length out))

-- `waits_for`: how many rows the state waits for, and what each waits for at the buffer's front; a refusal leaves the buffer as it was
pub waits_for_answers : (t : Table) (s : State) (out : List ℕ) → Answered {A = (Result ℕ Refusal) × List ℕ} (λ number place. (no number place, out)) (Ok (length (waiting_of t s)), written (awaits_of t s) out) (standing_checks t s (length out)) (waits_answer t s (length out), waits_buffer t s out)
unfolding waits_answer waits_buffer
waits_for_answers t s out = both_answered no (Ok (length (waiting_of t s))) (λ number place. out) (written (awaits_of t s) out) (standing_checks t s (length out))

-- `compact`: the size of the compacted sheet and the state that goes with it, and the sheet at the buffer's front; a refusal hands the state back and leaves the buffer as it was
pub compact_call_answers : (t : Table) (s : State) (out : List ℕ) → Answered {A = Compacted × List ℕ} (λ number place. (not_compacted s number place, out)) (was_compacted t s, written (compacted_sheet t s) out) (compact_checks t s (length out)) (compact_answer t s (length out), compact_buffer t s out)
unfolding compact_answer compact_buffer
compact_call_answers t s out = both_answered (not_compacted s) (was_compacted t s) (λ number place. out) (written (compacted_sheet t s) out) (compact_checks t s (length out))

-- `damage_sheet`: the size of the small sheet, and the sheet at the buffer's front; a refusal leaves the buffer as it was
pub damage_sheet_answers : (t : Table) (row : ℕ) (out : List ℕ) → Answered {A = (Result ℕ Refusal) × List ℕ} (λ number place. (no number place, out)) (Ok (length (shown_sheet t row)), written (shown_sheet t row) out) (damage_checks t row (length out)) (damage_answer t row (length out), damage_buffer t row out)
unfolding damage_answer damage_buffer
damage_sheet_answers t row out = both_answered no (Ok (length (shown_sheet t row))) (λ number place. out) (written (shown_sheet t row) out) (damage_checks t row (length out))

-- `step_kind`: the kind
pub step_kind_answers : (t : Table) (s : State) (row : ℕ) → Answered no (kind_at t s row) (row_checks t s row) (kind_answer t s row)
step_kind_answers = kind_answered

-- `take_step`: the kind and the state after; a refusal hands the state back as it was
pub take_step_answers : (t : Table) (s : State) (row : ℕ) → Answered (not_taken s) (was_taken t s row) (row_checks t s row) (step_answer t s row)
take_step_answers = step_answered

-- `step_in_place`: the kind, and the caller's record holds the state after; a refusal leaves the record as it was. By its own contract, at every model.
module _ {M : Type 1} {𝓤 : Ura M} (𝓛 : Logic 𝓤) (at_mem : Memory → SProp 𝓤) (run : Routine → Fun 𝓤) (κs : Lfts 3) (a : Args step_in_place_contract.signature κs) where
  -- the record as it was, the table and the row
  abbrev was : State
  was = a.0.now

  abbrev its_table : Table
  its_table = lent_table a.1.0.now

  abbrev asked : ℕ
  asked = a.1.1.0

  pub step_in_place_answers : (z : AtExit step_in_place_contract.ended κs) (r : Res step_in_place_contract.signature κs) → ent 𝓤 ((step_in_place_contract.clauses 𝓛 at_mem run κs a).ensures tt r z) (fact 𝓤 (Answered {A = Kind × State} (λ number place. (no number place, was)) (kind_at its_table was asked, stepped_of its_table was asked) (row_checks its_table was asked) (r, z.0.now)))
  step_in_place_answers z r =
      fact_mono 𝓤 _ _ (λ (told, left, _). subst (Answered {A = Kind × State} _ _ (row_checks its_table was asked)) (λ i. (sym told i, sym left i)) (map_answered (λ (x : Stepped). (x.answer, x.state)) (step_answered its_table was asked)))

-- "The checks run in the order of the numbers; a call skips those that do not concern it." 13 of document 02, request 3, "stands after 7 and before 8"; 15 of request 9 "stands just before 12".
abbrev numbers : List Check → List ℕ
numbers = map (λ (c : Check). c.number)

pub in_order :
    ((s : List ℕ) → numbers (read_checks s) ≡ 1 ∷ 2 ∷ 3 ∷ 4 ∷ 5 ∷ 6 ∷ 7 ∷ 13 ∷ 8 ∷ [])
    × ((t : Table) → numbers (table_checks t) ≡ 1 ∷ 3 ∷ 4 ∷ 5 ∷ 6 ∷ 7 ∷ 13 ∷ 8 ∷ [])
    × ((h : Head) (ts cs : List ℕ) (lent : ℕ) → numbers (write_checks h ts cs lent) ≡ 1 ∷ 3 ∷ 4 ∷ 5 ∷ 6 ∷ 7 ∷ 13 ∷ 8 ∷ 12 ∷ [])
    × ((t : Table) (mode : ℕ) → numbers (start_checks t mode) ≡ 1 ∷ 3 ∷ 4 ∷ 5 ∷ 6 ∷ 7 ∷ 13 ∷ 8 ∷ 9 ∷ [])
    × ((t : Table) (s : State) (lent : ℕ) → numbers (list_checks t s lent) ≡ 1 ∷ 3 ∷ 4 ∷ 5 ∷ 6 ∷ 7 ∷ 13 ∷ 8 ∷ 9 ∷ 10 ∷ 10 ∷ 10 ∷ 10 ∷ 10 ∷ 12 ∷ [])
    × ((t : Table) (s : State) (lent : ℕ) → numbers (standing_checks t s lent) ≡ 1 ∷ 3 ∷ 4 ∷ 5 ∷ 6 ∷ 7 ∷ 13 ∷ 8 ∷ 9 ∷ 10 ∷ 10 ∷ 10 ∷ 10 ∷ 10 ∷ 12 ∷ [])
    × ((t : Table) (s : State) (lent : ℕ) → numbers (compact_checks t s lent) ≡ 1 ∷ 3 ∷ 4 ∷ 5 ∷ 6 ∷ 7 ∷ 13 ∷ 8 ∷ 9 ∷ 10 ∷ 10 ∷ 10 ∷ 10 ∷ 10 ∷ 12 ∷ [])
    × ((t : Table) (row lent : ℕ) → numbers (damage_checks t row lent) ≡ 1 ∷ 3 ∷ 4 ∷ 5 ∷ 6 ∷ 7 ∷ 13 ∷ 8 ∷ 15 ∷ 12 ∷ [])
    × ((t : Table) (s : State) (row : ℕ) → numbers (row_checks t s row) ≡ 1 ∷ 3 ∷ 4 ∷ 5 ∷ 6 ∷ 7 ∷ 13 ∷ 8 ∷ 9 ∷ 10 ∷ 10 ∷ 10 ∷ 10 ∷ 10 ∷ 11 ∷ [])
in_order = (λ s. refl, λ t. refl, λ h ts cs lent. refl, λ t mode. refl, λ t s lent. refl, λ t s lent. refl, λ t s lent. refl, λ t row lent. refl, λ t s row. refl)
