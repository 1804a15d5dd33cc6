-- DEMAND 2: what the calls answer follows document 01, and through it report R. Assumes nothing.
use Rattle.std.specs.Result.{is_ok}
use Rattle.sheet.specs.declared.Refusal.{Refusal}
use Rattle.std.specs.Prelude.{Result, Ok}
use Prim.Native.Nat.{ℕ, ◌*◌, ◌<◌, ◌≤◌}
use mathlib.Core.Path.{◌≡◌, refl, sym, ◌∙◌, ap, subst}
use mathlib.Core.Bool.{Bool, true, false}
use mathlib.Core.List.{List, Memᴰ, ◌++◌}
use mathlib.Core.Logic.{◌⊎◌, inl, inr, ⊎_elim, ◌↔◌}
use native.Mathlib.Omega.{arith}
use lib.ListN.{length, take, drop, replicate}
use seplogic.Ra.Ura.{Ura}
use base.Logic.{SProp, ent}
use prog.Memory.{Memory}
use prog.Routine.{Routine}
use types.Logic.{Logic}
use contract.Monad.{Fun, fact, fact_mono}
use borrow.Fn.World.{ArgsD, ResD}
use borrow.Fn.Kinds.{ended_of}
use contract.Lifetimes.{Lfts}
use denote.Triple.Entry.{Args, Res}
use denote.Triple.Clauses.{AtExit}
use Rattle.laws.specs.Tests.{Set}
use Rattle.laws.specs.Checks.{Holds}
use Rattle.laws.specs.Listed.{Rising}
use Rattle.laws.proofs.Checks.{checked_map}
use Rattle.laws.proofs.Listed.{listed_rising}
use Rattle.calculus.specs.Process.{Process, join}
use Rattle.calculus.specs.Process as process
use Rattle.calculus.specs.Typing.{Types}
use Rattle.calculus.specs.Status.{Value, Unset, True, Links}
use Rattle.calculus.specs.Plain.{Label}
use Rattle.calculus.specs.Places.{sets, takes, drops, Grows}
use Rattle.calculus.specs.Order.{◌⊑◌, Condition1}
use Rattle.calculus.specs.Rows.{rows, row_of}
use Rattle.conditions.specs.Operators.{Operator, table}
use Rattle.conditions.specs.Conditions.{Condition, condition, reached, lazy, value}
use Rattle.conditions.specs.Numbers.{digit}
use Rattle.conditions.specs.Meaning.{meaning}
use Rattle.conditions.proofs.Operators.{table_means}
use Rattle.conditions.proofs.Evaluation.{strict_unset, strict_lazy, value_1}
use Rattle.steps.specs.Rows.{PREFIX, Child, term}
use Rattle.steps.specs.Marks.{stand}
use Rattle.steps.specs.InFront.{waits_by, waiting, waiting_step, waiting_steps}
use Rattle.steps.specs.Verdict.{SheetPasses}
use Rattle.steps.proofs.Sources.{typable}
use Rattle.sheet.specs.declared.Head.{Head}
use Rattle.sheet.specs.Table.{Table, table_of, cut, row_at, condition_row_at, lazy_of, evaluation_of, eval_in, process_of, lent_table}
use Rattle.sheet.specs.Rules.{terms, tree, one_source, refuse, refusal_of, judged}
use Rattle.sheet.specs.Accepted.{WellFormed, SingleSource, Narrow}
use Rattle.sheet.specs.Sheet.{size_of, head_of, terms_of, conditions_of, sheet_size, contents, table_in}
use Rattle.sheet.proofs.Accepted.{meets, well_formed, single_source, narrow_joins, rows_tree, one_source_law}
use Rattle.codec.specs.Answers.{read_of, part_of, write_of, written_of}
use Rattle.codec.proofs.Judged.{accepted_is, is_accepted}
use Rattle.codec.proofs.RoundTrip.{read_then_written, written_front, written_then_read, size_told, terms_handed, conditions_handed}
use Rattle.codec.proofs.Parts.{part_whole}
use Rattle.state.specs.declared.State.{State}
use Rattle.state.specs.declared.StepKind.TheVariants.{Clean}
use Rattle.state.specs.State.{side_mark}
use Rattle.moves.specs.Steps.{marks_of, links_of, left_in, kind_in, has_step, listed_of, stepped_of, is_waiting_pick, Kind}
use Rattle.moves.specs.Fits.{held, clear_ok, waits_fit, clear_fit}
use Rattle.moves.specs.Above.{Below, PickAbove}
use Rattle.moves.proofs.Below.{held_said, waits_said}
use Rattle.moves.proofs.Clear.{clear_said, row_said}
use Rattle.moves.proofs.Allowed.{listed_allowed as steps-allowed, allowed_listed as allowed-steps}
use Rattle.moves.proofs.Decided.{row_marked, pick_decided}
use Rattle.moves.proofs.Kept.{nothing_else as nothing-else-steps}
use Rattle.engine.specs.declared.Stepped.{Stepped}
use Rattle.engine.specs.ByValue.{taken_answer}
use Rattle.verdict.specs.declared.Verdict.{Verdict}
use Rattle.sheet_engine.specs.declared.Stands.{Stands}
use Rattle.sheet_engine.specs.declared.Compacted.{Compacted}
use Rattle.sheet_engine.specs.Answers.{verdict_answer, start_answer, call_checks, list_answer, list_buffer, standing_answer, standing_buffer, waits_answer, waits_buffer, kind_answer, not_taken, step_answer, compact_answer, compact_buffer, damage_answer, damage_buffer}
use Rattle.sheet_engine.specs.Values.{verdict_values, FailsAt, size_values, standing_values, step_values}
use Rattle.sheet_engine.specs.contracts.read_sheet as read-sheet
use Rattle.sheet_engine.proofs.read_sheet.Reads as read-sheet-reads
use Rattle.sheet_engine.proofs.read_sheet.Kinds as read-sheet-kinds
use Rattle.sheet_engine.specs.contracts.list_steps as list_steps
use Rattle.sheet_engine.proofs.list_steps.Reads as list-steps-reads
use Rattle.sheet_engine.proofs.list_steps.Kinds as list-steps-kinds
use Rattle.sheet_engine.specs.contracts.standing as standing
use Rattle.sheet_engine.proofs.standing.Reads as standing-reads
use Rattle.sheet_engine.proofs.standing.Kinds as standing-kinds
use Rattle.sheet_engine.specs.contracts.waits_for as waits-for
use Rattle.sheet_engine.proofs.waits_for.Reads as waits-for-reads
use Rattle.sheet_engine.proofs.waits_for.Kinds as waits-for-kinds
use Rattle.sheet_engine.specs.contracts.compact as compact
use Rattle.sheet_engine.proofs.compact.Reads as compact-reads
use Rattle.sheet_engine.proofs.compact.Kinds as compact-kinds
use Rattle.sheet_engine.specs.contracts.step_kind as step-kind
use Rattle.sheet_engine.proofs.step_kind.Reads as step-kind-reads
use Rattle.sheet_engine.proofs.step_kind.Kinds as step-kind-kinds
use Rattle.sheet_engine.specs.contracts.take_step as take_step
use Rattle.sheet_engine.proofs.take_step.Reads as take-step-reads
use Rattle.sheet_engine.proofs.take_step.Kinds as take-step-kinds
use Rattle.sheet_engine.specs.contracts.step_in_place as step-in-place
use Rattle.sheet_engine.proofs.Beyond.{cut_judged, cut_write_answer, cut_write_buffer, cut_verdict_answer, cut_start_answer, cut_list_answer, cut_list_buffer, cut_standing_answer, cut_standing_buffer, cut_waits_answer, cut_waits_buffer, cut_kind_answer, cut_step_answer, cut_compact_answer, cut_compact_buffer, cut_damage_answer, cut_damage_buffer}
use Rattle.sheet_engine.proofs.Promises.{pass_answered, fail_answered, fail_values}
use Rattle.promises.specs.Calls.{Accepted, verdict_in, Passes, Fails, SameAnswers, fresh_in, link, listed_in, listed_rows, next, Allowed, Run, taken}
use Rattle.promises.proofs.Calls.{formed, one_source_law as one-source-in, refusal, unrefused, kind_is, rows_are, row_listed, state_is, turned, listed_in_law, listed_any, ok_listed, list_unrefused, standing_unrefused, waits_unrefused, kind_unrefused, step_unrefused, compact_unrefused, accepted_listed, taken_keeps, run_short}
use Rattle.promises.proofs.Alike.{link_is}
use Rattle.promises.proofs.Fresh.{fresh_accepted}
use Rattle.promises.proofs.Verdict.{pass_told, fail_told, offending}

-- THE SHEET. Its head is handed out exactly if 1 and 2 hold and the table of its parts is accepted.
pub sheet_accepted : (s : List ℕ) (h : Head) → (read_of s ≡ Ok h) ↔ (Holds (sheet_size (length s)) × Holds (contents s) × (refusal_of (table_in s) ≡ refuse 0 0) × (h ≡ head_of s))
sheet_accepted s h = (
  λ e. let r = accepted_is s h e in (r.size, r.sound, r.table, r.head),
  λ (one, two, table, head). is_accepted s h record { size = one; sound = two; table = table; head = head },
)

-- "A child's number is greater than its parent's. Every row but 0 is the child of exactly one row, once." "no two OUT rows name the same link." "At most 8 distinct links may be reached from a JOIN's condition."
pub table_accepted : (t : Table) → (refusal_of t).number ≡ 0 → WellFormed t × SingleSource t × Narrow t
table_accepted t e = let g = meets t e in (well_formed t g, single_source t g, narrow_joins t g)

-- "places beyond these are no part of it": every call answers alike for tables that agree on n term rows and k condition rows
pub nothing_beyond : (t t' : Table) → cut t ≡ cut t' → SameAnswers t t'
nothing_beyond t t' e = record {
  judged = both judged cut_judged;
  verdict = both verdict_answer cut_verdict_answer;
  started = (λ mode. both (λ u. start_answer u mode) (λ u. cut_start_answer u mode));
  listed = (λ s lent. both (λ u. list_answer u s lent) (λ u. cut_list_answer u s lent));
  buffer = (λ s lent. both (λ u. list_buffer u s lent) (λ u. cut_list_buffer u s lent));
  standing = (λ s lent. both (λ u. standing_answer u s lent) (λ u. cut_standing_answer u s lent));
  waiting = (λ s lent. both (λ u. standing_buffer u s lent) (λ u. cut_standing_buffer u s lent));
  waits = (λ s lent. both (λ u. waits_answer u s lent) (λ u. cut_waits_answer u s lent));
  awaited = (λ s lent. both (λ u. waits_buffer u s lent) (λ u. cut_waits_buffer u s lent));
  kind = (λ s row. both (λ u. kind_answer u s row) (λ u. cut_kind_answer u s row));
  stepped = (λ s row. both (λ u. step_answer u s row) (λ u. cut_step_answer u s row));
  compacted = (λ s lent. both (λ u. compact_answer u s lent) (λ u. cut_compact_answer u s lent));
  collected = (λ s lent. both (λ u. compact_buffer u s lent) (λ u. cut_compact_buffer u s lent));
  damage = (λ row lent. both (λ u. damage_answer u row lent) (λ u. cut_damage_answer u row lent));
  shown = (λ row lent. both (λ u. damage_buffer u row lent) (λ u. cut_damage_buffer u row lent));
}
  where
    both : {A : Type 0} (f : Table → A) → ((u : Table) → f u ≡ f (cut u)) → f t ≡ f t'
    both f g = g t ∙ (ap f e ∙ sym (g t'))

-- ... and writing
pub nothing_beyond_written : (h : Head) (ts cs : List ℕ) → ((lent : ℕ) → write_of h ts cs lent ≡ write_of h (take (4 * h.n) ts) (take (4 * h.k) cs) lent) × ((out : List ℕ) → written_of h ts cs out ≡ written_of h (take (4 * h.n) ts) (take (4 * h.k) cs) out)
nothing_beyond_written h ts cs = (cut_write_answer h ts cs, cut_write_buffer h ts cs)

-- "Reading an accepted sheet and writing it again gives its bytes": a sheet of which `read_sheet` answers the head, by its contract, written to a buffer that is long enough
module _ (κs : Lfts 1) (a : ArgsD read-sheet.signature κs) (z : AtExit (ended_of 1 read-sheet-kinds.ps read-sheet-kinds.r) κs) (h : Head) (read : read-sheet-reads.Post κs a (Ok h) z) where
  abbrev sheet_read : List ℕ
  sheet_read = a.0.now

  pub read_then_write : (out : List ℕ) → length sheet_read ≤ length out → (write_of h (part_of sheet_read (terms_of sheet_read)) (part_of sheet_read (conditions_of sheet_read)) (length out) ≡ Ok (length sheet_read)) × (written_of h (part_of sheet_read (terms_of sheet_read)) (part_of sheet_read (conditions_of sheet_read)) out ≡ sheet_read ++ drop (length sheet_read) out)
  read_then_write out room =
      let e = sym read.0 in
      rw (← part_whole sheet_read (terms_of sheet_read) (read_of sheet_read) refl h e, ← part_whole sheet_read (conditions_of sheet_read) (read_of sheet_read) refl h e) (read_then_written sheet_read h read.1 e out room)

-- "writing an accepted table and reading it gives that table": its head, its n term rows and its k condition rows, from a buffer that was long enough
module _ (h : Head) (ts cs : List ℕ) (accepted : (refusal_of (table_of h ts cs)).number ≡ 0) (out : List ℕ) (room : size_of h ≤ length out) where
  -- what was written
  abbrev sheet_written : List ℕ
  sheet_written = take (size_of h) (written_of h ts cs out)

  pub write_then_read : (write_of h ts cs (length out) ≡ Ok (size_of h)) × (read_of sheet_written ≡ Ok h) × (part_of sheet_written (terms_of sheet_written) ≡ take (4 * h.n) ts) × (part_of sheet_written (conditions_of sheet_written) ≡ take (4 * h.k) cs)
  write_then_read = (
    size_told h ts cs accepted out room,
    written_then_read h ts cs accepted out room,
    ap (λ (s : List ℕ). part_of s (terms_of s)) (written_front h ts cs accepted out room) ∙ terms_handed h ts cs accepted,
    ap (λ (s : List ℕ). part_of s (conditions_of s)) (written_front h ts cs accepted out room) ∙ conditions_handed h ts cs accepted,
  )

-- LINKS. "Unset 0, false 1, true 2": the bytes of an accepted state are the numbers of R's link values.
pub link_values : (t : Table) (s : State) → Accepted t s → (l : ℕ) → link s l ≡ digit (links_of s l)
link_values = link_is

-- JOIN CONDITIONS. The thirty-six values of the lazy operators are what the operators mean.
pub operators : (o : Operator) (a b : Value) → table o a b ≡ meaning o a b
operators = table_means

module _ (t : Table) (q : ℕ) (v : Links) where
  -- the condition of row q
  abbrev C : Condition
  C = condition (condition_row_at t.conditions) q

  -- "Strict evaluation gives unset if any link reached from the condition is unset, else the lazy value."
  pub strict_value : lazy_of t.evaluation ≡ false → ((l : ℕ) → reached C l ≡ true → v l ≡ Unset → eval_in t q v ≡ Unset) × (((l : ℕ) → reached C l ≡ true → v l ≡ Unset → ⊥) → eval_in t q v ≡ lazy C v)
  unfolding evaluation_of value
  strict_value e = rw e (strict_unset C v, strict_lazy C v)

  pub lazy_value : lazy_of t.evaluation ≡ true → eval_in t q v ≡ lazy C v
  unfolding evaluation_of value
  lazy_value e = rw e refl

-- R's condition (1), under both evaluations
pub condition_1 : (t : Table) (q : ℕ) → Condition1 (eval_in t q)
condition_1 t q = value_1 (evaluation_of t.evaluation) (condition (condition_row_at t.conditions) q)

-- THE SINGLE-SOURCE RULE. "That this equals the typing rules of R is proved": where 1, 5 and 6 hold, 7 holds exactly if the sheet's process is typed.
pub single_source_typing : (t : Table) → 0 < t.n → Holds (terms t.m t.n t.k t.terms) → Holds (tree t.n t.terms) → Holds (one_source t.m t.n t.terms) ↔ ((L : Set) × Types (process_of t) L)
single_source_typing t some five six =
    let (to, back) = typable (row_at t.terms) t.n (rows_tree t five six some) in
    let (one, check) = one_source_law t five in
    (λ seven. back (one seven), λ typed. check (to typed))

-- THE VERDICT. "The sheet passes if the condition of every JOIN row passes" (R, condition 2)
pub pass_exactly : (t : Table) → Passes t ↔ (((refusal_of t).number ≡ 0) × SheetPasses (eval_in t) (row_at t.terms) t.n)
pass_exactly t = ((λ p. (pass_answered t).0 ((pass_told t).0 p)), (λ s. (pass_told t).1 ((pass_answered t).1 s)))

-- ""Fail" is given exactly if an offending pair A, B exists": a JOIN row's condition is true in B and not in A, and A is B with some false links unset
pub fail_exactly : (t : Table) → Fails t ↔ (((refusal_of t).number ≡ 0) × (j : ℕ) × (q : ℕ) × (c : ℕ) × (j < t.n) × (row_at t.terms j ≡ PREFIX (join q) c) × (A : Links) × (B : Links) × (A ⊑ B) × (eval_in t q B ≡ True) × (eval_in t q A ≡ True → ⊥))
fail_exactly t = (
  λ told.
      let (j, x, l, v) = (fail_told t).0 told in
      let f = fail_values t j x l v in
      let e = ((fail_answered t).0 (j, x, l, v)).0 in
      let (A, B, below, b, a) = offending t e f in
      (e, j, f.condition, f.child, f.inside, f.row_is_join, A, B, below, b, a),
  λ (e, j, q, c, h, is, A, B, below, b, a). (fail_told t).1 ((fail_answered t).1 (e, λ s. a (s j q c h is A B b below))),
)

-- "A failure names the lowest JOIN row that fails, a number and a link": "the sum of value times 1, 3, 9 and so on", the smallest such number, and at it the lowest link
pub fail_names : (t : Table) → Fails t → FailsAt t (verdict_in t).row (verdict_in t).number (verdict_in t).link
fail_names t told = let (j, x, l, v) = (fail_told t).0 told in subst (λ (a : Result Verdict Refusal). FailsAt t (verdict_values a).row (verdict_values a).number (verdict_values a).link) (sym v) (fail_values t j x l v)

-- STEPS. A call that answers without a refusal tells by its contract that table and state are accepted.
module _ (κs : Lfts 3) (a : ArgsD list_steps.signature κs) (z : AtExit (ended_of 3 list-steps-kinds.ps list-steps-kinds.r) κs) (r : ResD list_steps.signature κs) (listed : list-steps-reads.Post κs a r z) where
  pub list_accepts : (size_values r).refusal ≡ 0 → Accepted (lent_table a.1.0.now) a.0
  list_accepts e = list_unrefused _ a.0 listed.1 a.1.1.0.now (ap (λ (n : Result ℕ Refusal). (size_values n).refusal) (sym listed.0.0) ∙ e)

module _ (κs : Lfts 3) (a : ArgsD standing.signature κs) (z : AtExit (ended_of 3 standing-kinds.ps standing-kinds.r) κs) (r : ResD standing.signature κs) (stood : standing-reads.Post κs a r z) where
  pub standing_accepts : (standing_values r).refusal ≡ 0 → Accepted (lent_table a.1.0.now) a.0
  standing_accepts e = standing_unrefused _ a.0 stood.1 a.1.1.0.now (ap (λ (n : Result Stands Refusal). (standing_values n).refusal) (sym stood.0.0) ∙ e)

module _ (κs : Lfts 3) (a : ArgsD waits-for.signature κs) (z : AtExit (ended_of 3 waits-for-kinds.ps waits-for-kinds.r) κs) (r : ResD waits-for.signature κs) (told : waits-for-reads.Post κs a r z) where
  pub waits_accepts : (size_values r).refusal ≡ 0 → Accepted (lent_table a.1.0.now) a.0
  waits_accepts e = waits_unrefused _ a.0 told.1 a.1.1.0.now (ap (λ (n : Result ℕ Refusal). (size_values n).refusal) (sym told.0.0) ∙ e)

module _ (κs : Lfts 2) (a : ArgsD step-kind.signature κs) (z : AtExit (ended_of 2 step-kind-kinds.ps step-kind-kinds.r) κs) (r : ResD step-kind.signature κs) (asked : step-kind-reads.Post κs a r z) where
  pub kind_accepts : (step_values r).refusal ≡ 0 → Accepted (lent_table a.1.0.now) a.0
  kind_accepts e = kind_unrefused _ a.0 asked.1 _ (ap (λ (k : Kind). (step_values k).refusal) (sym asked.0) ∙ e)

module _ (κs : Lfts 2) (a : ArgsD take_step.signature κs) (z : AtExit (ended_of 2 take-step-kinds.ps take-step-kinds.r) κs) (r : ResD take_step.signature κs) (took : take-step-reads.Post κs a r z) where
  pub take_accepts : (step_values r.answer).refusal ≡ 0 → Accepted (lent_table a.1.0.now) a.0
  take_accepts e = step_unrefused _ a.0 took.1 _ (ap (λ (k : Stepped). (step_values k.answer).refusal) (sym took.0) ∙ e)

module _ (κs : Lfts 3) (a : ArgsD compact.signature κs) (z : AtExit (ended_of 3 compact-kinds.ps compact-kinds.r) κs) (r : ResD compact.signature κs) (made : compact-reads.Post κs a r z) where
  pub compact_accepts : (size_values r.answer).refusal ≡ 0 → Accepted (lent_table a.1.0.now) a.0
  compact_accepts e = compact_unrefused _ a.0 made.1 a.1.1.0.now (ap (λ (c : Compacted). (size_values c.answer).refusal) (sym made.0.0) ∙ e)

-- ... of the record as it was lent, at every model
module _ {M : Type 1} {𝓤 : Ura M} (𝓛 : Logic 𝓤) (at_mem : Memory → SProp 𝓤) (run : Routine → Fun 𝓤) (κs : Lfts 3) (a : Args step-in-place.signature κs) (z : AtExit step-in-place.ended κs) (r : Res step-in-place.signature κs) where
  pub in_place_accepts : ent 𝓤 ((step-in-place.clauses 𝓛 at_mem run κs a).ensures tt r z) (fact 𝓤 ((step_values r).refusal ≡ 0 → Accepted (lent_table a.1.0.now) a.0.now))
  in_place_accepts = fact_mono 𝓤 _ _ (λ (told, _, size) e. step_unrefused _ a.0.now size _ (ap (λ (k : Kind). (step_values k).refusal) (sym told) ∙ e))

-- A table and a state that are accepted are answered: with room for 256 rows `list_steps` refuses nothing.
pub accepted_answered : (t : Table) (s : State) → Accepted t s → (lent : ℕ) → 256 ≤ lent → (size_values (list_answer t s lent)).refusal ≡ 0
accepted_answered = accepted_listed

-- `start` hands out a state of the table, and a step keeps it so: no later call on this table refuses the state.
pub fresh_fits : (t : Table) → (refusal_of t).number ≡ 0 → (mode : ℕ) → mode ≤ 1 → Accepted t (fresh_in t mode)
fresh_fits = fresh_accepted

pub step_fits : (t : Table) (s : State) → Accepted t s → (row : ℕ) → is_ok (step_answer t s row).answer ≡ true → Accepted t (next t s row)
step_fits = taken_keeps

-- (c) "every row below a waiting ACT, OUT or JOIN waits"; (d) "each link set by the remainder is unset"
pub fits_says : (t : Table) → (refusal_of t).number ≡ 0 → (s : State) → (Holds (waits_fit t.terms t.n (marks_of s)) ↔ ((i k : ℕ) → Below t.terms t.n i k → waiting_step (row_at t.terms i) (marks_of s i) ≡ true → waiting (row_at t.terms k) (marks_of s k) ≡ true)) × (Holds (clear_fit t.terms t.n (marks_of s) s.links) ↔ ((l : ℕ) → sets (left_in t s) l ≡ true → link s l ≡ 0))
fits_says t e s =
    let tree = (well_formed t (meets t e)).tree in
    (waits_said t.terms t.n tree (marks_of s), clear_said t.terms t.n tree.kids tree.once (marks_of s) tree.some_row s.links)

-- (c), its place: "lowest row that should wait and does not". A row should wait exactly if it stands below a waiting ACT, OUT or JOIN.
pub should_wait : (t : Table) → (refusal_of t).number ≡ 0 → (s : State) (k : ℕ) → k < t.n → (held t.terms (marks_of s) k ≡ true) ↔ ((i : ℕ) × Below t.terms t.n i k × (waiting_step (row_at t.terms i) (marks_of s i) ≡ true))
should_wait t e s = held_said t.terms t.n (well_formed t (meets t e)).tree (marks_of s)

-- (d), its place: "lowest OUT row". A row breaks (d) exactly if it is a waiting OUT of the remainder whose link is set.
pub out_is_set : (t : Table) → (refusal_of t).number ≡ 0 → (s : State) (k : ℕ) → k < t.n → (clear_ok t.terms (marks_of s) s.links k ≡ false) ↔ ((l : ℕ) × (b : Bool) × (c : ℕ) × (row_at t.terms k ≡ PREFIX (process.out l b) c) × (waits_by (stand (marks_of s k)) ≡ true) × (rows (left_in t s) k ≡ true) × (link s l ≡ 0 → ⊥))
out_is_set t e s k h = let tree = (well_formed t (meets t e)).tree in row_said t.terms t.n tree.kids tree.once (marks_of s) k tree.some_row h s.links

-- "The list of steps is in rising row order."
pub listed_rises : (t : Table) (s : State) → Rising (listed_rows t s)
unfolding listed_of
listed_rises t s = listed_in_law t s Rising (replicate 256 0) (λ i j h k. absurd (omega arith)) (λ e. subst Rising (sym (rows_are t s e)) (listed_rising (has_step t s) 0 t.n))

-- "a step list needs one byte for each listed step and no more"
pub listed_in_any : (t : Table) (s : State) (lent : List ℕ) → length (listed_rows t s) ≤ length lent → listed_in t s lent ≡ listed_rows t s
listed_in_any = listed_any

-- `take_step` takes what `list_steps` lists, and answers what `step_kind` answers
pub taken_listed : (t : Table) (s : State) (row : ℕ) → (is_ok (step_answer t s row).answer ≡ true) ↔ Memᴰ row (listed_rows t s)
taken_listed = ok_listed

pub taken_kind : (t : Table) (s : State) (row : ℕ) → (step_answer t s row).answer ≡ kind_answer t s row
unfolding step_answer kind_answer taken_answer
taken_kind t s row = checked_map (λ (k : Stepped). k.answer) (not_taken s) (taken_answer t s row) (call_checks t s)

-- a listed step, and the state after it
module _ (t : Table) (s : State) (accepted : Accepted t s) (row : ℕ) (listed : Memᴰ row (listed_rows t s)) where
  abbrev after : State
  after = next t s row

  free : (refusal t s).number ≡ 0
  free = unrefused t s accepted

  has : has_step t s row ≡ true
  has = (row_listed t s free row).0 listed

  is : after ≡ stepped_of t s row
  is = state_is t s free row

  -- "A listed step is one the rules allow": its row and its kind are those of a label of R, and R's rule leads to what is left after it, and to its links
  pub listed_allowed : (α : Label) × (row_of α ≡ row) × (kind_in α ≡ kind_answer t s row) × Allowed t s α (left_in t after) (links_of after)
  listed_allowed = rw (is, kind_is t s free row) (steps-allowed t (formed accepted) (one-source-in accepted) s accepted.sized row has)

  -- "ACT in front: passed." "OUT in front: passed". "JOIN in front with a true condition: passed". With a false condition "dropped".
  pub row_done : ((kind_answer t s row ≡ Ok Clean) × (marks_of after row ≡ 4)) ⊎ ((kind_answer t s row ≡ Ok Clean → ⊥) × (marks_of after row ≡ 1))
  row_done = rw is (⊎_elim (λ (e, k). inr (k, row_marked t (formed accepted) s accepted.sized row takes e)) (λ (e, k). inl (k, row_marked t (formed accepted) s accepted.sized row drops e)) (turned t s free row listed))

  -- "Each of these also decides every waiting PICK above it towards it": a waiting PICK k, with the row below its child c
  pub picks_decided : (kind_answer t s row ≡ Ok Clean → ⊥) → (k c : ℕ) (side : Bool) → k < t.n → is_waiting_pick (row_at t.terms k) (marks_of s k) ≡ true → Child (row_at t.terms k) side c → rows (term (row_at t.terms) t.n c) row ≡ true → marks_of after k ≡ side_mark side
  picks_decided never k c side h waits child below = rw is (⊎_elim (λ (e, _). pick_decided t (formed accepted) s accepted.sized k c side h waits child row below e) (λ (_, k). absurd (never k)) (turned t s free row listed))

  -- "Nothing else changes": a mark that changes is the row's or that of a PICK above it, which a clean step does not decide; a link that changes was unset
  pub nothing_else : (after.mode ≡ s.mode) × ((k : ℕ) → (marks_of after k ≡ marks_of s k) ⊎ ((k ≡ row) ⊎ ((kind_answer t s row ≡ Ok Clean → ⊥) × (side : Bool) × PickAbove t s row k side × (marks_of after k ≡ side_mark side)))) × Grows (links_of s) (links_of after)
  nothing_else = rw (is, kind_is t s free row) (nothing-else-steps t (formed accepted) (one-source-in accepted) accepted.sized accepted.fits row has)

-- "and each allowed step is listed": at its row, with its kind, and taking it leads where R's rule leads
pub allowed_listed : (t : Table) (s : State) → Accepted t s → (α : Label) (P : Process) (v : Links) → Allowed t s α P v → Memᴰ (row_of α) (listed_rows t s) × (kind_answer t s (row_of α) ≡ kind_in α) × (left_in t (next t s (row_of α)) ≡ P) × (links_of (next t s (row_of α)) ≡ v)
allowed_listed t s a α P v rule =
    let l = allowed-steps t (formed a) s a.sized α P v rule in
    let e = unrefused t s a in
    let z = state_is t s e (row_of α) in
    ((row_listed t s e (row_of α)).1 l.there, kind_is t s e (row_of α) ∙ l.kind, ap (left_in t) z ∙ l.leaves, ap links_of z ∙ l.sets)

-- "From any fitting state a run has at most as many steps as there are waiting ACT, OUT and JOIN rows."
pub run_bound : (t : Table) (s : State) → Accepted t s → (G : Run t s) → length (taken G) ≤ waiting_steps (row_at t.terms) (marks_of s) t.n
run_bound t s a G = run_short a G
