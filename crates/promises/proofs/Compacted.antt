-- DOCUMENT 02, REQUEST 8: what `compact` hands out is a sheet that is accepted and a state that fits it, and the runs from there match the runs from the old state, both ways. For any state that is accepted, in both modes; no verdict is asked. Assumes nothing.
use Rattle.sheet.specs.declared.Refusal.{Refusal}
use Rattle.std.specs.Prelude.{Result, Ok}
use Prim.Native.Nat.{ℕ, ◌+◌, ◌*◌, ◌<◌, ◌≤◌}
use mathlib.Core.Path.{◌≡◌, refl, sym, ◌∙◌, ap, ap₂, subst}
use mathlib.Core.Bool.{true, true≢false}
use mathlib.Core.List.{List}
use mathlib.Core.Logic.{by_cases}
use native.Mathlib.Omega.{arith}
use native.Mathlib.Decide.{dec_lt}
use lib.ListN.{length, take, replicate}
use lib.Seq.{take_at}
use Rattle.laws.specs.Listed.{written}
use Rattle.laws.proofs.Listed.{written_fits}
use Rattle.laws.proofs.Ranked.{rank_rises}
use Rattle.sheet.specs.Table.{Table, table_of, cut, is_compacted}
use Rattle.sheet.specs.Rules.{wants, refusal_of}
use Rattle.sheet.specs.Sheet.{terms_at, table_in}
use Rattle.sheet.proofs.Beyond.{cut_twice}
use Rattle.codec.specs.Answers.{read_of}
use Rattle.codec.proofs.Writing.{sheet_length}
use Rattle.codec.proofs.RoundTrip.{head_back, terms_back, conditions_back, read_of_sheet}
use Rattle.state.specs.declared.State.{State}
use Rattle.state.specs.State.{restart_of}
use Rattle.compacted.specs.Compacted.{is_kept, rank, compacted_head, compacted_terms, compacted, compacted_sheet, restarted}
use Rattle.compacted.proofs.Compacted.{compacted_lent, rank_upto, restarted_is}
use Rattle.sheet_engine.specs.declared.Compacted.{Compacted}
use Rattle.sheet_engine.specs.Answers.{was_compacted, compact_answer, compact_buffer}
use Rattle.sheet_engine.specs.Values.{size_values}
use Rattle.sheet_engine.proofs.Steps.{compact_short, compact_given}
use Rattle.promises.specs.Calls.{Accepted, SameAnswers, count_of, link, listed_steps, Run, taken, last}
use Rattle.promises.specs.Sources.{Thirteen}
use Rattle.promises.specs.Compacted.{sheet_made, table_made, state_made, Matches}
use Rattle.promises.proofs.Calls.{formed, refusal, unrefused, list_unrefused, accepted_listed}
use Rattle.promises.proofs.Demand2.{nothing_beyond}
use Rattle.promises.proofs.Matched.{compacted_accepted, matched_back, matched_forth, lists_alike, run_alike}

-- WHERE `compact` IS NOT REFUSED, of a table and a state that are accepted, as its contract then says (`compact_accepts`)
module _ (t : Table) (s : State) (accepted : Accepted t s) (lent : List ℕ) (answered : (size_values (compact_answer t s (length lent)).answer).refusal ≡ 0) where
  abbrev bytes : List ℕ
  bytes = compacted_sheet t s

  room : length bytes ≤ length lent
  room =
      by_cases (dec_lt (length lent) (length bytes))
      (λ h. absurd (let z : 12 ≡ 0 = ap (λ (c : Compacted). (size_values c.answer).refusal) (compact_short t s (refusal t s) refl lent (written bytes lent) (length bytes) (unrefused t s accepted) refl refl h).0 ∙ answered in omega arith))
      (λ h. omega arith)

  told : (compact_answer t s (length lent) ≡ was_compacted t s) × (compact_buffer t s lent ≡ written bytes lent)
  told = let (c, b) = compact_given t s (refusal t s) refl lent (written bytes lent) (length bytes) (unrefused t s accepted) refl refl room (restarted t s) refl in (sym c, sym b)

  -- "the compacted sheet": the bytes at the buffer's front
  pub sheet_made_law : sheet_made t s lent ≡ compacted_sheet t s
  sheet_made_law = ap₂ (λ (c : Compacted) (out : List ℕ). take (count_of c.answer) out) told.0 (told.1 ∙ sym (written_fits bytes lent _ room refl)) ∙ take_at bytes _ _ refl

  -- "A long sheet must fit beside a second one": it is no longer than the sheet of the table
  pub never_longer : length (sheet_made t s lent) ≤ terms_at + (4 * t.n + 4 * t.k)
  never_longer =
      let w = formed accepted in
      omega (arith, ap length sheet_made_law, sheet_length (compacted_head t s) (compacted_terms t s) t.conditions (omega (arith, compacted_lent t s)) (omega (arith, w.conditions_lent)), rank_upto t s)

  same_state : state_made t s lent ≡ restarted t s
  same_state = ap (λ (c : Compacted). c.state) told.0

  -- "with it a state of the same mode, waiting marks and the old link values", and its counts are the old ones
  pub state_made_law : state_made t s lent ≡ restart_of s
  state_made_law = same_state ∙ restarted_is t (formed accepted) s accepted.fits

  abbrev made : Table
  made = table_made t s lent

  held : (refusal_of (compacted t s)).number ≡ 0
  held = (compacted_accepted t s accepted).table

  -- it is read: its head, and its rows, which are those of the compacted table
  pub sheet_read_law : read_of (sheet_made t s lent) ≡ Ok (compacted_head t s)
  sheet_read_law = ap read_of sheet_made_law ∙ read_of_sheet (compacted_head t s) (compacted_terms t s) t.conditions held

  pub table_made_law : made ≡ cut (compacted t s)
  table_made_law =
      let h = compacted_head t s in
      let ts = compacted_terms t s in
      let cs = t.conditions in
      ap table_in sheet_made_law ∙ (λ i. table_of (head_back h ts cs held i) (terms_back h ts cs held i) (conditions_back h ts cs held i))

  alike : SameAnswers made (compacted t s)
  alike = nothing_beyond made (compacted t s) (ap cut table_made_law ∙ cut_twice (compacted t s))

  alike' : SameAnswers (compacted t s) made
  alike' = nothing_beyond (compacted t s) made (sym (ap cut table_made_law ∙ cut_twice (compacted t s)))

  -- the compacted sheet is accepted, and its state fits it
  pub made_accepted : Accepted made (state_made t s lent)
  made_accepted =
      rw same_state
      (list_unrefused made (restarted t s) (compacted_accepted t s accepted).sized (replicate 256 0)
      (ap (λ (n : Result ℕ Refusal). (size_values n).refusal) (alike.listed (restarted t s) 256) ∙ accepted_listed (compacted t s) (restarted t s) (compacted_accepted t s accepted) 256 (omega arith)))

  -- what matches a run of the compacted table matches the run of the sheet that takes the same steps
  matches_alike : {z : State} (G : Run (compacted t s) z) (G' : Run made z) → taken G' ≡ taken G → last G' ≡ last G → (H : Run t s) → Matches G H → Matches G' H
  matches_alike G G' p q H m = record {
    kept = m.kept;
    steps = p ∙ m.steps;
    lists = ap (listed_steps made) q ∙ (lists_alike made (compacted t s) alike (last G) ∙ m.lists);
    links = λ l. ap (λ (z : State). link z l) q ∙ m.links l;
  }

  -- "Every run from there matches [...] a run from the old state" ...
  pub runs_back : (G : Run made (state_made t s lent)) → (H : Run t s) × Matches G H
  runs_back = subst (λ (z : State). (G : Run made z) → (H : Run t s) × Matches G H) (sym same_state)
      (λ G.
      let (K, p, q) = run_alike made (compacted t s) alike G in
      let (H, m) = matched_back t s accepted K in
      (H, matches_alike K G (sym p) (sym q) H m))

  -- ... and every run from the old state one from there
  pub runs_forth : (H : Run t s) → (G : Run made (state_made t s lent)) × Matches G H
  runs_forth H = subst (λ (z : State). (G : Run made z) × Matches G H) (sym same_state)
      (let (K, m) = matched_forth t s accepted H in
      let (G, p, q) = run_alike (compacted t s) made alike' K in
      (G, matches_alike K G p q H m))

-- "renumbered from 0", "in their old order": of two kept rows the one behind has the greater new number
pub ranks_rise : (t : Table) (s : State) (i j : ℕ) → is_kept t s i ≡ true → i < j → rank t s i < rank t s j
unfolding rank
ranks_rise t s = rank_rises (is_kept t s)

-- "13 is not given for 2 and 3": `judge_table_13` and its like (`Sources`) say of each call that it answers 13 only where `Thirteen` holds
pub never_13 : (t : Table) → is_compacted t.evaluation ≡ true → (place : ℕ) → Thirteen t place → ⊥
unfolding wants
never_13 t c place h = true≢false (sym h.unsourced.wanted ∙ rw c refl)
