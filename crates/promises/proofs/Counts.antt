-- DOCUMENT 02, REQUEST 6: is there work left? Over what `acts_left` and `links_unset` answer. Assumes nothing.
use Rattle.std.specs.Result.{is_ok}
use Prim.Native.Nat.{ℕ, ◌<◌, ◌≤◌}
use mathlib.Core.Path.{◌≡◌, refl, sym, ◌∙◌, ap, subst}
use mathlib.Core.Bool.{true, false, ◌&&◌, not, true≢false}
use mathlib.Core.List.{List, [], ◌∷◌, ◌++◌}
use mathlib.Core.Logic.{⊎_elim, ◌↔◌}
use native.Mathlib.Omega.{arith}
use lib.ListN.{length}
use Rattle.laws.specs.Sums.{count}
use Rattle.laws.specs.Checks.{Check, Holds, AllHold}
use Rattle.laws.proofs.Tests.{cases, refuted}
use Rattle.laws.proofs.Sums.{count_none, count_all}
use Rattle.laws.proofs.Checks.{all_hold}
use Rattle.calculus.specs.Status.{Value, Unset}
use Rattle.calculus.specs.Rows.{rows}
use Rattle.conditions.specs.Conditions.{is_set}
use Rattle.conditions.proofs.Evaluation.{set_value}
use Rattle.steps.specs.InFront.{waiting_act}
use Rattle.sheet.specs.declared.Refusal.{Refusal}
use Rattle.sheet.specs.Table.{Table, process_of}
use Rattle.sheet.specs.Rules.{refuse, refusal_of, no}
use Rattle.sheet.specs.Sheet.{room}
use Rattle.sheet.proofs.Refusals.{without}
use Rattle.state.specs.declared.State.{State}
use Rattle.moves.specs.Steps.{marks_of, links_of, Sized, nodes, left_in, listed_of, acts_of, act_in, unset_of}
use Rattle.moves.specs.Standing.{waiting_of}
use Rattle.moves.specs.Fits.{counts_ok, counts_fit, Fits}
use Rattle.moves.proofs.Fits.{counts_said}
use Rattle.moves.proofs.Counts.{acts_by_row, act_row}
use Rattle.moves.proofs.Demand.{fresh_left, fresh_links}
use Rattle.compacted.specs.Compacted.{compacted_sheet}
use Rattle.sheet_engine.specs.Answers.{acts_left, links_unset, call_checks, list_answer, standing_answer, waits_answer, kind_answer, not_taken, step_answer, not_compacted, compact_answer}
use Rattle.sheet_engine.proofs.Values.{all_held}
use Rattle.sheet_engine.proofs.Steps.{state_back}
use Rattle.promises.specs.Calls.{Accepted, fresh_in, next, Run, last}
use Rattle.promises.specs.Refused.{FirstFails}
use Rattle.promises.specs.Counts.{FullCounts, up_to_d}
use Rattle.promises.proofs.Calls.{formed, unrefused, accepts, taken_keeps, run_keeps}
use Rattle.promises.proofs.Fresh.{is_fresh, fresh_accepted}
use Rattle.promises.proofs.Refused.{one_out, first_fails}

-- (e) says of any table and state that no count is wrong
pub fifth_says : (t : Table) (s : State) → Holds (counts_fit t.m t.terms t.n s) ↔ FullCounts t s
fifth_says t s = (
  λ h. let (a, u) = (counts_said t s).0 (h 0 (omega arith) (omega arith)) in record { acts = a; unset = u },
  λ full _ _ _. (counts_said t s).1 (full.acts, full.unset),
)

-- "equal to the full counts in every fitting state"
pub full_counts : (t : Table) (s : State) → Fits t s → FullCounts t s
full_counts t s fits = (fifth_says t s).0 fits.counts_fit_holds

module _ (t : Table) (s : State) (accepted : Accepted t s) where
  -- "ACT rows in the remainder", row by row: how many rows of the sheet are such ...
  pub acts_rows : acts_left s ≡ count (act_in (left_in t s)) t.n
  acts_rows = (full_counts t s accepted.fits).acts ∙ acts_by_row t.terms t.n (marks_of s) (formed accepted).tree

  -- ... and which: the ACT rows of the sheet that wait and stand in what is left
  pub acts_which : (k : ℕ) → act_in (left_in t s) k ≡ (waiting_act (nodes t k) (marks_of s k) && rows (left_in t s) k)
  acts_which k = act_row t.terms t.n (formed accepted).tree (marks_of s) k

  -- "Is there work left?": `acts_left` answers 0 exactly if no row is one of them ...
  pub none_left : (acts_left s ≡ 0) ↔ ((k : ℕ) → k < t.n → act_in (left_in t s) k ≡ false)
  none_left = subst (λ (x : ℕ). (x ≡ 0) ↔ ((k : ℕ) → k < t.n → act_in (left_in t s) k ≡ false)) (sym acts_rows) (count_none (act_in (left_in t s)) t.n)

  -- ... and `links_unset` answers 0 exactly if none of the sheet's m links is unset
  pub none_unset : (links_unset s ≡ 0) ↔ ((l : ℕ) → l < t.m → links_of s l ≡ Unset → ⊥)
  unfolding unset_of
  none_unset =
      let full = (full_counts t s accepted.fits).unset in
      let (to, back) = count_none (λ l. not (is_set (links_of s l))) t.m in
      ((λ e l h z. true≢false (sym (ap (λ (v : Value). not (is_set v)) z) ∙ to (sym full ∙ e) l h)), λ f. full ∙ back (λ l h. ap not (set_value (links_of s l) (f l h))))

-- "Both are kept true by every step, pick decisions and cleaning included": after a step of any kind, and where a row has none and the state is as it was. `step_in_place` leaves the same state in the caller's record.
pub step_counts : (t : Table) (s : State) → Accepted t s → (row : ℕ) → FullCounts t (next t s row)
step_counts t s accepted row =
    ⊎_elim
    (λ (e : is_ok (step_answer t s row).answer ≡ true). full_counts t (next t s row) (taken_keeps t s accepted row e).fits)
    (λ (e : is_ok (step_answer t s row).answer ≡ false). rw (state_back t s row e) (full_counts t s accepted.fits))
    (cases (is_ok (step_answer t s row).answer))

-- ... so after every run
pub run_counts : (t : Table) (s : State) → Accepted t s → (G : Run t s) → FullCounts t (last G)
run_counts t s accepted G = full_counts t (last G) (run_keeps accepted G).fits

-- "A fresh state carries them too": as many ACTs are left as the sheet's process has, and all m links are unset
module _ (t : Table) (accepted : (refusal_of t).number ≡ 0) (mode : ℕ) (h : mode ≤ 1) where
  pub fresh_counts : FullCounts t (fresh_in t mode)
  fresh_counts = full_counts t (fresh_in t mode) (fresh_accepted t accepted mode h).fits

  pub fresh_acts : acts_left (fresh_in t mode) ≡ acts_of (process_of t)
  fresh_acts = rw (is_fresh t accepted mode h) (ap acts_of (fresh_left t mode))

  pub fresh_unset : links_unset (fresh_in t mode) ≡ t.m
  unfolding unset_of
  fresh_unset = rw (is_fresh t accepted mode h, fresh_links t mode) (count_all (λ l. true) t.m (λ l _. refl))

-- "10 gets a fifth part (e) [...] checked last": it stands after 9 and (a) to (d)
pub fifth_stands : (t : Table) (s : State) → call_checks t s ≡ up_to_d t s ++ (counts_fit t.m t.terms t.n s ∷ [])
fifth_stands t s = refl

-- so a table and a state, of 256 marks and 64 links, are accepted exactly if all the others hold and no count is wrong
pub accepted_counts : (t : Table) (s : State) → Accepted t s ↔ (Sized s × AllHold (up_to_d t s) × FullCounts t s)
unfolding without
accepted_counts t s =
    let (to, back) = one_out (up_to_d t s) (counts_fit t.m t.terms t.n s) [] in (
      λ a. (a.sized, (to (all_held (call_checks t s) refl (unrefused t s a))).0, full_counts t s a.fits),
      λ (whole, hold, full). accepts t s (ap (λ (r : Refusal). r.number) (all_hold refuse (refuse 0 0) (call_checks t s) (back (hold, (fifth_says t s).1 full)))) whole,
    )

-- "a wrong count, place 0": where all the others hold and a count is wrong, every call that judges the state refuses it with 10 and 0. `step_in_place` answers what `take_step` does.
module _ (t : Table) (s : State) (others : AllHold (up_to_d t s)) (wrong : FullCounts t s → ⊥) where
  pub wrong_first : (after : List Check) → FirstFails (call_checks t s ++ after) 10 0
  wrong_first after = record {
    before = up_to_d t s;
    check = counts_fit t.m t.terms t.n s;
    after = after;
    order = refl;
    before_hold = others;
    its_number = refl;
    from = omega arith;
    inside = omega arith;
    breaks = refuted (counts_ok t.m t.terms t.n s) (λ e. wrong ((fifth_says t s).0 (λ _ _ _. e)));
    lowest = λ p _ below. absurd (let no : ⊥ = omega arith in no);
  }

  pub list_wrong : (lent : ℕ) → list_answer t s lent ≡ no 10 0
  unfolding list_answer
  list_wrong lent = first_fails no _ (wrong_first (room (length (listed_of t s)) lent ∷ []))

  pub standing_wrong : (lent : ℕ) → standing_answer t s lent ≡ no 10 0
  unfolding standing_answer
  standing_wrong lent = first_fails no _ (wrong_first (room (length (waiting_of t s)) lent ∷ []))

  pub waits_wrong : (lent : ℕ) → waits_answer t s lent ≡ no 10 0
  unfolding waits_answer
  waits_wrong lent = first_fails no _ (wrong_first (room (length (waiting_of t s)) lent ∷ []))

  pub compact_wrong : (lent : ℕ) → compact_answer t s lent ≡ not_compacted s 10 0
  unfolding compact_answer
  compact_wrong lent = first_fails (not_compacted s) _ (wrong_first (room (length (compacted_sheet t s)) lent ∷ []))

  pub kind_wrong : (row : ℕ) → kind_answer t s row ≡ no 10 0
  unfolding kind_answer
  kind_wrong row = first_fails no _ (wrong_first [])

  pub step_wrong : (row : ℕ) → step_answer t s row ≡ not_taken s 10 0
  unfolding step_answer
  step_wrong row = first_fails (not_taken s) _ (wrong_first [])
