-- DOCUMENT 02, REQUEST 5: which link a join waits for, over what evaluation hands back and what `standing` and `waits_for` answer. Assumes nothing.
use Prim.Native.Nat.{ℕ, ◌<◌, ◌≤◌}
use mathlib.Core.Path.{◌≡◌, refl, sym, ◌∙◌, ap, subst, fun_ext}
use mathlib.Core.Bool.{true≢false}
use mathlib.Core.List.{List}
use mathlib.Core.Logic.{⊎_elim, by_cases, ◌↔◌}
use native.Mathlib.Omega.{arith}
use native.Mathlib.Decide.{ℕ_discrete}
use lib.ListN.{length, get_or}
use Rattle.laws.proofs.Members.{member_at, map_at}
use Rattle.calculus.specs.Process.{Process}
use Rattle.calculus.specs.Status.{Value, Unset, False, Links}
use Rattle.calculus.specs.Plain.{Label}
use Rattle.calculus.specs.Places.{plain, cleans}
use Rattle.calculus.specs.Rules.{Rule}
use Rattle.conditions.specs.Conditions.{condition, is_set}
use Rattle.conditions.specs.Awaited.{Awaits}
use Rattle.steps.specs.Verdict.{SheetPasses}
use Rattle.sheet.specs.Table.{Table, row_at, condition_row_at, eval_in}
use Rattle.sheet.specs.Rules.{refusal_of}
use Rattle.sheet.proofs.Accepted.{meets, well_formed}
use Rattle.worth.specs.declared.Worth.TheVariants as worth
use Rattle.worth.specs.Worth.{no_link, value_of, awaited_at, worth_of, worth_in}
use Rattle.worth.proofs.Values.{worth_value, worth_unset}
use Rattle.state.specs.declared.State.{State}
use Rattle.moves.specs.Steps.{mode_of, links_of, left_in}
use Rattle.moves.specs.Standing.{waiting_of, awaited_of, awaits_of, join_value, WaitsForLink, WaitsForNone, Waits}
use Rattle.moves.proofs.Standing.{row_waits, awaits_length}
use Rattle.promises.specs.Calls.{Accepted, Passes, waiting_rows, awaited_in, awaited_bytes, Allowed}
use Rattle.promises.proofs.Demand2.{pass_exactly}
use Rattle.promises.proofs.Calls.{formed, refusal, unrefused, waiting_are, awaited_are, awaited_any}
-- ... no second link is the lowest
pub use Rattle.conditions.proofs.Awaited.{awaits_one}

-- "Listing, verdict and steps must live with the richer answer": what they read is its value part
pub value_part : (t : Table) → (λ q v. value_of (worth_in t q v)) ≡ eval_in t
value_part t = fun_ext (λ q. fun_ext (λ v. worth_value t.evaluation t.conditions q v))

-- ... so R's rules allow the same steps by it, which are those that are listed and taken
pub steps_read : (t : Table) (s : State) (α : Label) (P : Process) (v : Links) → Rule (λ q v. value_of (worth_in t q v)) (mode_of s.mode) (left_in t s) (links_of s) α P v ≡ Allowed t s α P v
steps_read t s α P v = ap (λ (e : ℕ → Links → Value). Rule e (mode_of s.mode) (left_in t s) (links_of s) α P v) (value_part t)

-- ... and the verdict is pass exactly if the table is accepted and every JOIN's condition passes by it
pub verdict_reads : (t : Table) → Passes t ↔ (((refusal_of t).number ≡ 0) × SheetPasses (λ q v. value_of (worth_in t q v)) (row_at t.terms) t.n)
verdict_reads t = subst (λ (e : ℕ → Links → Value). Passes t ↔ (((refusal_of t).number ≡ 0) × SheetPasses e (row_at t.terms) t.n)) (sym (value_part t)) (pass_exactly t)

-- "Where a condition is unset, evaluation also hands back the lowest unset link reached from it": of an accepted table, under both evaluations, at any links, exactly there, and that link
module _ (t : Table) (accepted : (refusal_of t).number ≡ 0) (q : ℕ) (inside : q < t.k) (v : Links) where
  pub handed_back : (l : ℕ) → (worth_in t q v ≡ worth.Unset l) ↔ ((eval_in t q v ≡ Unset) × Awaits (condition (condition_row_at t.conditions) q) v l)
  handed_back =
      let w = well_formed t (meets t accepted) in
      worth_unset t.evaluation t.conditions q v (λ l e. let h : l < t.m = w.links q l inside e in omega (arith, w.few_links))

  pub unset_exactly : (eval_in t q v ≡ Unset) ↔ ((l : ℕ) × (worth_in t q v ≡ worth.Unset l))
  unfolding worth_of
  unset_exactly = ((λ e. (awaited_at t.conditions q v, rw e refl)), λ (l, e). ((handed_back l).0 e).0)

-- every buffer that is long enough holds the same bytes
pub awaited_in_any : (t : Table) (s : State) (lent : List ℕ) → length (awaited_bytes t s) ≤ length lent → awaited_in t s lent ≡ awaited_bytes t s
awaited_in_any = awaited_any

-- a mode of a state that is accepted, by its number
mode_plain : (m : ℕ) → m ≤ 1 → mode_of m ≡ plain → m ≡ 0
unfolding mode_of cleans
mode_plain m h e = by_cases (ℕ_discrete m 1) (λ z. absurd (true≢false (ap cleans (rw z at e)))) (λ z. omega arith)

module _ (t : Table) (s : State) (accepted : Accepted t s) where
  free : (refusal t s).number ≡ 0
  free = unrefused t s accepted

  -- one byte for each row that `standing` tells
  pub byte_each : length (awaited_bytes t s) ≡ length (waiting_rows t s)
  byte_each = rw (awaited_are t s free, waiting_are t s free) (awaits_length t s)

  -- and in the same order: the row at place i, and the byte at place i
  module _ (i : ℕ) (inside : i < length (waiting_rows t s)) where
    abbrev row : ℕ
    row = get_or (waiting_rows t s) i 0

    abbrev byte : ℕ
    byte = get_or (awaited_bytes t s) i 0

    -- "each row followed by its link, or by "-" where the condition is false": the condition is unset and the byte is the lowest unset link reached from it; or it is false, the byte is 255 and the mode is plain
    pub each_waits : Waits t s row byte
    unfolding awaits_of
    each_waits =
        rw (awaited_are t s free, waiting_are t s free)
        (let h = rw (waiting_are t s free) at inside in subst (Waits t s (get_or (waiting_of t s) i 0)) (sym (map_at (awaited_of t s) (waiting_of t s) i h)) (row_waits t (formed accepted) s _ (member_at (waiting_of t s) i h)))

    -- a link of the sheet is told exactly where the condition is unset
    pub link_exactly : (byte < t.m) ↔ (join_value t s row ≡ Unset)
    link_exactly =
        ⊎_elim
        (λ (w : WaitsForLink t s row byte). ((λ h. w.is_unset), λ e. w.one_of_m))
        (λ (w : WaitsForNone t s row byte). ((λ h. absurd (let f : t.m ≤ 64 = (formed accepted).few_links in omega (arith, w.has_no_link))), λ e. absurd (true≢false (ap is_set (sym w.value_is_false ∙ e)))))
        each_waits

    -- 255, which is no link of any sheet, exactly where it is false
    pub none_exactly : (byte ≡ no_link) ↔ (join_value t s row ≡ False)
    none_exactly =
        ⊎_elim
        (λ (w : WaitsForLink t s row byte). ((λ h. absurd (let f : t.m ≤ 64 = (formed accepted).few_links in omega (arith, w.one_of_m))), λ e. absurd (true≢false (ap is_set (sym e ∙ w.is_unset)))))
        (λ (w : WaitsForNone t s row byte). ((λ h. w.value_is_false), λ e. w.has_no_link))
        each_waits

    -- "-" stands only in plain mode
    pub none_plain : byte ≡ no_link → s.mode ≡ 0
    none_plain e =
        ⊎_elim
        (λ (w : WaitsForLink t s row byte). absurd (let f : t.m ≤ 64 = (formed accepted).few_links in omega (arith, w.one_of_m)))
        (λ (w : WaitsForNone t s row byte). mode_plain s.mode accepted.mode w.is_plain)
        each_waits
