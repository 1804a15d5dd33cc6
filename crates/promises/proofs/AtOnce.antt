-- DOCUMENT 02, REQUEST 7: two fitters confirm at once. Over what the calls answer. Assumes nothing.
use mathlib.Core.Path.{◌≡◌, sym, ◌∙◌}
use mathlib.Core.Bool.{true}
use mathlib.Core.List.{Memᴰ}
use Prim.Native.Nat.{ℕ, ◌≤◌}
use Rattle.steps.specs.InFront.{in_front}
use Rattle.sheet.specs.Table.{Table}
use Rattle.state.specs.declared.State.{State}
use Rattle.moves.specs.Steps.{marks_of, nodes, has_step, stepped_of}
use Rattle.moves.specs.Above.{OnTwoSides}
use Rattle.moves.proofs.AtOnce.{on_two_sides_sym, flow_in_front, still_there, same_after}
use Rattle.promises.specs.Calls.{Accepted, listed_rows, next}
use Rattle.promises.specs.AtOnce.{First, EitherFirst}
use Rattle.promises.proofs.Calls.{formed, one_source_law, refusal, unrefused, kind_is, row_listed, ok_is, state_is, stepped}

module _ (t : Table) (s : State) (accepted : Accepted t s) where
  free : (refusal t s).number ≡ 0
  free = unrefused t s accepted

  -- "one waiting FLOW": the FLOW waits, and one reaches it
  pub flow_waits : (f i j : ℕ) → OnTwoSides t f i j → Memᴰ i (listed_rows t s) → in_front (nodes t) (marks_of s) t.n f ≡ true
  flow_waits f i j sides one = flow_in_front t (formed accepted) s f i j sides ((row_listed t s free i).0 one)

  -- row i, and then row j
  module _ (i j : ℕ) (p : has_step t s i ≡ true) where
    free_after : (refusal t (stepped_of t s i)).number ≡ 0
    free_after = unrefused t (stepped_of t s i) (stepped t s accepted i p)

    goes_first : (f : ℕ) → OnTwoSides t f i j → has_step t s j ≡ true → First t s i j
    goes_first f sides q =
        let (there, kind) = still_there t (formed accepted) (one_source_law accepted) s accepted.sized accepted.fits f i j sides p q in
        record {
          may_be_taken = ok_is t s free i ∙ p;
          still_listed = rw (state_is t s free i) ((row_listed t (stepped_of t s i) free_after j).1 there);
          same_kind = rw (state_is t s free i) (kind_is t (stepped_of t s i) free_after j ∙ (kind ∙ sym (kind_is t s free j)));
        }

    both_steps : next t (next t s i) j ≡ stepped_of t (stepped_of t s i) j
    both_steps = rw (state_is t s free i) (state_is t (stepped_of t s i) free_after j)

  -- "In a fitting state let two listed steps lie on the two sides of one waiting FLOW. Show that either may be taken first, that the other is still listed with its kind unchanged, and that both orders reach the same state."
  -- "This holds for accepted sheets in both modes and under both evaluations, proved once over them, verdict or no verdict." That the mode is 0 or 1 is asked here, though `Accepted` says it too: the sentence is about these two, whatever the calls accept.
  pub two_at_once : s.mode ≤ 1 → (f i j : ℕ) → OnTwoSides t f i j → Memᴰ i (listed_rows t s) → Memᴰ j (listed_rows t s) → EitherFirst t s i j
  two_at_once mode f i j sides one other =
      let p = (row_listed t s free i).0 one in
      let q = (row_listed t s free j).0 other in
      record {
        one_first = goes_first i j p f sides q;
        other_first = goes_first j i q f (on_two_sides_sym sides) p;
        same_state = both_steps i j p ∙ (same_after t (formed accepted) (one_source_law accepted) s accepted.sized accepted.fits f i j sides p q ∙ sym (both_steps j i q));
      }
