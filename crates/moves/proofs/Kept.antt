-- From any fitting state, along any run: the state fits, the mode stays, no link once set alters, and the run is no longer than the steps that wait. Assumes nothing.
use Rattle.std.specs.Prelude.{Ok}
use mathlib.Core.Path.{◌≡◌, sym, ap, ◌∙◌, subst}
use mathlib.Core.Bool.{Bool, true}
use mathlib.Core.Logic.{◌⊎◌, inl, inr, ⊎_elim}
use mathlib.Core.Option.{some}
use Prim.Native.Nat.{ℕ, ◌≤◌}
use lib.ListN.{length, length-map}
use Rattle.calculus.specs.Places.{Grows}
use Rattle.calculus.specs.Runs.{trail}
use Rattle.steps.specs.InFront.{waiting_steps}
use Rattle.steps.proofs.Length.{run_bound}
use Rattle.sheet.specs.Table.{Table, eval_in}
use Rattle.sheet.specs.Accepted.{WellFormed, SingleSource}
use Rattle.state.specs.declared.State.{State}
use Rattle.state.specs.declared.StepKind.TheVariants.{Clean}
use Rattle.state.specs.State.{side_mark}
use Rattle.moves.specs.Steps.{marks_of, links_of, Sized, nodes, kind_at, has_step, stepped_of}
use Rattle.moves.specs.Above.{PickAbove}
use Rattle.moves.specs.Fits.{Fits}
use Rattle.moves.specs.Runs.{Run, done, take, taken, last}
use Rattle.moves.proofs.Moves.{has_turn, takes_kind, step_kept}
use Rattle.moves.proofs.Frame.{step_frames}
use Rattle.moves.proofs.Runs.{shown, to_moves, grows_run}
use Rattle.moves.proofs.Fits.{fits_valid, fits_step}

module _ (t : Table) (w : WellFormed t) where
  -- "From any fitting state a run has at most as many steps as there are waiting ACT, OUT and JOIN rows": from any state of the right size
  pub run_length : {s : State} → Sized s → (R : Run t s) → length (taken R) ≤ waiting_steps (nodes t) (marks_of s) t.n
  run_length {s} h R =
      let (S, a, _, _) = to_moves t w h R in
      subst (λ (c : ℕ). c ≤ waiting_steps (nodes t) (marks_of s) t.n) (sym (length-map (trail (eval_in t) S) shown) ∙ ap length a) (run_bound (nodes t) t.n (marks_of s) w.tree (eval_in t) S)

  module _ (source : SingleSource t) where
    pub fits_run : {s : State} → Sized s → Fits t s → (R : Run t s) → Fits t (last R)
    unfolding last
    fits_run h f done = f
    fits_run {s} h f (take r e R) = fits_run (step_kept t w s h r e).0 (fits_step t w source s h r e f) R

    -- "A link once set never alters": from any fitting state
    pub links_never_alter : {s : State} → Sized s → Fits t s → (R : Run t s) → Grows (links_of s) (links_of (last R))
    links_never_alter {s} h f R = grows_run t w h (fits_valid t w source s f) R

    -- "Nothing else changes": the mode stays; a mark that changes is the row's or that of a waiting PICK above it, decided towards it, and a clean step decides none; a link that changes was unset
    pub nothing_else : {s : State} → Sized s → Fits t s → (r : ℕ) → has_step t s r ≡ true → ((stepped_of t s r).mode ≡ s.mode) × ((k : ℕ) → (marks_of (stepped_of t s r) k ≡ marks_of s k) ⊎ ((k ≡ r) ⊎ ((kind_at t s r ≡ Ok Clean → ⊥) × (side : Bool) × PickAbove t s r k side × (marks_of (stepped_of t s r) k ≡ side_mark side)))) × Grows (links_of s) (links_of (stepped_of t s r))
    unfolding last
    nothing_else {s} h f r e =
        let (u, q) = has_turn t s r e in (
          (step_kept t w s h r e).1,
          λ k. ⊎_elim inl (λ c. inr (⊎_elim (λ d. inl d.0) (λ (v, side, p, x). inr (takes_kind t s r (q ∙ ap some v), side, p, x)) c)) (step_frames t w s r u q k),
          links_never_alter h f (take r e done),
        )
