-- Runs of the calls from a fresh start, where the verdict is pass. Assumes nothing.
use Rattle.std.specs.Prelude.{Result, Ok}
use Prim.Native.Nat.{ℕ, ◌≤◌}
use mathlib.Core.Path.{◌≡◌, refl, sym, ◌∙◌, ap, subst, subst₂}
use mathlib.Core.List.{List}
use native.Mathlib.Omega.{arith}
use Rattle.sheet.specs.Table.{Table}
use Rattle.sheet.specs.declared.Refusal.{Refusal}
use Rattle.sheet.specs.Rules.{refusal_of}
use Rattle.state.specs.declared.State.{State}
use Rattle.moves.specs.Steps.{start_of}
use Rattle.moves.specs.Runs.{Taken, struck, rows_of, Alike}
use Rattle.moves.specs.Runs.{Run as Steps, taken as steps_taken, last as last_state}
use Rattle.moves.proofs.Fits.{fresh_sized, fresh_fits}
use Rattle.verdict.specs.declared.Verdict.TheVariants.{Pass}
use Rattle.sheet_engine.specs.Answers.{verdict_answer, start_answer}
use Rattle.sheet_engine.specs.Values.{start_values}
use Rattle.sheet_engine.proofs.Calls.{start_fresh}
use Rattle.sheet_engine.proofs.Promises.{pass_answered, pass_demand_3}
use Rattle.promises.specs.Calls.{Accepted, fresh_in, Run, taken, last}
use Rattle.promises.proofs.Calls.{to_steps, from_steps, run_keeps}

-- an accepted table is started in either mode
module _ (t : Table) (accepted : (refusal_of t).number ≡ 0) (mode : ℕ) (h : mode ≤ 1) where
  pub is_started : start_answer t mode ≡ Ok (start_of t mode)
  is_started = sym (start_fresh t (refusal_of t) refl mode accepted h (start_of t mode) refl)

  pub is_fresh : fresh_in t mode ≡ start_of t mode
  is_fresh = ap (λ (a : Result State Refusal). (start_values a).state) is_started

  pub fresh_state : Accepted t (start_of t mode)
  fresh_state = record { table = accepted; mode = h; fits = fresh_fits t mode; sized = fresh_sized t mode }

  pub fresh_accepted : Accepted t (fresh_in t mode)
  fresh_accepted = subst (Accepted t) (sym is_fresh) fresh_state

  -- a run from there is one of `moves`, and the other way
  pub begun : (G : Run t (fresh_in t mode)) → (R : Steps t (start_of t mode)) × (steps_taken R ≡ taken G) × (last_state R ≡ last G)
  begun G = subst (λ (z : State). (R : Steps t z) × (steps_taken R ≡ taken G) × (last_state R ≡ last G)) is_fresh (to_steps fresh_accepted G)

  pub run_of : (R : Steps t (start_of t mode)) → (G : Run t (fresh_in t mode)) × (taken G ≡ steps_taken R) × (last G ≡ last_state R)
  run_of R = subst (λ (z : State). (G : Run t z) × (taken G ≡ steps_taken R) × (last G ≡ last_state R)) (sym is_fresh) (from_steps fresh_state R)

module _ (t : Table) (pass : verdict_answer t ≡ Ok Pass) where
  pub passed : (refusal_of t).number ≡ 0
  passed = ((pass_answered t).0 pass).0

  pub ends_accepted : (mode : ℕ) → mode ≤ 1 → (G : Run t (fresh_in t mode)) → Accepted t (last G)
  ends_accepted mode h G = run_keeps (fresh_accepted t passed mode h) G

  pub ends_alike : (G : Run t (fresh_in t 0)) (H : Run t (fresh_in t 1)) → rows_of (taken G) ≡ rows_of (struck (taken H)) → Alike t (last G) (last H)
  ends_alike G H such =
      let (R, a, p) = begun t passed 0 (omega arith) G in
      let (S, b, q) = begun t passed 1 (omega arith) H in
      subst₂ (Alike t) p q ((pass_demand_3 t pass).pair R S (ap rows_of a ∙ (such ∙ ap (λ (l : List Taken). rows_of (struck l)) (sym b))))
