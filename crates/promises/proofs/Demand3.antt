-- DEMAND 3, over runs of the calls: the rows are those that `list_steps` lists, the kinds and the states those that `take_step` answers. Assumes nothing.
use Rattle.std.specs.Prelude.{Ok}
use Prim.Native.Nat.{ℕ, ◌≤◌}
use mathlib.Core.Path.{◌≡◌, refl, sym, ◌∙◌, ap}
use mathlib.Core.Logic.{◌⊎◌}
use native.Mathlib.Omega.{arith}
use Rattle.sheet.specs.Table.{Table}
use Rattle.state.specs.declared.State.{State}
use Rattle.moves.specs.Steps.{start_of}
use Rattle.moves.specs.Runs.{struck, rows_of}
use Rattle.moves.proofs.Runs.{plain_run}
use Rattle.verdict.specs.declared.Verdict.TheVariants.{Pass}
use Rattle.sheet_engine.specs.Answers.{verdict_answer, start_answer}
use Rattle.sheet_engine.proofs.Promises.{pass_demand_3}
use Rattle.promises.specs.Calls.{Accepted, Passes, fresh_in, link, listed_steps, Run, taken, last}
use Rattle.promises.proofs.Calls.{formed, run_keeps}
use Rattle.promises.proofs.Verdict.{pass_told}
use Rattle.promises.proofs.Alike.{same_listed, links_below, link_stays}
use Rattle.promises.proofs.Fresh.{fresh_state, is_started, begun, run_of, passed, ends_accepted, ends_alike}

-- "Take a sheet that is accepted and whose verdict is "pass", started fresh with cleaning and without": mode 1 is with cleaning, mode 0 without.
module _ (t : Table) (verdict : Passes t) where
  pass : verdict_answer t ≡ Ok Pass
  pass = (pass_told t).0 verdict

  pub both_start : (mode : ℕ) → mode ≤ 1 → start_answer t mode ≡ Ok (start_of t mode)
  both_start = is_started t (passed t pass)

  -- "Every run without cleaning is, row for row, also a run with it": kinds included; the two are such a pair
  pub run_forth : (G : Run t (fresh_in t 0)) → (H : Run t (fresh_in t 1)) × (taken H ≡ taken G) × (rows_of (taken G) ≡ rows_of (struck (taken H)))
  run_forth G =
      let (R, a, _) = begun t (passed t pass) 0 (omega arith) G in
      let (S, b, _) = (pass_demand_3 t pass).forth R in
      let (H, c, _) = run_of t (passed t pass) 1 (omega arith) S in
      let e = c ∙ (b ∙ a) in
      let g = fresh_state t (passed t pass) 0 (omega arith) in
      (H, e, ap rows_of (sym (ap struck (e ∙ sym a) ∙ (plain_run t (formed g) g.sized refl R ∙ a))))

  -- "strike the cleaning steps from a run with it and a run without remains"
  pub run_back : (H : Run t (fresh_in t 1)) → (G : Run t (fresh_in t 0)) × (taken G ≡ struck (taken H))
  run_back H =
      let (S, a, _) = begun t (passed t pass) 1 (omega arith) H in
      let (R, b, _) = (pass_demand_3 t pass).back S in
      let (G, c, _) = run_of t (passed t pass) 0 (omega arith) R in
      (G, c ∙ (b ∙ ap struck a))

  -- "After such a pair": any two that agree row for row once the cleaning steps are struck
  module _ (G : Run t (fresh_in t 0)) (H : Run t (fresh_in t 1)) (such : rows_of (taken G) ≡ rows_of (struck (taken H))) where
    -- "both list the same steps, cleaning steps apart"
    pub same_steps : listed_steps t (last G) ≡ struck (listed_steps t (last H))
    same_steps = same_listed t (last G) (last H) (ends_accepted t pass 0 (omega arith) G) (ends_accepted t pass 1 (omega arith) H) (ends_alike t pass G H such)

    -- "and their links differ only where the run without cleaning says unset and the cleaned one false"
    pub links_differ : (l : ℕ) → (link (last G) l ≡ link (last H) l) ⊎ ((link (last G) l ≡ 0) × (link (last H) l ≡ 1))
    links_differ = links_below t (last G) (last H) (ends_accepted t pass 0 (omega arith) G) (ends_accepted t pass 1 (omega arith) H) (ends_alike t pass G H such).below

-- "A link once set never alters": between any two points of a run, in either mode, from any state that is accepted
pub links_never_alter : (t : Table) (s : State) → Accepted t s → (G : Run t s) (K : Run t (last G)) (l : ℕ) → (link (last G) l ≡ 0) ⊎ (link (last K) l ≡ link (last G) l)
links_never_alter t s a G K = link_stays (run_keeps a G) K
