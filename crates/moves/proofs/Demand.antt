-- DEMAND 3 over the runs of an accepted table whose verdict is pass. Assumes nothing.
use mathlib.Core.Path.{◌≡◌, refl, sym, ap, ◌∙◌, subst, subst₂, fun_ext}
use mathlib.Core.List.{List, [], ◌∷◌, map}
use Prim.Native.Nat.{ℕ}
use lib.ListN.{replicate}
use Rattle.laws.proofs.Up.{get_d_constant}
use Rattle.calculus.specs.Process.{Process, Prefix, act, out, join}
use Rattle.calculus.specs.Status.{Value, Links, all_unset}
use Rattle.calculus.specs.Plain.{Label, step, clean}
use Rattle.calculus.specs.Places.{Mode, plain, cleaning}
use Rattle.calculus.specs.Runs.{strike, trail, Alike as Similar}
use Rattle.calculus.specs.Rows.{row_of}
use Rattle.calculus.specs.Demand.{Demand3 as Demand3-of}
use Rattle.steps.specs.Marks.{Marks, remainder}
use Rattle.steps.specs.Verdict.{SheetPasses}
use Rattle.steps.proofs.Marks.{remainder_fresh}
use Rattle.steps.proofs.Demand.{sheet_demand_3}
use Rattle.sheet.specs.Table.{Table, condition_row_at, evaluation_of, eval_in, process_of}
use Rattle.sheet.specs.Accepted.{WellFormed, SingleSource}
use Rattle.moves.specs.Steps.{mode_of, links_of, nodes, left_in, kind_of, kind_in, start_of}
use Rattle.moves.specs.Runs.{Run, Taken, last, struck, rows_of, Alike, Demand3}
use Rattle.moves.proofs.Runs.{shown, As, to_moves, from_moves, run_kept}
use Rattle.moves.proofs.Falsify.{zero_unset}
use Rattle.moves.proofs.Alike.{similar_alike}
use Rattle.moves.proofs.Fits.{fresh_sized, fresh_fits}
use Rattle.moves.proofs.Kept.{fits_run, links_never_alter}

-- striking, and the rows, of what labels show
struck_one : (r : ℕ) (π : Prefix) (l : List Taken) → struck (shown (step r π) ∷ l) ≡ shown (step r π) ∷ struck l
unfolding struck kind_in kind_of
struck_one r (act a) l = refl
struck_one r (out k b) l = refl
struck_one r (join c) l = refl

struck_shown : (l : List Label) → struck (map shown l) ≡ map shown (strike l)
unfolding struck strike kind_in
struck_shown [] = refl
struck_shown (step r π ∷ l) = struck_one r π (map shown l) ∙ ap (λ (k : List Taken). shown (step r π) ∷ k) (struck_shown l)
struck_shown (clean r ∷ l) = struck_shown l

rows_shown : (l : List Label) → rows_of (map shown l) ≡ map row_of l
rows_shown [] = refl
rows_shown (α ∷ l) = ap (λ (k : List ℕ). row_of α ∷ k) (rows_shown l)

-- the two modes
pub plain_mode : mode_of 0 ≡ plain
unfolding mode_of
plain_mode = refl

pub cleaning_mode : mode_of 1 ≡ cleaning
unfolding mode_of
cleaning_mode = refl

-- a fresh state is the sheet's process with all links unset
pub fresh_left : (t : Table) (mode : ℕ) → left_in t (start_of t mode) ≡ process_of t
fresh_left t mode = ap (λ (μ : Marks). remainder μ (process_of t)) (fun_ext (λ k. get_d_constant 0 256 k)) ∙ remainder_fresh (process_of t)

pub fresh_links : (t : Table) (mode : ℕ) → links_of (start_of t mode) ≡ all_unset
fresh_links t mode = fun_ext (λ k. zero_unset (replicate 64 0) k (get_d_constant {A = ℕ} 0 64 k))

module _ (t : Table) (w : WellFormed t) (source : SingleSource t) where
  abbrev eval : ℕ → Links → Value
  eval = eval_in t

  abbrev W : Process
  W = process_of t

  -- a run from a fresh state, as one of the process
  pub begun : (x : ℕ) (m : Mode) → mode_of x ≡ m → (R : Run t (start_of t x)) → As t w R m W all_unset
  begun x m e R = subst (λ (m : Mode). As t w R m W all_unset) e (subst₂ (As t w R (mode_of x)) (fresh_left t x) (fresh_links t x) (to_moves t w (fresh_sized t x) R))

  ended : (G : Run t (start_of t 0)) (H : Run t (start_of t 1)) (P Q : Process) (u v : Links) → P ≡ left_in t (last G) → u ≡ links_of (last G) → Q ≡ left_in t (last H) → v ≡ links_of (last H) → Similar eval cleaning P u Q v → Alike t (last G) (last H)
  ended G H P Q u v a b c d f =
      let (g, p) = run_kept t w (fresh_sized t 0) G in
      let (h, q) = run_kept t w (fresh_sized t 1) H in
      similar_alike t w (last G) (last H) g h (ap mode_of p ∙ plain_mode) (ap mode_of q ∙ cleaning_mode) (subst₂ (λ (P : Process) (u : Links). Similar eval cleaning P u (left_in t (last H)) (links_of (last H))) a b (subst₂ (Similar eval cleaning P u) c d f))

  pub demand_3 : SheetPasses eval (nodes t) t.n → Demand3 t
  demand_3 pass =
      let d : Demand3-of eval W = sheet_demand_3 (evaluation_of t.evaluation) (condition_row_at t.conditions) (nodes t) t.n w.tree source pass in
      record {
        forth = λ G.
            let (G', a, b, c) = begun 0 plain plain_mode G in
            let (H', e, f) = d.forth G' in
            let (H, a', b', c') = from_moves t w source H' (start_of t 1) (fresh_sized t 1) cleaning_mode (fresh_left t 1) (fresh_links t 1) in
            (H, a' ∙ (ap (map shown) e ∙ a), ended G H _ _ _ _ b c (sym b') (sym c') f);
        back = λ H.
            let (H', a, b, c) = begun 1 cleaning cleaning_mode H in
            let (G', e, f) = d.back H' in
            let (G, a', b', c') = from_moves t w source G' (start_of t 0) (fresh_sized t 0) plain_mode (fresh_left t 0) (fresh_links t 0) in
            (G, a' ∙ (ap (map shown) e ∙ (sym (struck_shown (trail eval H')) ∙ ap struck a)), ended G H _ _ _ _ (sym b') (sym c') b c f);
        pair = λ G H e.
            let (G', a, b, c) = begun 0 plain plain_mode G in
            let (H', a', b', c') = begun 1 cleaning cleaning_mode H in
            let rows = ap rows_of a ∙ (e ∙ (ap (λ (l : List Taken). rows_of (struck l)) (sym a') ∙ ap rows_of (struck_shown (trail eval H')))) in
            ended G H _ _ _ _ b c b' c' (d.pair G' H' (sym (rows_shown (trail eval G')) ∙ (rows ∙ rows_shown (strike (trail eval H')))));
        stay = λ mode G K. links_never_alter t w source (run_kept t w (fresh_sized t mode) G).0 (fits_run t w source (fresh_sized t mode) (fresh_fits t mode) G) K;
      }
