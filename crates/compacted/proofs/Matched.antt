-- EVERY RUN OF THE COMPACTED TABLE MATCHES ONE FROM THE OLD STATE, and the other way: row for row under the renumbering, with the same kinds, to the same links and the same lists. Assumes nothing.
use Prim.Native.Nat.{ℕ, ◌+◌}
use mathlib.Core.Path.{◌≡◌, refl, sym, ◌∙◌, ap, subst, transport, transport⁻¹}
use mathlib.Core.Bool.{true}
use mathlib.Core.List.Memᴰ
use mathlib.Core.List.{◌∷◌, map, Memᴰ}
use mathlib.Core.Logic.{⊎_elim}
use native.Mathlib.Omega.{arith}
use lib.Dec.{eqb}
use borrow.Author.Tests.{eqb-true}
use Rattle.laws.specs.Tests.{or}
use Rattle.laws.specs.Sums.{count}
use Rattle.laws.proofs.Tests.{contra, both_ways, cond_cases}
use Rattle.laws.proofs.Sums.{count_zero}
use Rattle.laws.proofs.Ranked.{listed_ranks}
use Rattle.calculus.specs.Process.{Process}
use Rattle.calculus.specs.Status.{Links}
use Rattle.calculus.specs.Plain.{Label, step, clean}
use Rattle.calculus.specs.Places.{label, left, links}
use Rattle.calculus.specs.Rows.{rows, row_of}
use Rattle.calculus.proofs.Rules.{Is}
use Rattle.calculus.proofs.Rows.{rows_after, row_in}
use Rattle.conditions.specs.Conditions.{Evaluation}
use Rattle.steps.specs.Verdict.{evaluate}
use Rattle.sheet.specs.Table.{Table, lazy_of, evaluation_of, condition_row_at, eval_in}
use Rattle.sheet.specs.Accepted.{WellFormed}
use Rattle.sheet.proofs.Accepted.{Meets, well_formed}
use Rattle.layout.proofs.Renamed.{renamed, relabelled, relabelled_row, twin, twin_back}
use Rattle.layout.proofs.Renumbered.{ordered_one}
use Rattle.state.specs.declared.State.{State}
use Rattle.moves.specs.Steps.{mode_of, links_of, Sized, left_in, kind_in, kind_at, has_step, listed_of, stepped_of}
use Rattle.moves.specs.Runs.{Taken, Run, done, take, taken, last}
use Rattle.moves.proofs.Moves.{left_at, step_place, step_kept, step_move, move_step}
use Rattle.compacted.specs.Compacted.{is_kept, rank, compacted_by, compacted, restarted, reranked}
use Rattle.compacted.proofs.Compacted.{rank_ordered, compacted_left, compacted_meets}

-- a compacted sheet is evaluated as it was
same_evaluation : (e : ℕ) → evaluation_of (compacted_by e) ≡ evaluation_of e
unfolding compacted_by evaluation_of lazy_of or
same_evaluation e =
    cond_cases (λ (x : ℕ). evaluation_of x ≡ evaluation_of e) (eqb e 0) (λ h. let z : e ≡ 0 = eqb-true e 0 h in rw z refl)
    (λ _. cond_cases (λ (x : ℕ). evaluation_of x ≡ evaluation_of e) (eqb e 1) (λ h. let z : e ≡ 1 = eqb-true e 1 h in rw z refl) (λ _. refl))

same_eval : (t : Table) (s : State) → eval_in (compacted t s) ≡ eval_in t
same_eval t s = ap (λ (e : Evaluation). evaluate e (condition_row_at t.conditions)) (same_evaluation t.evaluation)

-- a label's kind does not show its row
kind_renamed : (ρ : ℕ → ℕ) (α : Label) → kind_in (relabelled ρ α) ≡ kind_in α
unfolding kind_in relabelled
kind_renamed ρ (step r π) = refl
kind_renamed ρ (clean r) = refl

-- a row that has a step stands in what is left, and the step leaves no other rows than those
module _ (t : Table) (w : WellFormed t) (z : State) (size : Sized z) (r : ℕ) (e : has_step t z r ≡ true) where
  step_row : rows (left_in t z) r ≡ true
  step_row = let g = step_place t w z size r e in subst (λ (k : ℕ). rows (left_in t z) k ≡ true) g.its_row (row_in (left_in t z) g.place)

  step_rows : (k : ℕ) → rows (left_in t (stepped_of t z r)) k ≡ true → rows (left_in t z) k ≡ true
  step_rows k h =
      let g = step_place t w z size r e in
      contra (rows_after g.turn (left_in t z) g.place k) (subst (λ (Q : Process). rows Q k ≡ true) (left_at t w z size g.turn g.place (stepped_of t z r) g.does.stepped) h)

module _ (t : Table) (g : Meets t) (s : State) where
  abbrev w : WellFormed t
  w = well_formed t g

  abbrev t' : Table
  t' = compacted t s

  abbrev w' : WellFormed t'
  w' = well_formed t' (compacted_meets t g s)

  abbrev ρ : ℕ → ℕ
  ρ = rank t s

  -- a state of the old table, and one of the compacted table that follows it
  pub record Follows (z z' : State) : Type 0 where
    pub size : Sized z
    pub size' : Sized z'
    pub mode : z'.mode ≡ z.mode
    pub leaves : left_in t' z' ≡ renamed ρ (left_in t z)
    pub sets : links_of z' ≡ links_of z
    pub inside : (k : ℕ) → rows (left_in t z) k ≡ true → is_kept t s k ≡ true

  pub follows_first : Sized s → Follows s (restarted t s)
  unfolding is_kept
  follows_first h = record {
    size = h;
    size' = record { all_marks = refl; all_links = h.all_links };
    mode = refl;
    leaves = compacted_left t w s;
    sets = refl;
    inside = λ k e. e;
  }

  module _ (z z' : State) (f : Follows z z') where
    -- a move of what is left, renamed, is one of the state that follows
    abbrev Renamed : Label → Process → Links → Type 0
    Renamed = Is (eval_in t) (mode_of z.mode) (renamed ρ (left_in t z)) (links_of z)

    abbrev Moves : Label → Process → Links → Type 0
    Moves = Is (eval_in t') (mode_of z'.mode) (left_in t' z') (links_of z')

    same_moves : (α : Label) (Q : Process) (v : Links) → Moves α Q v ≡ Renamed α Q v
    same_moves α Q v j = Is (same_eval t s j) (mode_of (f.mode j)) (f.leaves j) (f.sets j) α Q v

    -- a step of the old state is one of the new, at its new number
    abbrev Steps : ℕ → ℕ → Type 0
    Steps r r' = (has_step t' z' r' ≡ true) × (kind_at t' z' r' ≡ kind_at t z r) × (left_in t' (stepped_of t' z' r') ≡ renamed ρ (left_in t (stepped_of t z r))) × (links_of (stepped_of t' z' r') ≡ links_of (stepped_of t z r))

    step_new : (r : ℕ) → has_step t z r ≡ true → Steps r (ρ r)
    step_new r e =
        let (α, p, q, (y, a, b, c)) = step_move t w z f.size r e in
        let (x, (a', b', c')) = twin ρ (eval_in t) y in
        let (y', i, j, k) = transport⁻¹ (same_moves (label (eval_in t) x) (left (eval_in t) x) (links (eval_in t) x)) (x, refl, refl, refl) in
        let l = move_step t' w' z' f.size' y' in
        let named : label (eval_in t') y' ≡ relabelled ρ α = i ∙ (a' ∙ ap (relabelled ρ) a) in
        subst (Steps r) (ap row_of named ∙ (relabelled_row ρ α ∙ ap ρ p))
        (l.there, l.kind ∙ (ap kind_in named ∙ (kind_renamed ρ α ∙ q)), l.leaves ∙ (j ∙ (b' ∙ ap (renamed ρ) b)), l.sets ∙ (k ∙ (c' ∙ c)))

    -- and each step of the new is one of those
    step_old : (r' : ℕ) → has_step t' z' r' ≡ true → (r : ℕ) × (ρ r ≡ r') × (has_step t z r ≡ true)
    step_old r' e =
        let (α, p, _, y') = step_move t' w' z' f.size' r' e in
        let (x, a, _, _) = transport (same_moves α (left_in t' (stepped_of t' z' r')) (links_of (stepped_of t' z' r'))) y' in
        let (y, (a', _, _)) = twin_back ρ (eval_in t) x in
        let β : Label = label (eval_in t) y in
        (row_of β, sym (relabelled_row ρ β) ∙ (sym (ap row_of a') ∙ (ap row_of a ∙ p)), (move_step t w z f.size y).there)

    pub step_follows : (r : ℕ) → has_step t z r ≡ true → (has_step t' z' (ρ r) ≡ true) × (kind_at t' z' (ρ r) ≡ kind_at t z r) × Follows (stepped_of t z r) (stepped_of t' z' (ρ r))
    step_follows r e =
        let (h, k, b, c) = step_new r e in
        let (size, mode) = step_kept t w z f.size r e in
        let (size', mode') = step_kept t' w' z' f.size' (ρ r) h in
        (h, k, record { size = size; size' = size'; mode = mode' ∙ (f.mode ∙ sym mode); leaves = b; sets = c; inside = λ k l. f.inside k (step_rows t w z f.size r e k l) })

    -- THE LISTS: the same rows, renumbered, in the same order
    listed_kept : (r : ℕ) → has_step t z r ≡ true → is_kept t s r ≡ true
    listed_kept r e = f.inside r (step_row t w z f.size r e)

    same_step : (r : ℕ) → is_kept t s r ≡ true → has_step t' z' (ρ r) ≡ has_step t z r
    unfolding is_kept
    same_step r k =
        both_ways
        (λ e. let (q, a, b) = step_old (ρ r) e in subst (λ (x : ℕ). has_step t z x ≡ true) (ordered_one ρ (left_in t s) (rank_ordered t w s) q r (listed_kept q b) k a) b)
        (λ e. (step_new r e).0)

    pub lists_follow : listed_of t' z' ≡ map ρ (listed_of t z)
    unfolding listed_of rank
    lists_follow = listed_ranks (is_kept t s) (has_step t z) (has_step t' z') listed_kept same_step 0 t.n 0 (ρ t.n) (sym (count_zero (is_kept t s))) (let e : 0 + t.n ≡ t.n = omega arith in omega (arith, ap (count (is_kept t s)) e))

  -- a run takes rows that are kept
  pub run_kept : {z z' : State} → Follows z z' → (H : Run t z) (x : Taken) → Memᴰ x (taken H) → is_kept t s x.row ≡ true
  unfolding taken
  run_kept f done x m = absurd (Memᴰ.not-nil m)
  run_kept {z} {z'} f (take r e H) x m =
      ⊎_elim
      (λ (p : x ≡ record { row = r; kind = kind_at t z r }). rw p (listed_kept z z' f r e))
      (λ n. let (_, _, f') = step_follows z z' f r e in run_kept f' H x n)
      (Memᴰ.cases_cons m)

  -- "Every run from there matches, row number for row number under the renumbering, a run from the old state" ...
  pub run_back : {z z' : State} → Follows z z' → (G : Run t' z') → (H : Run t z) × (taken G ≡ map (reranked ρ) (taken H)) × Follows (last H) (last G)
  unfolding taken last
  run_back f done = (done, refl, f)
  run_back {z} {z'} f (take r' e G) =
      let (r, p, h) = step_old z z' f r' e in
      let (_, k, f') = step_follows z z' f r h in
      let k' : kind_at t' z' r' ≡ kind_at t z r = subst (λ (x : ℕ). kind_at t' z' x ≡ kind_at t z r) p k in
      let (H, a, b) = run_back {z = stepped_of t z r} (subst (λ (x : ℕ). Follows (stepped_of t z r) (stepped_of t' z' x)) p f') G in
      (take r h H, (λ j. record { row = sym p j; kind = k' j } ∷ a j), b)

  -- ... and every run from the old state one from there.
  pub run_forth : {z z' : State} → Follows z z' → (H : Run t z) → (G : Run t' z') × (taken G ≡ map (reranked ρ) (taken H)) × Follows (last H) (last G)
  unfolding taken last
  run_forth f done = (done, refl, f)
  run_forth {z} {z'} f (take r e H) =
      let (h, k, f') = step_follows z z' f r e in
      let (G, a, b) = run_forth f' H in
      (take (ρ r) h G, (λ j. record { row = ρ r; kind = k j } ∷ a j), b)
