-- The runs of an accepted table are the runs of the calculus, step for step. Assumes nothing.
use mathlib.Core.Path.{◌≡◌, refl, sym, ap, ap₂, ◌∙◌, subst, subst₂}
use mathlib.Core.Bool.{Bool, true, false, cond}
use mathlib.Core.List.{List, ◌∷◌, map}
use mathlib.Core.Option.{none}
use Prim.Native.Nat.{ℕ}
use Rattle.calculus.specs.Process.{Process, act, out, join}
use Rattle.calculus.specs.Status.{Value, Unset, False, True, Links}
use Rattle.calculus.specs.Plain.{Label}
use Rattle.calculus.specs.Places.{Single, Mode, plain, cleans, Valid, Grows, label, left, links}
use Rattle.calculus.specs.Rules.{Rule}
use Rattle.calculus.specs.Steps.{join_turn, turn_of}
use Rattle.calculus.specs.Runs.{Run as Moves, done as ended, more, trail, last as last-process, last_links}
use Rattle.calculus.specs.Rows.{row_of}
use Rattle.calculus.proofs.Rules.{to_rules}
use Rattle.calculus.proofs.Runs.{links_stay}
use Rattle.steps.specs.Rows.{Row, NIL, PREFIX, BRANCH}
use Rattle.steps.specs.InFront.{in_front}
use Rattle.sheet.specs.Table.{Table, eval_in}
use Rattle.sheet.specs.Accepted.{WellFormed, SingleSource}
use Rattle.state.specs.declared.State.{State}
use Rattle.moves.specs.Steps.{mode_of, marks_of, links_of, Sized, nodes, left_in, turn_by, turn_at, kind_of, kind_in, kind_by, kind_turned, kind_at, stepped_of, Listed}
use Rattle.moves.specs.Runs.{Run, done, take, Taken, taken, last, unless_clean, struck}
use Rattle.moves.proofs.Moves.{step_move, step_kept}
use Rattle.moves.proofs.Allowed.{left_single, allowed_listed}

-- what a label shows of a step
abbrev pub shown : Label → Taken
shown α = record { row = row_of α; kind = kind_in α }

-- without cleaning nothing is dropped, so no kind is clean
plain_kind : (eval : ℕ → Links → Value) (v : Links) (N : Row) (r : ℕ) (b : Bool) (x : Taken) (l : List Taken) → unless_clean x (kind_turned N r (cond b (turn_by (λ π. turn_of eval plain π v) N) none)) l ≡ x ∷ l
unfolding kind_turned kind_by kind_of turn_by turn_of join_turn cleans
plain_kind eval v N r false x l = refl
plain_kind eval v NIL r true x l = refl
plain_kind eval v (PREFIX (act a) c) r true x l = refl
plain_kind eval v (PREFIX (out k b) c) r true x l = refl
plain_kind eval v (PREFIX (join q) c) r true x l = at (eval q v)
  where
    at : (u : Value) → unless_clean x (kind_turned (PREFIX (join q) c) r (join_turn plain u)) l ≡ x ∷ l
    at Unset = refl
    at False = refl
    at True = refl
plain_kind eval v (BRANCH κ p q) r true x l = refl

module _ (t : Table) (w : WellFormed t) where
  abbrev eval : ℕ → Links → Value
  eval = eval_in t

  -- a run of the calculus that shows the same
  abbrev pub As : {s : State} → Run t s → Mode → Process → Links → Type 0
  As R m P v = (S : Moves eval m P v) × (map shown (trail eval S) ≡ taken R) × (last-process eval S ≡ left_in t (last R)) × (last_links eval S ≡ links_of (last R))

  pub to_moves : {s : State} → Sized s → (R : Run t s) → As R (mode_of s.mode) (left_in t s) (links_of s)
  unfolding trail last-process last_links taken last
  to_moves h done = (ended, refl, refl, refl)
  to_moves {s} h (take r e R) =
      let (α, p, q, (y, a, b, c)) = step_move t w s h r e in
      let (k, o) = step_kept t w s h r e in
      let (S, f, g, i) = subst (λ (m : Mode). As R m (left eval y) (links eval y)) (ap mode_of o) (subst₂ (As R (mode_of (stepped_of t s r).mode)) (sym b) (sym c) (to_moves k R)) in
      (more y S, ap₂ ◌∷◌ (ap shown a ∙ (λ j. record { row = p j; kind = q j })) f, g, i)

  -- a run keeps the mode and the size
  pub run_kept : {s : State} → Sized s → (R : Run t s) → Sized (last R) × ((last R).mode ≡ s.mode)
  unfolding last
  run_kept h done = (h, refl)
  run_kept {s} h (take r e R) =
      let (k, o) = step_kept t w s h r e in
      let (k', o') = run_kept k R in
      (k', o' ∙ o)

  -- a run without cleaning has no cleaning step
  pub plain_run : {s : State} → Sized s → s.mode ≡ 0 → (R : Run t s) → struck (taken R) ≡ taken R
  unfolding taken struck kind_at turn_at mode_of
  plain_run h m done = refl
  plain_run {s} h m (take r e R) =
      let (k, o) = step_kept t w s h r e in
      ap (unless_clean _ (kind_at t s r)) (plain_run k (o ∙ m) R) ∙ unclean s m r (taken R)
    where
      unclean : (s : State) → s.mode ≡ 0 → (r : ℕ) (l : List Taken) → unless_clean (record { row = r; kind = kind_at t s r }) (kind_at t s r) l ≡ record { row = r; kind = kind_at t s r } ∷ l
      unclean s m r l = rw m (plain_kind eval (links_of s) (nodes t r) r (in_front (nodes t) (marks_of s) t.n r) _ l)

  -- a link once set stays, from any valid state
  pub grows_run : {s : State} → Sized s → Valid (left_in t s) (links_of s) → (R : Run t s) → Grows (links_of s) (links_of (last R))
  grows_run {s} h v R = let (S, a, b, c) = to_moves h R in subst (Grows (links_of s)) c (links_stay eval S v)

  module _ (source : SingleSource t) where
    pub from_moves : {m : Mode} {P : Process} {v : Links} (S : Moves eval m P v) (s : State) → Sized s → mode_of s.mode ≡ m → left_in t s ≡ P → links_of s ≡ v → (R : Run t s) × (taken R ≡ map shown (trail eval S)) × (left_in t (last R) ≡ last-process eval S) × (links_of (last R) ≡ last_links eval S)
    unfolding trail last-process last_links taken last
    from_moves ended s h e p q = (done, refl, p, q)
    from_moves {m} {P} {v} (more y S) s h e p q =
        let r : ℕ = row_of (label eval y) in
        let ρ = to_rules eval (subst Single p (left_single t w source s)) y in
        let ρ' = subst (λ (m : Mode). Rule eval m (left_in t s) (links_of s) (label eval y) (left eval y) (links eval y)) (sym e) (subst₂ (λ (P : Process) (v : Links). Rule eval m P v (label eval y) (left eval y) (links eval y)) (sym p) (sym q) ρ) in
        let l : Listed t s (label eval y) (left eval y) (links eval y) = allowed_listed t w s h (label eval y) (left eval y) (links eval y) ρ' in
        let (k, o) = step_kept t w s h r l.there in
        let (R, a, b, c) = from_moves S (stepped_of t s r) k (ap mode_of o ∙ e) l.leaves l.sets in
        (take r l.there R, (λ j. record { row = r; kind = l.kind j } ∷ a j), b, c)
