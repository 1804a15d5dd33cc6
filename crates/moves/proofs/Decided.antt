-- "Each of these also decides every waiting PICK above it towards it": every one, at any height, and the row itself is passed or dropped. Assumes nothing.
use mathlib.Core.Path.{◌≡◌, refl, sym, ap, ◌∙◌, subst}
use mathlib.Core.Bool.{Bool, true, false}
use mathlib.Core.List.{List}
use mathlib.Core.Logic.{◌⊎◌, inl, inr, ⊎_elim, by_cases}
use mathlib.Core.Option.{some}
use Prim.Native.Nat.{ℕ, ◌<◌, ◌≤◌}
use native.Mathlib.Omega.{arith}
use native.Mathlib.Decide.{ℕ_discrete}
use lib.ListN.{get_or, set, length, length-set}
use lib.Seq.{get_or-set_same, get_or-set_other}
use Rattle.laws.proofs.Tests.{not_both}
use Rattle.calculus.specs.Places.{sets, Turn, takes, drops}
use Rattle.calculus.specs.Rows.{rows}
use Rattle.steps.specs.Rows.{first_of, term, Child}
use Rattle.steps.specs.Marks.{done_mark}
use Rattle.steps.specs.InFront.{parent_of, right_of}
use Rattle.steps.proofs.Tree.{child_above, rows_above, parent_in}
use Rattle.steps.proofs.Parents.{parent_is}
use Rattle.sheet.specs.Table.{Table}
use Rattle.sheet.specs.Accepted.{WellFormed}
use Rattle.state.specs.declared.State.{State}
use Rattle.state.specs.State.{pass_of, drop_of, side_mark}
use Rattle.moves.specs.Steps.{marks_of, Sized, nodes, remainder_in, turn_at, falsified, is_waiting_pick, decided_of, own_of, taken_of, dropped_of, stepped_by, stepped_of}
use Rattle.moves.proofs.Falsify.{falsify_marks}
use Rattle.moves.proofs.Climb.{decided_by, climb_induction}
use Rattle.moves.proofs.Moves.{turn_parts}
use Rattle.moves.proofs.Frame.{own_marks}

module _ (t : Table) (w : WellFormed t) (s : State) (size : Sized s) where
  abbrev above : ℕ → ℕ
  above = parent_of (nodes t)

  abbrev step_to : ℕ → State → State
  step_to j z = decided_of t.terms t.n s j z

  -- a decision keeps the number of marks, and every mark but the pick's
  decided_length : (j : ℕ) (z : State) → length (step_to j z).marks ≡ length z.marks
  decided_length j z = decided_by t.terms t.n s j z (λ (xs : List ℕ). length xs ≡ length z.marks) (λ _. length-set z.marks (above j) (side_mark (right_of (nodes t) j))) (λ _. refl)

  decided_other : (j : ℕ) (z : State) (k : ℕ) → above j < k → marks_of (step_to j z) k ≡ marks_of z k
  decided_other j z k h = decided_by t.terms t.n s j z (λ (xs : List ℕ). get_or xs k 0 ≡ marks_of z k) (λ _. get_or-set_other z.marks (above j) k (side_mark (right_of (nodes t) j)) 0 (λ e. omega arith)) (λ _. refl)

  -- the row of the step
  own_mark : (r a : ℕ) → r < t.n → get_or (set s.marks r a) r 0 ≡ a
  own_mark r a h = get_or-set_same s.marks r a 0 (omega (arith, size.all_marks, w.few_terms))

  pub row_marked : (r : ℕ) (u : Turn) → turn_at t s r ≡ some u → marks_of (stepped_of t s r) r ≡ done_mark u
  unfolding stepped_of stepped_by taken_of dropped_of falsified
  row_marked r takes e =
      let (h, g, _) = turn_parts t s r takes e in
      rw e (climb_induction t.terms t.n s (λ j z. (j ≤ r) × (marks_of z r ≡ 1)) (λ j z l _ _ c. (omega (arith, c.0), decided_other j z r (omega (arith, c.0)) ∙ c.1)) r (own_of (nodes t r) (pass_of s r)) g (omega arith, ap (λ (xs : List ℕ). get_or xs r 0) (own_marks (nodes t r) (pass_of s r)) ∙ own_mark r 1 h)).1
  row_marked r drops e =
      let (h, _, _) = turn_parts t s r drops e in
      rw e (ap (λ (xs : List ℕ). get_or xs r 0) (falsify_marks (sets (remainder_in t.terms t.n (marks_of s) (first_of (nodes t r)))) 0 64 (drop_of s r)) ∙ own_mark r 4 h)

  -- row k is a waiting PICK with r below its child c, on the side
  module _ (k c : ℕ) (side : Bool) (h : k < t.n) (pick : is_waiting_pick (nodes t k) (marks_of s k) ≡ true) (child : Child (nodes t k) side c) where
    abbrev T : ℕ → ℕ → Bool
    T i = rows (term (nodes t) t.n i)

    decided_pick : (j : ℕ) (z : State) → above j ≡ k → right_of (nodes t) j ≡ side → length z.marks ≡ 256 → marks_of (step_to j z) k ≡ side_mark side
    decided_pick j z p q l =
        decided_by t.terms t.n s j z (λ (xs : List ℕ). get_or xs k 0 ≡ side_mark side)
        (λ _. rw (p, q) (get_or-set_same z.marks k (side_mark side) 0 (omega (arith, w.few_terms))))
        (λ (e : is_waiting_pick (nodes t (above j)) (marks_of s (above j)) ≡ false). absurd (not_both pick (rw p at e)))

    -- the climb is still below the child, or has come to the pick and decided it
    abbrev On : ℕ → State → Type 0
    On j z = (length z.marks ≡ 256) × ((T c j ≡ true) ⊎ ((j ≤ k) × (marks_of z k ≡ side_mark side)))

    on_up : (j : ℕ) (z : State) → above j < j → On j z → On (above j) (step_to j z)
    on_up j z l (a, o) = (decided_length j z ∙ a, ⊎_elim below (λ d. inr (omega (arith, d.0), decided_other j z k (omega (arith, d.0)) ∙ d.1)) o)
      where
        at_child : j ≡ c → (T c (above j) ≡ true) ⊎ ((above j ≤ k) × (marks_of (step_to j z) k ≡ side_mark side))
        at_child e =
            let (p, q) = parent_is (nodes t) t.n w.tree.kids w.tree.once k j side h (subst (Child (nodes t k) side) (sym e) child) in
            inr (omega (arith, p), decided_pick j z p q a)

        deeper : T c j ≡ true → (j ≡ c → ⊥) → (T c (above j) ≡ true) ⊎ ((above j ≤ k) × (marks_of (step_to j z) k ≡ side_mark side))
        deeper e n =
            let (_, b) = child_above k t.n c (nodes t k) side (w.tree.kids k h) child in
            let (i, s', d, g, _, f) = parent_in (nodes t) t.n w.tree.kids c b j e n in
            let (p, _) = parent_is (nodes t) t.n w.tree.kids w.tree.once i j s' g d in
            inl (subst (λ (i : ℕ). T c i ≡ true) (sym p) f)

        below : T c j ≡ true → (T c (above j) ≡ true) ⊎ ((above j ≤ k) × (marks_of (step_to j z) k ≡ side_mark side))
        below e = by_cases (ℕ_discrete j c) at_child (deeper e)

    pub pick_decided : (r : ℕ) → T c r ≡ true → turn_at t s r ≡ some takes → marks_of (stepped_of t s r) k ≡ side_mark side
    unfolding stepped_of stepped_by taken_of
    pick_decided r b e =
        let (_, g, _) = turn_parts t s r takes e in
        let (_, o) = climb_induction t.terms t.n s On (λ j z l _ _ c. on_up j z l c) r (own_of (nodes t r) (pass_of s r)) g (ap length (own_marks (nodes t r) (pass_of s r)) ∙ (length-set s.marks r 1 ∙ size.all_marks), inl b) in
        let (kc, cn) = child_above k t.n c (nodes t k) side (w.tree.kids k h) child in
        rw e (⊎_elim (λ z. absurd (let y : ⊥ = omega (arith, (rows_above (nodes t) t.n w.tree.kids c cn 0 z).0) in y)) (λ d. d.1) o)
