-- NOTHING ELSE CHANGES: a mark that a step changes is its row's, or a waiting PICK's above it, and that is decided towards it. Assumes nothing.
use mathlib.Core.Path.{◌≡◌, refl, sym, subst, subst₂}
use mathlib.Core.Bool.{Bool, true}
use mathlib.Core.List.{List}
use mathlib.Core.Logic.{◌⊎◌, inl, inr, ⊎_elim}
use mathlib.Core.Option.{some}
use Prim.Native.Nat.{ℕ, ◌<◌}
use native.Mathlib.Omega.{arith}
use lib.ListN.{get_or, set}
use Rattle.calculus.specs.Process.{act, out, join}
use Rattle.calculus.specs.Places.{sets, Turn, takes, drops}
use Rattle.calculus.specs.Rows.{rows}
use Rattle.steps.specs.Rows.{Row, NIL, PREFIX, BRANCH, first_of, term, Child}
use Rattle.steps.specs.Marks.{done_mark}
use Rattle.steps.specs.InFront.{parent_of, right_of, reached}
use Rattle.steps.proofs.Tree.{root_in, child_in}
use Rattle.steps.proofs.Parents.{parent_child}
use Rattle.sheet.specs.Table.{Table}
use Rattle.sheet.specs.Accepted.{WellFormed}
use Rattle.state.specs.declared.State.{State}
use Rattle.state.specs.State.{pass_of, drop_of, side_mark}
use Rattle.moves.specs.Steps.{marks_of, nodes, remainder_in, turn_at, falsified, is_waiting_pick, decided_of, own_link, own_of, taken_of, dropped_of, stepped_by, stepped_of}
use Rattle.moves.specs.Above.{PickAbove}
use Rattle.moves.proofs.Falsify.{set_cases, falsify_marks}
use Rattle.moves.proofs.Climb.{decided_by, climb_induction}
use Rattle.moves.proofs.Moves.{turn_parts}

-- why row k has the new mark x
abbrev pub Change : Table → State → ℕ → Turn → ℕ → ℕ → Type 0
Change t s r u k x = ((k ≡ r) × (x ≡ done_mark u)) ⊎ ((u ≡ takes) × (side : Bool) × PickAbove t s r k side × (x ≡ side_mark side))

abbrev pub Frames : Table → State → ℕ → Turn → State → Type 0
Frames t s r u z = (k : ℕ) → (marks_of z k ≡ marks_of s k) ⊎ Change t s r u k (marks_of z k)

pub own_marks : (N : Row) (z : State) → (own_of N z).marks ≡ z.marks
unfolding own_of own_link
own_marks NIL z = refl
own_marks (PREFIX (act a) c) z = refl
own_marks (PREFIX (out l b) c) z = refl
own_marks (PREFIX (join q) c) z = refl
own_marks (BRANCH κ p q) z = refl

module _ (t : Table) (w : WellFormed t) (s : State) (r : ℕ) where
  like : (u : Turn) (y z : State) → y.marks ≡ z.marks → Frames t s r u z → Frames t s r u y
  like u y z e f = subst (λ (xs : List ℕ). (k : ℕ) → (get_or xs k 0 ≡ marks_of s k) ⊎ Change t s r u k (get_or xs k 0)) (sym e) f

  one_mark : (u : Turn) (z : State) (p a : ℕ) → Change t s r u p a → Frames t s r u z → Frames t s r u (record { mode = z.mode; marks = set z.marks p a; links = z.links; acts = z.acts; unset = z.unset })
  one_mark u z p a c f k =
      ⊎_elim (λ e. inr (subst₂ (Change t s r u) (sym e.0) (sym e.1) c))
      (λ e. subst (λ (x : ℕ). (x ≡ marks_of s k) ⊎ Change t s r u k x) (sym e) (f k)) (set_cases z.marks p a k)

  unmoved : (u : Turn) → Frames t s r u s
  unmoved u k = inl refl

  false_made : (u : Turn) (i : ℕ) (z : State) → Frames t s r u z → Frames t s r u (falsified t.terms t.n (marks_of s) i z)
  unfolding falsified
  false_made u i z f = like u (falsified t.terms t.n (marks_of s) i z) z (falsify_marks (sets (remainder_in t.terms t.n (marks_of s) i)) 0 64 z) f

  abbrev above : ℕ → ℕ
  above = parent_of (nodes t)

  decided : (j : ℕ) (z : State) → (is_waiting_pick (nodes t (above j)) (marks_of s (above j)) ≡ true → PickAbove t s r (above j) (right_of (nodes t) j)) → Frames t s r takes z → Frames t s r takes (decided_of t.terms t.n s j z)
  decided j z p f =
      let side : Bool = right_of (nodes t) j in
      decided_by t.terms t.n s j z (λ (xs : List ℕ). (k : ℕ) → (get_or xs k 0 ≡ marks_of s k) ⊎ Change t s r takes k (get_or xs k 0)) (λ e. one_mark takes z (above j) (side_mark side) (inr (refl, side, p e, refl)) f) (λ _. f)

  module _ (h : r < t.n) (g : reached (nodes t) (marks_of s) r ≡ true) where
    taken_frames : Frames t s r takes (taken_of t.terms t.n s r)
    unfolding taken_of
    taken_frames =
        (climb_induction t.terms t.n s (λ j z. (j < t.n) × (rows (term (nodes t) t.n j) r ≡ true) × Frames t s r takes z)
        (λ j z l e _ c.
        let q : above j < t.n = omega (arith, l, c.0) in
        let b : Child (nodes t (above j)) (right_of (nodes t) j) j = parent_child (nodes t) j l in (
          q,
          child_in (nodes t) t.n w.tree.kids (above j) r j q (right_of (nodes t) j) b c.1,
          decided j z (λ p. record { in_sheet = q; undecided = p; comes_to = e; child = j; at_side = b; holds = c.1 }) c.2,
        ))
        r (own_of (nodes t r) (pass_of s r)) g
        (h, root_in (nodes t) t.n w.tree.kids r h, like takes (own_of (nodes t r) (pass_of s r)) (pass_of s r) (own_marks (nodes t r) (pass_of s r)) (one_mark takes s r 1 (inl (refl, refl)) (unmoved takes)))).2

    dropped_frames : Frames t s r drops (dropped_of t.terms t.n s r)
    unfolding dropped_of
    dropped_frames = false_made drops (first_of (nodes t r)) (drop_of s r) (one_mark drops s r 4 (inl (refl, refl)) (unmoved drops))

    turn_frames : (u : Turn) → turn_at t s r ≡ some u → Frames t s r u (stepped_of t s r)
    unfolding stepped_of stepped_by
    turn_frames takes e = rw e taken_frames
    turn_frames drops e = rw e dropped_frames

  pub step_frames : (u : Turn) → turn_at t s r ≡ some u → Frames t s r u (stepped_of t s r)
  step_frames u e =
      let (h, g, q) = turn_parts t s r u e in
      turn_frames h g u e
