-- THE STEP OF A ROW IS A MOVE OF THE REMAINDER, and each move is the step of its row: in every state of the right size, in both modes, under both evaluations. Assumes nothing.
use Rattle.std.specs.Prelude.{Ok, Err}
use mathlib.Core.Path.{◌≡◌, refl, sym, ap, ◌∙◌, subst, fun_ext}
use mathlib.Core.Bool.{Bool, true, false, cond, ◌&&◌, true≢false}
use mathlib.Core.Option.{Option, none, some}
use Prim.Native.Nat.{ℕ, ◌<◌}
use lib.Dec.{ltb}
use borrow.Author.Tests.{ltb-true}
use Rattle.laws.proofs.Tests.{and_l, and_r}
use Rattle.calculus.specs.Process.{Process, Prefix, act, out, join}
use Rattle.calculus.specs.Status.{Value, Links}
use Rattle.calculus.specs.Plain.{Label}
use Rattle.calculus.specs.Places.{Place, row, here, Turn, takes, drops, after, put_on, effect, Mode, falsifies, Allows, named, Ready, Move, move, label, left, links}
use Rattle.calculus.specs.Rows.{Distinct, row_of}
use Rattle.calculus.specs.Steps.{turn_of}
use Rattle.calculus.proofs.Steps.{turn_ready, ready_turn}
use Rattle.calculus.proofs.Rows.{one_place, named_row}
use Rattle.calculus.proofs.Rules.{Is as IsMove}
use Rattle.steps.specs.Rows.{Row, NIL, PREFIX, BRANCH, term}
use Rattle.steps.specs.Marks.{Marks, waits, stand, remainder}
use Rattle.steps.specs.InFront.{waits_by, waiting, reached, in_front}
use Rattle.steps.proofs.Tree.{term_distinct}
use Rattle.steps.proofs.Marks.{remainder_marked, remainder_distinct}
use Rattle.steps.proofs.InFront.{waits_is, place_front}
use Rattle.sheet.specs.Table.{Table, eval_in}
use Rattle.sheet.specs.Accepted.{WellFormed}
use Rattle.state.specs.declared.State.{State}
use Rattle.state.specs.declared.StepKind.TheVariants.{Act, Set, Open, Clean}
use Rattle.moves.specs.Steps.{Kind, mode_of, marks_of, links_of, Sized, nodes, left_in, turn_by, turn_at, kind_of, kind_in, kind_by, kind_turned, kind_at, is_some, has_step, stepped_by, stepped_of, Listed}
use Rattle.moves.proofs.StateAfter.{Is, is_counted, At, taken_at, dropped_at}

no_turn : {u : Turn} → none ≡ some u → ⊥
no_turn e = true≢false (sym (ap is_some e))

-- a kind of a prefix is no cleaning
abbrev Cleans : Kind → Type 0
Cleans (Ok (Act a)) = ⊥
Cleans (Ok (Set l v)) = ⊥
Cleans (Ok Open) = ⊥
Cleans (Ok Clean) = Unit {0}
Cleans (Err e) = ⊥

pub not_clean : (π : Prefix) → kind_of π ≡ Ok Clean → ⊥
unfolding kind_of
not_clean (act a) e = subst Cleans (sym e) tt
not_clean (out l b) e = subst Cleans (sym e) tt
not_clean (join c) e = subst Cleans (sym e) tt

module _ (t : Table) (s : State) (r : ℕ) where
  abbrev turn : Prefix → Option Turn
  turn π = turn_of (eval_in t) (mode_of s.mode) π (links_of s)

  pub has_turn : has_step t s r ≡ true → (u : Turn) × (turn_at t s r ≡ some u)
  unfolding has_step
  has_turn e = at (turn_at t s r) e
    where
      at : (o : Option Turn) → is_some o ≡ true → (u : Turn) × (o ≡ some u)
      at none e = absurd (true≢false (sym e))
      at (some u) e = (u, refl)

  turn_has : (u : Turn) → turn_at t s r ≡ some u → has_step t s r ≡ true
  unfolding has_step
  turn_has u e = rw e refl

  -- a row with a step is in front, and has what its turn takes or drops
  abbrev pub Fronts : Turn → Type 0
  Fronts u = (in_front (nodes t) (marks_of s) t.n r ≡ true) × (π : Prefix) × (c : ℕ) × (nodes t r ≡ PREFIX π c) × (turn π ≡ some u)

  pub turn_fronts : (u : Turn) → turn_at t s r ≡ some u → Fronts u
  unfolding turn_at turn_by
  turn_fronts u e = front (in_front (nodes t) (marks_of s) t.n r) refl e
    where
      by : (N : Row) → nodes t r ≡ N → in_front (nodes t) (marks_of s) t.n r ≡ true → turn_by turn N ≡ some u → Fronts u
      by NIL p f e = absurd (no_turn e)
      by (PREFIX π c) p f e = (f, π, c, p, e)
      by (BRANCH κ a b) p f e = absurd (no_turn e)

      front : (b : Bool) → in_front (nodes t) (marks_of s) t.n r ≡ b → cond b (turn_by turn (nodes t r)) none ≡ some u → Fronts u
      front true f e = by (nodes t r) refl f e
      front false f e = absurd (no_turn e)

  fronts_turn : (u : Turn) → Fronts u → turn_at t s r ≡ some u
  unfolding turn_at turn_by
  fronts_turn u (f, π, c, p, e) = rw (f, p) e

  -- the kind listed is the label's
  turn_kind : (u : Turn) (π : Prefix) (c : ℕ) → turn_at t s r ≡ some u → nodes t r ≡ PREFIX π c → kind_at t s r ≡ kind_in (named u r π)
  unfolding kind_at kind_turned kind_by kind_in
  turn_kind takes π c e p = rw (e, p) refl
  turn_kind drops π c e p = rw e refl

  -- a step that is taken is no cleaning
  pub takes_kind : turn_at t s r ≡ some takes → kind_at t s r ≡ Ok Clean → ⊥
  unfolding kind_in
  takes_kind e q = let (_, π, c, p, _) = turn_fronts takes e in not_clean π (sym (turn_kind takes π c e p) ∙ q)

  -- ... a row of the sheet that one reaches, and that waits
  front_parts : (π : Prefix) (c : ℕ) → nodes t r ≡ PREFIX π c → in_front (nodes t) (marks_of s) t.n r ≡ true → (r < t.n) × (reached (nodes t) (marks_of s) r ≡ true) × (stand (marks_of s r) ≡ waits)
  unfolding in_front waiting
  front_parts π c p f =
      let a = and_l (ltb r t.n && reached (nodes t) (marks_of s) r) _ f in
      let b : waits_by (stand (marks_of s r)) ≡ true = rw p at (and_r (ltb r t.n && reached (nodes t) (marks_of s) r) _ f) in
      (ltb-true r t.n (and_l _ (reached (nodes t) (marks_of s) r) a), and_r (ltb r t.n) _ a, waits_is (stand (marks_of s r)) b)

  pub turn_parts : (u : Turn) → turn_at t s r ≡ some u → (r < t.n) × (reached (nodes t) (marks_of s) r ≡ true) × (stand (marks_of s r) ≡ waits)
  turn_parts u e = let (f, π, c, p, _) = turn_fronts u e in front_parts π c p f

  module _ (w : WellFormed t) (size : Sized s) where
    -- the step of a turn leaves what the calculus says
    pub stepped_at : (u : Turn) → turn_at t s r ≡ some u → (f : Fronts u) → At t w s r f.1 u (stepped_of t s r) (left_in t s)
    unfolding stepped_of stepped_by
    stepped_at takes e (f, π, c, p, o) = let (h, g, q) = front_parts π c p f in let (x, a, b, i) = taken_at t w s r π size c p h q g in rw e (x, a, b, is_counted _ _ i)
    stepped_at drops e (f, π, c, p, o) = let (h, g, q) = front_parts π c p f in let (x, a, b, i) = dropped_at t w s r π size c p h q g in rw e (x, a, b, is_counted _ _ i)

-- row r has a step, of the kind that the turn makes of what stands at the place, and the state after it is what the calculus says
pub record Does (t : Table) (s : State) (r : ℕ) (u : Turn) (P : Process) (x : Place P) : Type 0 where
  pub there : has_step t s r ≡ true
  pub kind : kind_at t s r ≡ kind_in (named u r (here P x))
  pub stepped : Is s u (stepped_of t s r) P x

-- the step of row r: its turn at a place of what is left, which is allowed and ready there
pub record StepPlace (t : Table) (s : State) (r : ℕ) : Type 0 where
  pub turn : Turn
  pub place : Place (left_in t s)
  pub its_row : row (left_in t s) place ≡ r
  pub allowed : Allows (mode_of s.mode) turn
  pub ready : Ready (eval_in t) turn (here (left_in t s) place) (links_of s)
  pub does : Does t s r turn (left_in t s) place

-- no row stands twice in what is left
module _ (t : Table) (w : WellFormed t) (s : State) where
  distinct : Distinct (term (nodes t) t.n 0)
  distinct = term_distinct (nodes t) t.n w.tree.kids w.tree.once 0 w.tree.some_row

  pub left_distinct : Distinct (left_in t s)
  left_distinct = remainder_distinct (marks_of s) (term (nodes t) t.n 0) distinct

module _ (t : Table) (w : WellFormed t) (s : State) (size : Sized s) where
  abbrev eval : ℕ → Links → Value
  eval = eval_in t

  abbrev m : Mode
  m = mode_of s.mode

  abbrev P : Process
  P = left_in t s

  pub left_at : (u : Turn) (x : Place P) (z : State) → Is s u z P x → left_in t z ≡ after u P x
  left_at u x z i = ap (λ (μ : Marks). remainder μ (term (nodes t) t.n 0)) (fun_ext i.marks_are) ∙ remainder_marked u (marks_of s) (term (nodes t) t.n 0) (distinct t w s) x

  pub links_at_law : (u : Turn) (x : Place P) (z : State) → Is s u z P x → links_of z ≡ put_on (effect u (falsifies m) P x) (links_of s)
  links_at_law u x z i = fun_ext i.links_are

  -- the step of a row, at its place
  pub step_place : (r : ℕ) → has_step t s r ≡ true → StepPlace t s r
  step_place r e =
      let (u, q) = has_turn t s r e in
      let f = turn_fronts t s r u q in
      let (x, p, h, i) = stepped_at t s r w size u q f in
      let (a, o) = turn_ready eval m f.1 (links_of s) u f.4 in
      record {
        turn = u;
        place = x;
        its_row = p;
        allowed = a;
        ready = subst (λ (π : Prefix). Ready eval u π (links_of s)) (sym h) o;
        does = record { there = e; kind = turn_kind t s r u f.1 f.2 q f.3 ∙ ap (λ (π : Prefix). kind_in (named u r π)) (sym h); stepped = i };
      }

  -- a step keeps the mode and the size
  pub step_kept : (r : ℕ) → has_step t s r ≡ true → Sized (stepped_of t s r) × ((stepped_of t s r).mode ≡ s.mode)
  step_kept r e = let i = (step_place r e).does.stepped in (i.sized, i.same_mode)

  -- A STEP IS A MOVE ...
  pub step_move : (r : ℕ) → has_step t s r ≡ true → (α : Label) × (row_of α ≡ r) × (kind_in α ≡ kind_at t s r) × IsMove eval m P (links_of s) α (left_in t (stepped_of t s r)) (links_of (stepped_of t s r))
  step_move r e =
      let g = step_place r e in
      let u : Turn = g.turn in
      let x : Place P = g.place in
      let i = g.does.stepped in (
        named u r (here P x),
        named_row u r (here P x),
        sym g.does.kind,
        (move u x g.allowed g.ready, ap (λ (k : ℕ). named u k (here P x)) g.its_row, sym (left_at u x (stepped_of t s r) i), sym (links_at_law u x (stepped_of t s r) i)),
      )

  -- ... AND A MOVE IS THE STEP OF ITS ROW.
  listed_by : (u : Turn) (r : ℕ) (π : Prefix) (Q : Process) (v : Links) → has_step t s r ≡ true → kind_at t s r ≡ kind_in (named u r π) → left_in t (stepped_of t s r) ≡ Q → links_of (stepped_of t s r) ≡ v → Listed t s (named u r π) Q v
  unfolding row_of
  listed_by takes r π Q v a b c d = record { there = a; kind = b; leaves = c; sets = d }
  listed_by drops r π Q v a b c d = record { there = a; kind = b; leaves = c; sets = d }

  -- a place at which a turn is allowed and ready is the step of its row
  pub place_step : (u : Turn) (x : Place P) → Allows m u → Ready eval u (here P x) (links_of s) → Does t s (row P x) u P x
  place_step u x a o =
      let r : ℕ = row P x in
      let (f, c, p) = place_front (nodes t) (marks_of s) t.n w.tree.kids w.tree.once w.tree.some_row x in
      let g : Fronts t s r u = (f, here P x, c, p, ready_turn eval m (here P x) (links_of s) u a o) in
      let q : turn_at t s r ≡ some u = fronts_turn t s r u g in
      let (y, k, h, i) = stepped_at t s r w size u q g in
      record { there = turn_has t s r u q; kind = turn_kind t s r u (here P x) c q p; stepped = subst (Is s u (stepped_of t s r) P) (one_place P y x (left_distinct t w s) k) i }

  pub move_step : (y : Move eval m P (links_of s)) → Listed t s (label eval y) (left eval y) (links eval y)
  move_step (move u x a o) =
      let z : State = stepped_of t s (row P x) in
      let g = place_step u x a o in
      listed_by u (row P x) (here P x) (after u P x) (put_on (effect u (falsifies m) P x) (links_of s)) g.there g.kind (left_at u x z g.stepped) (links_at_law u x z g.stepped)
