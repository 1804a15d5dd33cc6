-- THE STATE AFTER A STEP IS WHAT THE CALCULUS SAYS: its marks and its links, from the row of the step up to row 0. Assumes nothing.
use mathlib.Core.Path.{◌≡◌, refl, sym, ap, ◌∙◌, subst}
use mathlib.Core.List.{List}
use mathlib.Core.Bool.{Bool, true, false, cond, ◌&&◌, true≢false}
use mathlib.Core.Logic.{inl, inr}
use Prim.Native.Nat.{ℕ, ◌<◌, ◌≤◌}
use native.Mathlib.Omega.{arith}
use lib.Dec.{eqb}
use lib.ListN.{get_or, set}
use Rattle.laws.proofs.Tests.{contra, refuted, cond_all}
use Rattle.calculus.specs.Process.{Process, prefix, branch, Prefix, act, out, join, pick, flow}
use Rattle.calculus.specs.Status.{Value}
use Rattle.calculus.specs.Places.{sets, Place, row, here, Turn, takes, drops, decides, over, false_if, given, effect, falsifies}
use Rattle.calculus.proofs.Effects.{over_assoc}
use Rattle.steps.specs.Rows.{Row, NIL, PREFIX, BRANCH, first_of, second_of, term, Kids, Child}
use Rattle.steps.specs.Marks.{Stand, waits, stand, Open, both, left, right, open_branches, after_mark, after_taken, mark, marked}
use Rattle.steps.specs.InFront.{parent_of, right_of, undecided, opens, leads, reached}
use Rattle.steps.proofs.Parents.{parent_child}
use Rattle.steps.proofs.Remainder.{remainder_by, remainder_at}
use Rattle.steps.proofs.Marks.{remainder_sets}
use Rattle.steps.proofs.Sources.{sets_source}
use Rattle.steps.proofs.InFront.{passed_is, reached_induction}
use Rattle.sheet.specs.Table.{Table}
use Rattle.sheet.specs.Accepted.{WellFormed}
use Rattle.state.specs.declared.State.{State}
use Rattle.state.specs.State.{pass_of, drop_of, decide_of, with_counts, side_mark}
use Rattle.moves.specs.Steps.{mode_of, marks_of, links_of, Sized, nodes, remainder_in, falsify_from, falsified, is_waiting_pick, other_of, decided_of, own_link, own_of, taken_of, dropped_of}
use Rattle.moves.proofs.Falsify.{set_mark, sized_mark, sized_link, link_set, falsify_sized, falsify_marks, falsify_mode, falsify_links}
use Rattle.moves.proofs.Climb.{climb_induction}

-- z is s after a step at a place of P, as far as P goes
pub record Is (s : State) (u : Turn) (z : State) (P : Process) (x : Place P) : Type 0 where
  pub sized : Sized z
  pub same_mode : z.mode ≡ s.mode
  pub marks_are : (k : ℕ) → marks_of z k ≡ marked u P x (marks_of s) k
  pub links_are : (k : ℕ) → links_of z k ≡ over (effect u (falsifies (mode_of s.mode)) P x k) (links_of s k)

-- the counts are no part of it
pub is_counted : {s : State} {u : Turn} {z : State} {P : Process} {x : Place P} (a b : ℕ) → Is s u z P x → Is s u (with_counts z a b) P x
is_counted a b i = record { sized = record { all_marks = i.sized.all_marks; all_links = i.sized.all_links }; same_mode = i.same_mode; marks_are = i.marks_are; links_are = i.links_are }

module _ (t : Table) (w : WellFormed t) (s : State) where
  abbrev node : ℕ → Row
  node = nodes t

  abbrev R : ℕ → Process
  R = remainder_in t.terms t.n (marks_of s)

  abbrev d : Bool
  d = falsifies (mode_of s.mode)

  -- a row's remainder sets links below m only, and so none from 64 on
  pub sets_below : (i l : ℕ) → i < t.n → sets (R i) l ≡ true → l < t.m
  sets_below i l h e = let (k, _, g, (b, c, o)) = sets_source node t.n w.tree.kids w.tree.once l i h (contra (remainder_sets (marks_of s) (term node t.n i) l) e) in w.outs k l c b g o

  none_beyond : (i : ℕ) → i < t.n → (l : ℕ) → 64 ≤ l → sets (R i) l ≡ false
  none_beyond i h l g = refuted (sets (R i) l) (λ e. omega (arith, sets_below i l h e, w.few_links))

  -- the links of the other branch made false, if the mode says so
  abbrev cut : Bool → ℕ → State → State
  cut b q z = cond b (falsified t.terms t.n (marks_of s) q z) z

  cut_marks : (b : Bool) (q : ℕ) (z : State) → (cut b q z).marks ≡ z.marks
  unfolding falsified
  cut_marks b q z = cond_all (λ (y : State). y.marks ≡ z.marks) b (falsify_marks (sets (R q)) 0 64 z) refl

  cut_mode : (b : Bool) (q : ℕ) (z : State) → (cut b q z).mode ≡ z.mode
  unfolding falsified
  cut_mode b q z = cond_all (λ (y : State). y.mode ≡ z.mode) b (falsify_mode (sets (R q)) 0 64 z) refl

  cut_sized : (b : Bool) (q : ℕ) (z : State) → Sized z → Sized (cut b q z)
  unfolding falsified
  cut_sized b q z h = cond_all Sized b (falsify_sized (sets (R q)) 0 64 z h) h

  cut_links : (b : Bool) (q : ℕ) → q < t.n → (z : State) → Sized z → (l : ℕ) → links_of (cut b q z) l ≡ over (false_if (b && sets (R q) l)) (links_of z l)
  unfolding falsified
  cut_links true q h z y l = falsify_links (sets (R q)) z y (none_beyond q h) l
  cut_links false q h z y l = refl

  -- the state that a decision of row p leaves, if p is a waiting pick (`b`); a step that drops decides nothing
  abbrev carry : Turn → Bool → Bool → ℕ → ℕ → State → State
  carry takes b side q p z = cond b (cut d q (decide_of z p side)) z
  carry drops b side q p z = z

  module _ (r : ℕ) (π : Prefix) where
    -- z is s after a step at row r, which is a place of P
    abbrev pub At : Turn → State → Process → Type 0
    At u z P = (x : Place P) × (row P x ≡ r) × (here P x ≡ π) × Is s u z P x

    still : (u : Turn) (side : Bool) (q p : ℕ) (z : State) (P : Process) → At u z P → At u (carry u false side q p z) P
    still takes side q p z P a = a
    still drops side q p z P a = a

    -- a waiting pick above, decided to the side of the place
    decided : (p q : ℕ) (side : Bool) → p < t.n → q < t.n → (P : Process) (x : Place P) (Q : Process) (y : Place Q) (z : State)
        → ((k : ℕ) → mark p (side_mark side) (marked takes P x (marks_of s)) k ≡ marked takes Q y (marks_of s) k)
        → ((k : ℕ) → over (false_if (d && sets (R q) k)) (effect takes d P x k) ≡ effect takes d Q y k)
        → Is s takes z P x → Is s takes (cut d q (decide_of z p side)) Q y
    decided p q side hp hq P x Q y z em el i =
        let sz : Sized (decide_of z p side) = sized_mark z p (side_mark side) i.sized in
        record {
          sized = cut_sized d q (decide_of z p side) sz;
          same_mode = cut_mode d q (decide_of z p side) ∙ i.same_mode;
          marks_are = λ k. ap (λ (xs : List ℕ). get_or xs k 0) (cut_marks d q (decide_of z p side)) ∙ (set_mark z.marks p (side_mark side) k (omega (arith, i.sized.all_marks, w.few_terms)) ∙ (ap (cond (eqb k p) (side_mark side)) (i.marks_are k) ∙ em k));
          links_are = λ k. cut_links d q hq (decide_of z p side) sz k ∙ (ap (over (false_if (d && sets (R q) k))) (i.links_are k) ∙ (sym (over_assoc (false_if (d && sets (R q) k)) _ _) ∙ ap (λ (e : Value). over e (links_of s k)) (el k)));
        }

    same : (u : Turn) (z : State) (P : Process) (x : Place P) (Q : Process) (y : Place Q) → ((k : ℕ) → marked u P x (marks_of s) k ≡ marked u Q y (marks_of s) k) → ((k : ℕ) → effect u d P x k ≡ effect u d Q y k) → Is s u z P x → Is s u z Q y
    same u z P x Q y em el i = record { sized = i.sized; same_mode = i.same_mode; marks_are = λ k. i.marks_are k ∙ em k; links_are = λ k. i.links_are k ∙ ap (λ (e : Value). over e (links_of s k)) (el k) }

    module _ (p a b : ℕ) (hp : p < t.n) (ha : a < t.n) (hb : b < t.n) (z : State) where
      pick_left : (u : Turn) → At u z (R a) → At u (carry u true false b p z) (branch p pick (R a) (R b))
      unfolding row here marked effect decides
      pick_left takes (x, e, f, i) = (inl x, e, f, decided p b false hp hb (R a) x (branch p pick (R a) (R b)) (inl x) z (λ k. refl) (λ k. refl) i)
      pick_left drops (x, e, f, i) = (inl x, e, f, same drops z (R a) x (branch p pick (R a) (R b)) (inl x) (λ k. refl) (λ k. refl) i)

      pick_right : (u : Turn) → At u z (R b) → At u (carry u true true a p z) (branch p pick (R a) (R b))
      unfolding row here marked effect decides
      pick_right takes (x, e, f, i) = (inr x, e, f, decided p a true hp ha (R b) x (branch p pick (R a) (R b)) (inr x) z (λ k. refl) (λ k. refl) i)
      pick_right drops (x, e, f, i) = (inr x, e, f, same drops z (R b) x (branch p pick (R a) (R b)) (inr x) (λ k. refl) (λ k. refl) i)

      flow_left : (u : Turn) → At u z (R a) → At u (carry u false false b p z) (branch p flow (R a) (R b))
      unfolding row here marked effect decides
      flow_left u (x, e, f, i) = still u false b p z (branch p flow (R a) (R b)) (inl x, e, f, same u z (R a) x (branch p flow (R a) (R b)) (inl x) (λ k. refl) (λ k. refl) i)

      flow_right : (u : Turn) → At u z (R b) → At u (carry u false true a p z) (branch p flow (R a) (R b))
      unfolding row here marked effect decides
      flow_right u (x, e, f, i) = still u true a p z (branch p flow (R a) (R b)) (inr x, e, f, same u z (R b) x (branch p flow (R a) (R b)) (inr x) (λ k. refl) (λ k. refl) i)

      -- a pick, by which branches are open; one goes through an open one
      through_left : (u : Turn) (o : Open) → opens o false ≡ true → At u z (R a) → At u (carry u (undecided o) false b p z) (after_taken o p pick (R a) (R b))
      unfolding opens undecided
      through_left u both e i = pick_left u i
      through_left u left e i = still u false b p z (R a) i
      through_left u right e i = absurd (true≢false (sym e))

      through_right : (u : Turn) (o : Open) → opens o true ≡ true → At u z (R b) → At u (carry u (undecided o) true a p z) (after_taken o p pick (R a) (R b))
      unfolding opens undecided
      through_right u both e i = pick_right u i
      through_right u left e i = absurd (true≢false (sym e))
      through_right u right e i = still u true a p z (R b) i

    -- ONE ROW UP
    up_by : (u : Turn) (p j : ℕ) → p < t.n → (N : Row) (m : ℕ) (side : Bool) (z : State) → Kids p t.n N → Child N side j → leads N m side ≡ true → At u z (R j) → At u (carry u (is_waiting_pick N m) side (other_of N side) p z) (remainder_by p N m R)
    unfolding Kids Child leads is_waiting_pick first_of second_of remainder_by open_branches
    up_by u p j h NIL m side z k c l i = absurd c
    up_by u p j h (PREFIX π' e) m false z k c l i = subst (λ (x : Stand). At u (carry u false false 0 p z) (after_mark x p π' (R e))) (sym (passed_is (stand m) l)) (still u false 0 p z (R e) (rw c i))
    up_by u p j h (PREFIX π' e) m true z k c l i = absurd c
    up_by u p j h (BRANCH pick a b) m false z k c l i = through_left p a b h k.0.1 k.1.1 z u (open_branches pick m) l (rw c i)
    up_by u p j h (BRANCH pick a b) m true z k c l i = through_right p a b h k.0.1 k.1.1 z u (open_branches pick m) l (rw c i)
    up_by u p j h (BRANCH flow a b) m false z k c l i = flow_left p a b h k.0.1 k.1.1 z u (rw c i)
    up_by u p j h (BRANCH flow a b) m true z k c l i = flow_right p a b h k.0.1 k.1.1 z u (rw c i)

    abbrev above : ℕ → ℕ
    above = parent_of node

    abbrev carried : Turn → ℕ → State → State
    carried takes j z = decided_of t.terms t.n s j z
    carried drops j z = z

    carry_is : (u : Turn) (j : ℕ) (z : State) → carry u (is_waiting_pick (node (above j)) (marks_of s (above j))) (right_of node j) (other_of (node (above j)) (right_of node j)) (above j) z ≡ carried u j z
    unfolding decided_of
    carry_is takes j z = refl
    carry_is drops j z = refl

    up_one : (u : Turn) (j : ℕ) (z : State) → above j < j → leads (node (above j)) (marks_of s (above j)) (right_of node j) ≡ true → (j < t.n) × At u z (R j) → (above j < t.n) × At u (carried u j z) (R (above j))
    up_one u j z l g (h, i) =
        let p : above j < t.n = omega arith in (
          p,
          subst (λ (y : State). At u y (R (above j))) (carry_is u j z)
              (subst (At u _) (sym (remainder_at node t.n (marks_of s) w.tree.kids (above j) p)) (up_by u (above j) j p (node (above j)) (marks_of s (above j)) (right_of node j) z (w.tree.kids (above j) p) (parent_child node j l) g i)),
        )

    -- THE ROW ITSELF
    module _ (size : Sized s) (c : ℕ) (e : node r ≡ PREFIX π c) (h : r < t.n) where
      own_marks : (a k : ℕ) → get_or (set s.marks r a) k 0 ≡ mark r a (marks_of s) k
      own_marks a k = set_mark s.marks r a k (omega (arith, size.all_marks, w.few_terms))

      in_row : (u : Turn) (z : State) → stand (marks_of s r) ≡ waits → Is s u z (prefix r π (R c)) tt → At u z (R r)
      unfolding remainder_by row here
      in_row u z q i =
          subst (At u z) (sym (remainder_at node t.n (marks_of s) w.tree.kids r h ∙ (ap (λ (N : Row). remainder_by r N (marks_of s r) R) e ∙ ap (λ (x : Stand). after_mark x r π (R c)) q)))
          (tt, refl, refl, i)

      own_link_law : (ρ : Prefix) → node r ≡ PREFIX ρ c → Is s takes (own_link ρ (pass_of s r)) (prefix r ρ (R c)) tt
      unfolding own_link marked effect given
      own_link_law (act a) p = record { sized = sized_mark s r 1 size; same_mode = refl; marks_are = own_marks 1; links_are = λ k. refl }
      own_link_law (out l b) p = record { sized = sized_link (pass_of s r) l _ (sized_mark s r 1 size); same_mode = refl; marks_are = own_marks 1; links_are = λ k. link_set s.links l b k size.all_links (omega (arith, w.outs r l c b h p, w.few_links)) }
      own_link_law (join q) p = record { sized = sized_mark s r 1 size; same_mode = refl; marks_are = own_marks 1; links_are = λ k. refl }

      own_taken : stand (marks_of s r) ≡ waits → At takes (own_of (node r) (pass_of s r)) (R r)
      unfolding own_of
      own_taken q = subst (λ (N : Row). At takes (own_of N (pass_of s r)) (R r)) (sym e) (in_row takes (own_link π (pass_of s r)) q (own_link_law π e))

      own_dropped : stand (marks_of s r) ≡ waits → At drops (dropped_of t.terms t.n s r) (R r)
      unfolding dropped_of falsified first_of marked effect Kids
      own_dropped q =
          let k : (r < c) × (c < t.n) = subst (Kids r t.n) e (w.tree.kids r h) in
          subst (λ (N : Row). At drops (falsified t.terms t.n (marks_of s) (first_of N) (drop_of s r)) (R r)) (sym e)
          (in_row drops (falsify_from (sets (R c)) 0 64 (drop_of s r)) q (record {
            sized = falsify_sized (sets (R c)) 0 64 (drop_of s r) (sized_mark s r 4 size);
            same_mode = falsify_mode (sets (R c)) 0 64 (drop_of s r);
            marks_are = λ l. ap (λ (xs : List ℕ). get_or xs l 0) (falsify_marks (sets (R c)) 0 64 (drop_of s r)) ∙ own_marks 4 l;
            links_are = falsify_links (sets (R c)) (drop_of s r) (sized_mark s r 4 size) (none_beyond c k.1);
          }))

      -- ... AND UP TO ROW 0
      module _ (q : stand (marks_of s r) ≡ waits) (g : reached node (marks_of s) r ≡ true) where
        pub taken_at : At takes (taken_of t.terms t.n s r) (R 0)
        unfolding taken_of
        taken_at = (climb_induction t.terms t.n s (λ j z. (j < t.n) × At takes z (R j)) (λ j z l _ g i. up_one takes j z l g i) r (own_of (node r) (pass_of s r)) g (h, own_taken q)).1

        pub dropped_at : At drops (dropped_of t.terms t.n s r) (R 0)
        dropped_at = (reached_induction node (marks_of s) (λ j. (j < t.n) × At drops (dropped_of t.terms t.n s r) (R j)) (λ j l _ g i. up_one drops j (dropped_of t.terms t.n s r) l g i) r g (h, own_dropped q)).1
