-- A FRESH STATE FITS, and FITTING IS KEPT by every step. Assumes nothing.
use mathlib.Core.Path.{◌≡◌, refl, sym, ap, ap₂, ◌∙◌, subst, subst₂}
use mathlib.Core.Bool.{Bool, true, false, cond, ◌&&◌, true≢false}
use mathlib.Core.List.{List}
use mathlib.Core.Logic.{⊎_elim, by_cases, ◌↔◌}
use mathlib.Core.Option.{some}
use Prim.Native.Nat.{ℕ, ◌<◌, ◌≤◌}
use native.Mathlib.Omega.{arith}
use native.Mathlib.Decide.{dec_lt}
use lib.Dec.{eqb, ltb, leb}
use lib.ListN.{get_or, get_or-eq_default}
use borrow.Author.Tests.{lt-ltb, le-ltb, leb-true, le-leb, eqb-true, eq-eqb}
use Rattle.laws.specs.Tests.{or}
use Rattle.laws.specs.Checks.{Holds}
use Rattle.laws.proofs.Tests.{not_both, refuted, cond_all, implied, implies, and_l, and_r}
use Rattle.laws.proofs.Up.{get_d_constant}
use Rattle.calculus.specs.Process.{Process, Prefix, act, out, join, pick, flow}
use Rattle.calculus.specs.Status.{Value, Links}
use Rattle.calculus.specs.Places.{sets, Place, Turn, takes, drops, over, Mode, falsifies, Allows, Valid, Ready}
use Rattle.calculus.proofs.Effects.{effect_out, valid_after}
use Rattle.calculus.proofs.Steps.{turn_ready}
use Rattle.conditions.specs.Numbers.{digit}
use Rattle.conditions.proofs.Numbers.{digit_undigit}
use Rattle.steps.specs.Rows.{Row, NIL, PREFIX, BRANCH}
use Rattle.steps.specs.Marks.{stand, open_branches, done_mark}
use Rattle.steps.specs.InFront.{waits_by, undecided, waiting, waiting_step, reached}
use Rattle.sheet.specs.Table.{Table, row_at, eval_in}
use Rattle.sheet.specs.Accepted.{WellFormed, SingleSource}
use Rattle.evaluate.specs.Values.{links_in}
use Rattle.state.specs.declared.State.{State}
use Rattle.state.specs.State.{fresh_of, side_mark}
use Rattle.moves.specs.Steps.{mode_of, marks_of, links_of, Sized, nodes, left_in, turn_at, has_step, is_waiting_pick, taken_of, dropped_of, acts_of, unset_of, counted, stepped_by, stepped_of, start_of}
use Rattle.moves.specs.Fits.{suits_prefix, suits_branch, suits, mark_ok, link_ok, held, wait_ok, live, clear_prefix, clear_row, clear_ok, counts_ok, counts_fit, Fits}
use Rattle.moves.proofs.Falsify.{unset_zero, zero_unset}
use Rattle.moves.proofs.StateAfter.{Is, sets_below}
use Rattle.moves.proofs.Moves.{has_turn, turn_fronts, turn_parts, stepped_at, left_at, links_at_law}
use Rattle.moves.proofs.Allowed.{left_single}
use Rattle.moves.proofs.Frame.{Change, Frames, step_frames}
use Rattle.moves.proofs.Held.{reached_free, held_less}
use Rattle.moves.proofs.Clear.{clear_rows, rows_clear}
use Rattle.moves.proofs.Small.{Small, step_small}

-- a waiting mark suits every row
zero_suits : (m : Mode) (N : Row) → suits m N 0 ≡ true
unfolding suits suits_prefix suits_branch or
zero_suits m NIL = refl
zero_suits m (PREFIX (act a) c) = refl
zero_suits m (PREFIX (out l b) c) = refl
zero_suits m (PREFIX (join q) c) = refl
zero_suits m (BRANCH pick p q) = refl
zero_suits m (BRANCH flow p q) = refl

zero_waits : (N : Row) → waiting N 0 ≡ true
unfolding waiting stand waits_by open_branches undecided
zero_waits NIL = refl
zero_waits (PREFIX π c) = refl
zero_waits (BRANCH pick p q) = refl
zero_waits (BRANCH flow p q) = refl

unset_clears : (N : Row) (m : ℕ) (links : List ℕ) → ((l : ℕ) → get_or links l 0 ≡ 0) → clear_row N m links ≡ true
unfolding clear_row clear_prefix
unset_clears NIL m links z = refl
unset_clears (PREFIX (act a) c) m links z = implied (waits_by (stand m)) (λ e. refl)
unset_clears (PREFIX (out l b) c) m links z = implied (waits_by (stand m)) (λ e. eq-eqb _ 0 (z l))
unset_clears (PREFIX (join q) c) m links z = implied (waits_by (stand m)) (λ e. refl)
unset_clears (BRANCH κ p q) m links z = refl

pub fresh_sized : (t : Table) (mode : ℕ) → Sized (start_of t mode)
fresh_sized t mode = record { all_marks = refl; all_links = refl }

-- (e) IN THE REQUEST'S WORDS: no count is wrong
pub counts_said : (t : Table) (s : State) → (counts_ok t.m t.terms t.n s ≡ true) ↔ ((s.acts ≡ acts_of (left_in t s)) × (s.unset ≡ unset_of t.m (links_of s)))
unfolding counts_ok
counts_said t s = (
  λ e. (eqb-true s.acts (acts_of (left_in t s)) (and_l _ _ e), eqb-true s.unset (unset_of t.m (links_of s)) (and_r (eqb s.acts (acts_of (left_in t s))) _ e)),
  λ (a, u). ap₂ ◌&&◌ (eq-eqb s.acts (acts_of (left_in t s)) a) (eq-eqb s.unset (unset_of t.m (links_of s)) u),
)

-- a state that was counted has the right counts
right_counts : (t : Table) (s : State) → Holds (counts_fit t.m t.terms t.n (counted t s))
right_counts t s _ _ _ = (counts_said t (counted t s)).1 (refl, refl)

pub fresh_fits : (t : Table) (mode : ℕ) → Fits t (start_of t mode)
unfolding mark_ok link_ok wait_ok clear_ok
fresh_fits t mode = record {
  marks_fit_holds = λ i _ _. rw (get_d_constant {A = ℕ} 0 256 i) (cond_all (λ (b : Bool). b ≡ true) (ltb i t.n) (zero_suits (mode_of mode) (row_at t.terms i)) refl);
  links_fit_holds = λ l _ _. rw (get_d_constant {A = ℕ} 0 64 l) (cond_all (λ (b : Bool). b ≡ true) (ltb l t.m) refl refl);
  waits_fit_holds = λ i _ _. implied (held t.terms (marks_of (fresh_of mode)) i) (λ e. rw (get_d_constant {A = ℕ} 0 256 i) (zero_waits (row_at t.terms i)));
  clear_fit_holds = λ i _ _. implied (live t.terms (marks_of (fresh_of mode)) i) (λ e. unset_clears (row_at t.terms i) (marks_of (fresh_of mode) i) (fresh_of mode).links (λ l. get_d_constant {A = ℕ} 0 64 l));
  counts_fit_holds = right_counts t (fresh_of mode);
}

-- A FITTING STATE IS VALID
pub fits_valid : (t : Table) → WellFormed t → SingleSource t → (s : State) → Fits t s → Valid (left_in t s) (links_of s)
fits_valid t w source s f = record {
  single = left_single t w source s;
  clear = λ k e. zero_unset s.links k (rows_clear t.terms t.n w.tree.kids w.tree.once (marks_of s) s.links (λ i h. f.clear_fit_holds i (omega arith) h) k w.tree.some_row e);
}

-- a fitting state's links are 0 to 2, so that each of its bytes is the number of its value; from 64 on there is no byte, and 0 is read
fits_small : (t : Table) (s : State) → Fits t s → Small s
unfolding link_ok
fits_small t s f l h = at (ltb l t.m) (f.links_fit_holds l (omega arith) h)
  where
    at : (b : Bool) → cond b (leb (get_or s.links l 0) 2) (eqb (get_or s.links l 0) 0) ≡ true → get_or s.links l 0 ≤ 2
    at true e = leb-true (get_or s.links l 0) 2 e
    at false e = let z : get_or s.links l 0 ≡ 0 = eqb-true (get_or s.links l 0) 0 e in omega arith

pub link_digit : (t : Table) (s : State) → Sized s → Fits t s → (l : ℕ) → get_or s.links l 0 ≡ digit (links_of s l)
unfolding links_in digit
link_digit t s size f l =
    by_cases (dec_lt l 64)
    (λ h. rw (lt-ltb l 64 h) (sym (digit_undigit (get_or s.links l 0) (fits_small t s f l h))))
    (λ h. rw (le-ltb l 64 (omega arith)) (get_or-eq_default s.links 0 (omega (arith, size.all_links))))

-- the new marks: of the row itself, and of a pick
done_suits : (eval : ℕ → Links → Value) (v : Links) (m : Mode) (u : Turn) (π : Prefix) → Allows m u → Ready eval u π v → suits_prefix m π (done_mark u) ≡ true
unfolding suits_prefix Ready or
done_suits eval v m takes (act a) h o = refl
done_suits eval v m takes (out l b) h o = refl
done_suits eval v m takes (join c) h o = refl
done_suits eval v m drops (act a) h o = absurd o
done_suits eval v m drops (out l b) h o = absurd o
done_suits eval v m drops (join c) h o = h

side_suits : (m : Mode) (N : Row) (x : ℕ) (side : Bool) → is_waiting_pick N x ≡ true → suits m N (side_mark side) ≡ true
unfolding is_waiting_pick suits suits_branch or
side_suits m NIL x side e = absurd (true≢false (sym e))
side_suits m (PREFIX π c) x side e = absurd (true≢false (sym e))
side_suits m (BRANCH pick p q) x true e = refl
side_suits m (BRANCH pick p q) x false e = refl
side_suits m (BRANCH flow p q) x side e = absurd (true≢false (sym e))

done_steps : (N : Row) (u : Turn) → waiting_step N (done_mark u) ≡ false
unfolding waiting_step stand waits_by
done_steps NIL u = refl
done_steps (PREFIX π c) takes = refl
done_steps (PREFIX π c) drops = refl
done_steps (BRANCH κ p q) u = refl

pick_steps : (N : Row) (x y : ℕ) → is_waiting_pick N x ≡ true → waiting_step N y ≡ false
unfolding is_waiting_pick waiting_step
pick_steps NIL x y e = refl
pick_steps (PREFIX π c) x y e = absurd (true≢false (sym e))
pick_steps (BRANCH κ p q) x y e = refl

module _ (t : Table) (w : WellFormed t) (s : State) (size : Sized s) (r : ℕ) (u : Turn) (e : turn_at t s r ≡ some u) where
  abbrev z : State
  z = stepped_of t s r

  abbrev m : Mode
  m = mode_of s.mode

  abbrev P : Process
  P = left_in t s

  frames : Frames t s r u z
  frames = step_frames t w s r u e

  -- (a)
  abbrev MarkOk : ℕ → ℕ → Type 0
  MarkOk i x = cond (ltb i t.n) (suits m (nodes t i) x) (eqb x 0) ≡ true

  mark_in : (i x : ℕ) → i < t.n → suits m (nodes t i) x ≡ true → MarkOk i x
  mark_in i x h e = rw (lt-ltb i t.n h) e

  new_suits : (i x : ℕ) → Change t s r u i x → MarkOk i x
  unfolding suits
  new_suits i x c =
      let (_, π, _, p, o) = turn_fronts t s r u e in
      let (h, _, _) = turn_parts t s r u e in
      let (a, b) = turn_ready (eval_in t) m π (links_of s) u o in
      ⊎_elim
      (λ d. subst₂ MarkOk (sym d.0) (sym d.1) (mark_in r (done_mark u) h (rw p (done_suits (eval_in t) (links_of s) m u π a b))))
      (λ (_, side, k, d). subst (MarkOk i) (sym d) (mark_in i (side_mark side) k.in_sheet (side_suits m (nodes t i) (marks_of s i) side k.undecided)))
      c

  -- (c): what waits now waited before, and a row whose mark is new was not held
  abbrev Steps : ℕ → ℕ → Type 0
  Steps k x = waiting_step (nodes t k) x ≡ true → waiting_step (nodes t k) (marks_of s k) ≡ true

  new_steps : (k x : ℕ) → Change t s r u k x → Steps k x
  new_steps k x c =
      ⊎_elim
      (λ d. subst (Steps k) (sym d.1) (λ q. absurd (not_both q (done_steps (nodes t k) u))))
      (λ (_, side, j, d) q. absurd (not_both q (pick_steps (nodes t k) (marks_of s k) x j.undecided)))
      c

  no_more : (k : ℕ) → Steps k (marks_of z k)
  no_more k = ⊎_elim (λ d. subst (Steps k) (sym d) (λ q. q)) (new_steps k (marks_of z k)) (frames k)

  new_free : (k x : ℕ) → Change t s r u k x → held t.terms (marks_of s) k ≡ false
  new_free k x c =
      let (_, g, _) = turn_parts t s r u e in
      reached_free t.terms (marks_of s) k (⊎_elim (λ d. subst (λ (k : ℕ). reached (nodes t) (marks_of s) k ≡ true) (sym d.0) g) (λ (_, side, j, d). j.comes_to) c)

  module _ (f : Fits t s) where
    marks_kept : (i : ℕ) → i < 256 → MarkOk i (marks_of z i)
    unfolding mark_ok
    marks_kept i h = ⊎_elim (λ d. subst (MarkOk i) (sym d) (f.marks_fit_holds i (omega arith) h)) (new_suits i (marks_of z i)) (frames i)

    waits_kept : (i : ℕ) → i < t.n → wait_ok t.terms (marks_of z) i ≡ true
    unfolding wait_ok
    waits_kept i h = implied (held t.terms (marks_of z) i) (λ q.
        let q' : held t.terms (marks_of s) i ≡ true = held_less t.terms (marks_of s) (marks_of z) no_more i q in
        ⊎_elim
        (λ d. subst (λ (x : ℕ). waiting (nodes t i) x ≡ true) (sym d) (implies (held t.terms (marks_of s) i) (f.waits_fit_holds i (omega arith) h) q'))
        (λ c. absurd (not_both q' (new_free i (marks_of z i) c)))
        (frames i))

    -- (b)
    beyond : (l : ℕ) → l < 64 → t.m ≤ l → get_or s.links l 0 ≡ 0
    unfolding link_ok
    beyond l h a = eqb-true _ 0 (rw (le-ltb l t.m a) at (f.links_fit_holds l (omega arith) h))

    module _ (x : Place P) (i : Is s u z P x) (source : SingleSource t) where
      links_kept : (l : ℕ) → l < 64 → link_ok t.m z.links l ≡ true
      unfolding link_ok
      links_kept l h =
          by_cases (dec_lt l t.m)
          (λ a. rw (lt-ltb l t.m a) (le-leb _ 2 (step_small t s r (fits_small t s f) u e l h)))
          (λ a. rw (le-ltb l t.m (omega arith)) (eq-eqb _ 0 (unset_zero z.links l h (i.links_are l ∙
          (ap (λ (v : Value). over v (links_of s l)) (effect_out u (falsifies m) P x l (refuted (sets P l) (λ q. omega (arith, sets_below t w s 0 l w.tree.some_row q)))) ∙
          zero_unset s.links l (beyond l h (omega arith)))))))

      -- (d)
      valid_kept : Valid (left_in t z) (links_of z)
      valid_kept = subst₂ Valid (sym (left_at t w s size u x z i)) (sym (links_at_law t w s size u x z i)) (valid_after u (falsifies m) P x (links_of s) (fits_valid t w source s f))

      clear_kept : (k : ℕ) → k < t.n → clear_ok t.terms (marks_of z) z.links k ≡ true
      clear_kept = clear_rows t.terms t.n w.tree.kids w.tree.once (marks_of z) z.links (λ l q. unset_zero z.links l (omega (arith, sets_below t w z 0 l w.tree.some_row q, w.few_links)) (valid_kept.clear l q))

      -- (e)
      counts_kept : Holds (counts_fit t.m t.terms t.n z)
      unfolding stepped_of stepped_by
      counts_kept = rw e (by_turn u)
        where
          by_turn : (u : Turn) → Holds (counts_fit t.m t.terms t.n (stepped_by t s r (some u)))
          by_turn takes = right_counts t (taken_of t.terms t.n s r)
          by_turn drops = right_counts t (dropped_of t.terms t.n s r)

      all_kept : Fits t z
      unfolding mark_ok
      all_kept = record {
        marks_fit_holds = λ k _ h. subst (λ (mode : ℕ). mark_ok t.terms t.n (mode_of mode) (marks_of z) k ≡ true) (sym i.same_mode) (marks_kept k h);
        links_fit_holds = λ l _ h. links_kept l h;
        waits_fit_holds = λ k _ h. waits_kept k h;
        clear_fit_holds = λ k _ h. clear_kept k h;
        counts_fit_holds = counts_kept;
      }

pub fits_step : (t : Table) → WellFormed t → SingleSource t → (s : State) → Sized s → (r : ℕ) → has_step t s r ≡ true → Fits t s → Fits t (stepped_of t s r)
fits_step t w source s size r h f =
    let (u, e) = has_turn t s r h in
    let (x, _, _, i) = stepped_at t s r w size u e (turn_fronts t s r u e) in
    all_kept t w s size r u e f x i source
