-- TWO STEPS ON THE TWO SIDES OF A FLOW: after either the other is still listed as it was, and both orders reach the same state. From any fitting state, in both modes, under both evaluations. Assumes nothing.
use mathlib.Core.Path.{◌≡◌, refl, sym, ap, ◌∙◌, subst, subst₂, fun_ext}
use mathlib.Core.Bool.{Bool, true}
use Prim.Native.Nat.{ℕ}
use native.Mathlib.Omega.{arith}
use lib.Seq.{ext_get_or}
use borrow.Author.Tests.{lt-ltb}
use Rattle.calculus.specs.Process.{Process, Prefix}
use Rattle.calculus.specs.Status.{Value, Links}
use Rattle.calculus.specs.Places.{Place, row, here, Turn, after, put_on, effect, Mode, falsifies, Allows, named, Ready}
use Rattle.calculus.proofs.Beside.{Beside, still, still_same, still_ready, links_twice, same_links}
use Rattle.conditions.specs.Numbers.{digit}
use Rattle.conditions.proofs.Evaluation.{value_monotone}
use Rattle.steps.specs.Marks.{Marks, open_branches, marked}
use Rattle.steps.specs.InFront.{undecided, waiting, in_front}
use Rattle.steps.proofs.Tree.{child_in, all_rows}
use Rattle.steps.proofs.InFront.{reached_above}
use Rattle.steps.proofs.Sides.{marks_twice, same_marks, flow_sides}
use Rattle.sheet.specs.Table.{Table, evaluation_of, eval_in}
use Rattle.sheet.specs.Accepted.{WellFormed, SingleSource}
use Rattle.state.specs.declared.State.{State}
use Rattle.moves.specs.Steps.{mode_of, marks_of, links_of, Sized, nodes, remainder_in, left_in, kind_in, kind_at, has_step, acts_of, unset_of, stepped_of}
use Rattle.moves.specs.Above.{OnTwoSides}
use Rattle.moves.specs.Fits.{Fits}
use Rattle.moves.proofs.StateAfter.{Is}
use Rattle.moves.proofs.Moves.{has_turn, turn_parts, Does, StepPlace, left_distinct, left_at, links_at_law, step_place, place_step}
use Rattle.moves.proofs.Fits.{counts_said, fits_valid, link_digit, fits_step}

-- fitting states of one mode, with the same marks and links, are the same: a link's value tells its byte, and the counts are right
one_state : (t : Table) (a b : State) → Sized a → Sized b → Fits t a → Fits t b → a.mode ≡ b.mode → marks_of a ≡ marks_of b → links_of a ≡ links_of b → a ≡ b
one_state t a b size size' fits fits' mode p q =
    let marks : a.marks ≡ b.marks = ext_get_or 0 a.marks b.marks (size.all_marks ∙ sym size'.all_marks) (λ k _. ap (λ (μ : Marks). μ k) p) in
    let links : a.links ≡ b.links = ext_get_or 0 a.links b.links (size.all_links ∙ sym size'.all_links) (λ k _. link_digit t a size fits k ∙ (ap (λ (v : Links). digit (v k)) q ∙ sym (link_digit t b size' fits' k))) in
    let (x, y) = (counts_said t a).0 (fits.counts_fit_holds 0 (omega arith) (omega arith)) in
    let (x', y') = (counts_said t b).0 (fits'.counts_fit_holds 0 (omega arith) (omega arith)) in
    let acts : a.acts ≡ b.acts = x ∙ (ap (λ (μ : Marks). acts_of (remainder_in t.terms t.n μ 0)) p ∙ sym x') in
    let unset : a.unset ≡ b.unset = y ∙ (ap (unset_of t.m) q ∙ sym y') in
    λ i. record { mode = mode i; marks = marks i; links = links i; acts = acts i; unset = unset i }

pub on_two_sides_sym : {t : Table} {f i j : ℕ} → OnTwoSides t f i j → OnTwoSides t f j i
on_two_sides_sym o = record { left = o.left; right = o.right; is_flow = o.is_flow; one = o.other; other = o.one; two_sides = λ e. o.two_sides (sym e) }

-- row j has a step after that of row i too, and of the same kind
abbrev pub Still : Table → State → ℕ → ℕ → Type 0
Still t s i j = (has_step t (stepped_of t s i) j ≡ true) × (kind_at t (stepped_of t s i) j ≡ kind_at t s j)

module _ (t : Table) (w : WellFormed t) where
  abbrev eval : ℕ → Links → Value
  eval = eval_in t

  -- the FLOW waits, and one reaches it
  pub flow_in_front : (s : State) (f i j : ℕ) → OnTwoSides t f i j → has_step t s i ≡ true → in_front (nodes t) (marks_of s) t.n f ≡ true
  unfolding in_front waiting open_branches undecided
  flow_in_front s f i j o e =
      let (u, q) = has_turn t s i e in
      let (_, r, _) = turn_parts t s i u q in
      let h = child_in (nodes t) t.n w.tree.kids f i o.one.child o.one.in_sheet o.one.side o.one.at_side o.one.holds in
      rw (lt-ltb f t.n o.one.in_sheet, reached_above (nodes t) (marks_of s) t.n w.tree.kids w.tree.once i r f o.one.in_sheet h, o.is_flow) refl

  -- a place at which a turn is allowed and ready is the step of its row: in a state of which one knows the mode, what is left and the links
  abbrev Steps : State → Mode → Process → Links → Type 0
  Steps z m Q v = (u : Turn) (y : Place Q) → Allows m u → Ready eval u (here Q y) v → Does t z (row Q y) u Q y

  steps_in : (z : State) → Sized z → (m : Mode) → mode_of z.mode ≡ m → (Q : Process) → left_in t z ≡ Q → (v : Links) → links_of z ≡ v → Steps z m Q v
  steps_in z size m e Q p v q = subst (λ (m : Mode). Steps z m Q v) e (subst₂ (Steps z (mode_of z.mode)) p q (place_step t w z size))

  module _ (source : SingleSource t) (s : State) (size : Sized s) (fits : Fits t s) where
    abbrev P : Process
    P = left_in t s

    abbrev d : Bool
    d = falsifies (mode_of s.mode)

    -- the step of row i, and then that of row j
    module _ (i j : ℕ) (a : StepPlace t s i) (c : StepPlace t s j) (b : Beside P a.place c.place) where
      abbrev z : State
      z = stepped_of t s i

      abbrev Q : Process
      Q = after a.turn P a.place

      abbrev y : Place Q
      y = still a.turn P a.place c.place b

      first : Is s a.turn z P a.place
      first = a.does.stepped

      second : Does t z j c.turn Q y
      second =
          let left = left_at t w s size a.turn a.place z first in
          let links = links_at_law t w s size a.turn a.place z first in
          let ready = still_ready eval (λ q. value_monotone (evaluation_of t.evaluation) _) a.turn c.turn d P (links_of s) (fits_valid t w source s fits) a.place c.place b c.ready in
          subst (λ (r : ℕ). Does t z r c.turn Q y) ((still_same a.turn P a.place c.place b).0 ∙ c.its_row)
          (steps_in z first.sized (mode_of s.mode) (ap mode_of first.same_mode) Q left _ links c.turn y c.allowed ready)

      as_it_was : Still t s i j
      as_it_was = (second.there, second.kind ∙ (ap (λ (π : Prefix). kind_in (named c.turn j π)) (still_same a.turn P a.place c.place b).1 ∙ sym c.does.kind))

      both_marks : marks_of (stepped_of t z j) ≡ marks_twice a.turn c.turn P a.place c.place b (marks_of s)
      both_marks = fun_ext second.stepped.marks_are ∙ ap (marked c.turn Q y) (fun_ext first.marks_are)

      both_links : links_of (stepped_of t z j) ≡ links_twice a.turn c.turn d P a.place c.place b (links_of s)
      both_links = fun_ext second.stepped.links_are ∙ (ap (λ (mode : ℕ). put_on (effect c.turn (falsifies (mode_of mode)) Q y) (links_of z)) first.same_mode ∙ ap (put_on (effect c.turn d Q y)) (fun_ext first.links_are))

      both_fit : Sized (stepped_of t z j) × Fits t (stepped_of t z j) × ((stepped_of t z j).mode ≡ s.mode)
      both_fit = (second.stepped.sized, fits_step t w source z first.sized j second.there (fits_step t w source s size i a.does.there fits), second.stepped.same_mode ∙ first.same_mode)

    -- the steps of two rows that stand below a FLOW, on two sides, are at places on the two sides of a flow
    places_beside : (f i j : ℕ) → OnTwoSides t f i j → (a : StepPlace t s i) (c : StepPlace t s j) → Beside P a.place c.place
    places_beside f i j o a c =
        flow_sides (nodes t) t.n w.tree.kids w.tree.once (marks_of s) i j f o.left o.right o.one.in_sheet o.is_flow
        o.one.side o.other.side o.one.child o.other.child o.two_sides o.one.at_side o.other.at_side o.one.holds o.other.holds
        0 w.tree.some_row (all_rows (nodes t) t.n w.tree.kids w.tree.named f o.one.in_sheet) a.place c.place a.its_row c.its_row

    pub still_there : (f i j : ℕ) → OnTwoSides t f i j → has_step t s i ≡ true → has_step t s j ≡ true → Still t s i j
    still_there f i j o e e' =
        let a = step_place t w s size i e in
        let c = step_place t w s size j e' in
        as_it_was i j a c (places_beside f i j o a c)

    pub same_after : (f i j : ℕ) → OnTwoSides t f i j → has_step t s i ≡ true → has_step t s j ≡ true → stepped_of t (stepped_of t s i) j ≡ stepped_of t (stepped_of t s j) i
    same_after f i j o e e' =
        let a = step_place t w s size i e in
        let c = step_place t w s size j e' in
        let b = places_beside f i j o a c in
        let b' = places_beside f j i (on_two_sides_sym o) c a in
        let (size₁, fits₁, mode₁) = both_fit i j a c b in
        let (size₂, fits₂, mode₂) = both_fit j i c a b' in
        one_state t _ _ size₁ size₂ fits₁ fits₂ (mode₁ ∙ sym mode₂)
        (both_marks i j a c b ∙ (same_marks a.turn c.turn (marks_of s) P a.place c.place b b' (left_distinct t w s) ∙ sym (both_marks j i c a b')))
        (both_links i j a c b ∙ (same_links a.turn c.turn d (links_of s) P a.place c.place b b' (fits_valid t w source s fits).single ∙ sym (both_links j i c a b')))
