-- The climb of a step, each row above looked at once; the decision at a row; a row's own link. Assumes nothing.
use Prim.Native.Nat.{ℕ, zero, suc, ◌+◌, ◌-◌, ◌<◌, ◌≤◌}
use mathlib.Core.Path.{◌≡◌, refl, sym, ap, ◌∙◌}
use mathlib.Core.Bool.{Bool, true, false, cond, ◌&&◌, true≢false}
use mathlib.Core.List.{List}
use mathlib.Core.Logic.{by_cases}
use native.Mathlib.Omega.{arith}
use native.Mathlib.Numerals.{add-one}
use native.Mathlib.Decide.{ℕ_discrete, dec_lt}
use lib.Dec.{eqb}
use lib.ListN.{get_or}
use borrow.Author.Tests.{eq-eqb, ne_eqb, lt-ltb, le-ltb}
use Rattle.laws.proofs.Tests.{and_false, not_both}
use Rattle.calculus.specs.Process.{out}
use Rattle.calculus.specs.Places.{Mode, own, sets, plain, cleaning, falsifies, cleans}
use Rattle.steps.specs.Rows.{Row, NIL, PREFIX, BRANCH, first_of, second_of, is_source, Kids, Tree}
use Rattle.steps.specs.Marks.{Marks, stand}
use Rattle.steps.specs.InFront.{names, parent_of, right_of, waits_by, waiting_step}
use Rattle.steps.proofs.Tree.{child_above}
use Rattle.steps.proofs.Parents.{child_number, number_child, child_names, names_child, parent_is}
use Rattle.sheet.specs.Table.{row_at}
use Rattle.rows.specs.declared.term.TermRow.{TermRow}
use Rattle.rows.specs.declared.term.TermRow.TheVariants.{Nil, Act, Out, Join, Pick, Flow}
use Rattle.rows.specs.Term.{row_of}
use Rattle.reach.specs.Masks.{has_bit, link_bit}
use Rattle.reach.proofs.Bits.{bit_power, bit_none}
use Rattle.state.specs.declared.State.{State}
use Rattle.state.specs.State.{decide_of, set_of}
use Rattle.moves.specs.Steps.{mode_of, marks_of, remainder_in, falsify_from, falsified, is_waiting_pick, decided_of, climbed}
use Rattle.moves.proofs.Climb.{climbed_up, climbed_top}
use Rattle.effects.specs.Gather.{Gathers, own_sets, sets_at, OwnBelow}
use Rattle.effects.proofs.Gathering.{gathers_none}

-- The climb has come to row `at`, with the state as given, and no row from p on names it.
pub record Climbs (ts : List ℕ) (n : ℕ) (s : State) (row : ℕ) (z : State) (at p : ℕ) (y : State) : Type 0 where
  pub below : p ≤ at
  pub inside : at < n
  pub from : at ≤ row
  pub unnamed : (q : ℕ) → p ≤ q → q < at → names (row_at ts q) at ≡ false
  pub same : climbed ts n s row z ≡ climbed ts n s at y

module _ (ts : List ℕ) (n : ℕ) (tree : Tree (row_at ts) n) where
  pub names_parent : (q j : ℕ) → q < j → j < n → names (row_at ts q) j ≡ true → q ≡ parent_of (row_at ts) j
  names_parent q j h k e = sym (parent_is (row_at ts) n tree.kids tree.once q j (eqb (second_of (row_at ts q)) j) (omega arith) (number_child (row_at ts q) (eqb (second_of (row_at ts q)) j) j (omega arith) (names_child (row_at ts q) j e))).0

  module _ (s : State) (row : ℕ) (z : State) where
    pub climb_start : row < n → Climbs ts n s row z row row z
    climb_start h = record { below = omega arith; inside = h; from = omega arith; unnamed = λ q a b. absurd (let w : ⊥ = omega arith in w); same = refl }

    pub climb_hit : (at p : ℕ) (y y' : State) → 0 < p → Climbs ts n s row z at p y → names (row_at ts (p - 1)) at ≡ true → y' ≡ decided_of ts n s at y → Climbs ts n s row z (p - 1) (p - 1) y'
    climb_hit at p y y' h c e f =
        let b : p ≤ at = c.below in let k : at < n = c.inside in let r : at ≤ row = c.from in
        let w : p - 1 ≡ parent_of (row_at ts) at = names_parent (p - 1) at (omega arith) k e in
        record { below = omega arith; inside = omega arith; from = omega arith; unnamed = λ q a b. absurd (let w : ⊥ = omega arith in w); same = c.same ∙ (climbed_up ts n s at y (omega arith) ∙ rw (← w, f) refl) }

    pub climb_miss : (at p : ℕ) (y : State) → 0 < p → Climbs ts n s row z at p y → names (row_at ts (p - 1)) at ≡ false → Climbs ts n s row z at (p - 1) y
    climb_miss at p y h c e =
        let b : p ≤ at = c.below in
        record { below = omega arith; inside = c.inside; from = c.from; unnamed = λ q a b. by_cases (ℕ_discrete q (p - 1)) (λ (w : q ≡ p - 1). rw w e) (λ (w : q ≡ p - 1 → ⊥). c.unnamed q (omega arith) b); same = c.same }

    pub climb_end : (at p : ℕ) (y : State) → p ≤ 0 → Climbs ts n s row z at p y → climbed ts n s row z ≡ y
    climb_end at p y h c =
        by_cases (ℕ_discrete at 0)
        (λ (e : at ≡ 0). c.same ∙ rw e (climbed_top ts n s y))
        (λ (e : at ≡ 0 → ⊥). let k : at < n = c.inside in let (q, side, a, d) = tree.named at (omega arith) k in let (l, m) = child_above q n at (row_at ts q) side (tree.kids q a) d in absurd (not_both (child_names (row_at ts q) side at (child_number (row_at ts q) side at d)) (c.unnamed q (omega arith) l)))

-- the decision at the row p above j
module _ (ts : List ℕ) (n : ℕ) (s : State) (j p : ℕ) (z : State) (above : p ≡ parent_of (row_at ts) j) where
  abbrev waits : Bool
  waits = is_waiting_pick (row_at ts p) (get_or s.marks p 0)

  pub decided_no : waits ≡ false → z ≡ decided_of ts n s j z
  unfolding decided_of
  decided_no e = rw (← above, e) refl

  -- by the right branch, and the state with the pick decided
  module _ (x : ℕ) (y : State) (e : waits ≡ true) (second : x ≡ second_of (row_at ts p)) (told : y ≡ decide_of z p (eqb x j)) where
    pub decided_plain : falsifies (mode_of s.mode) ≡ false → y ≡ decided_of ts n s j z
    unfolding decided_of right_of
    decided_plain f = rw (← above, e, f, told, second) refl

    pub decided_right : falsifies (mode_of s.mode) ≡ true → eqb x j ≡ true → (w : ℕ) → w ≡ first_of (row_at ts p) → falsified ts n (marks_of s) w y ≡ decided_of ts n s j z
    unfolding decided_of right_of
    decided_right f g w k = rw (← above, e, f, told, ← second, g, k) refl

    pub decided_left : falsifies (mode_of s.mode) ≡ true → eqb x j ≡ false → falsified ts n (marks_of s) x y ≡ decided_of ts n s j z
    unfolding decided_of right_of
    decided_left f g = rw (← above, e, f, told, ← second, g) (ap (λ (k : ℕ). falsified ts n (marks_of s) k (decide_of z p false)) second)

-- the branches of a waiting PICK are rows
pub pick_branches : (i n m : ℕ) (N : Row) → Kids i n N → is_waiting_pick N m ≡ true → (first_of N < n) × (second_of N < n)
unfolding is_waiting_pick Kids first_of second_of
pick_branches i n m NIL k e = absurd (true≢false (sym e))
pick_branches i n m (PREFIX π c) k e = absurd (true≢false (sym e))
pick_branches i n m (BRANCH κ p q) k e = (k.0.1, k.1.1)

-- the word of a row's own link
pub gathers_waits : (N : Row) (m : ℕ) → waiting_step N m ≡ false → Gathers 0 (own_sets N m)
unfolding own_sets
gathers_waits N m e = gathers_none (own_sets N m) (λ l. rw e refl)

pub gathers_other : (N : TermRow) (m : ℕ) → ((l : ℕ) (v : Bool) (d : ℕ) → N ≡ Out l v d → ⊥) → Gathers 0 (own_sets (row_of N) m)
unfolding own_sets is_source own
gathers_other N m other = gathers_none (own_sets (row_of N) m) (λ l. ap (λ (x : Bool). waiting_step (row_of N) m && x) (no_source N other l) ∙ and_false (waiting_step (row_of N) m))
  where
    no_source : (N : TermRow) → ((l : ℕ) (v : Bool) (d : ℕ) → N ≡ Out l v d → ⊥) → (l : ℕ) → is_source (row_of N) l ≡ false
    no_source Nil other l = refl
    no_source (Act a d) other l = refl
    no_source (Out k v d) other l = absurd (other k v d refl)
    no_source (Join q d) other l = refl
    no_source (Pick p q) other l = refl
    no_source (Flow p q) other l = refl

link_bit_law : (a l : ℕ) → l < 64 → has_bit (link_bit a) l ≡ eqb l a
unfolding link_bit
link_bit_law a l h =
    by_cases (dec_lt a 64)
    (λ (k : a < 64). rw (lt-ltb a 64 k) (bit_power a l))
    (λ (k : a < 64 → ⊥). rw (le-ltb a 64 (omega arith)) (bit_none l ∙ sym (ne_eqb l a (λ e. omega arith))))

pub gathers_out : (N : Row) (a : ℕ) (v : Bool) (c m x : ℕ) → N ≡ PREFIX (out a v) c → waits_by (stand m) ≡ true → x ≡ link_bit a → Gathers x (own_sets N m)
unfolding own_sets waiting_step is_source own
gathers_out N a v c m x e f g l h = rw (e, f, g) (link_bit_law a l h)

pub own_below : (N : Row) (a : ℕ) (v : Bool) (c : ℕ) → N ≡ PREFIX (out a v) c → OwnBelow N → a < 64
unfolding OwnBelow is_source own
own_below N a v c e h = (rw e at h) a (eq-eqb a a refl)

-- falsifying one link after another
falsify_one : (f : ℕ → Bool) (i : ℕ) (z : State) (b : Bool) → i < 64 → f i ≡ b → falsify_from f i (64 - i) z ≡ falsify_from f (i + 1) (64 - (i + 1)) (cond b (set_of z i 1) z)
unfolding falsify_from
falsify_one f i z b h e =
    let w : 64 - i ≡ suc (64 - suc i) = omega arith in
    ap (λ (c : ℕ). falsify_from f i c z) w
    ∙ (ap (λ (b : Bool). falsify_from f (suc i) (64 - suc i) (cond b (set_of z i 1) z)) e
    ∙ ap (λ (k : ℕ). falsify_from f k (64 - k) (cond b (set_of z i 1) z)) (sym (add-one i)))

pub falsify_hit : (f : ℕ → Bool) (i : ℕ) (z : State) → i < 64 → f i ≡ true → falsify_from f i (64 - i) z ≡ falsify_from f (i + 1) (64 - (i + 1)) (set_of z i 1)
falsify_hit f i z h e = falsify_one f i z true h e

pub falsify_miss : (f : ℕ → Bool) (i : ℕ) (z : State) → i < 64 → f i ≡ false → falsify_from f i (64 - i) z ≡ falsify_from f (i + 1) (64 - (i + 1)) z
falsify_miss f i z h e = falsify_one f i z false h e

pub falsify_end : (f : ℕ → Bool) (i : ℕ) (z : State) → 64 ≤ i → falsify_from f i (64 - i) z ≡ z
unfolding falsify_from
falsify_end f i z h = let w : 64 - i ≡ 0 = omega arith in rw w refl

falsify_same : (f g : ℕ → Bool) (i c : ℕ) (z : State) → i + c ≡ 64 → ((l : ℕ) → l < 64 → f l ≡ g l) → falsify_from f i c z ≡ falsify_from g i c z
unfolding falsify_from
falsify_same f g i zero z h e = refl
falsify_same f g i (suc c) z h e = rw (e i (omega arith)) (falsify_same f g (suc i) c (cond (g i) (set_of z i 1) z) (omega arith) e)

pub falsified_by : (ts : List ℕ) (n : ℕ) (μ : Marks) (row x : ℕ) (z : State) → row < n → Gathers x (sets_at ts n μ row) → falsify_from (has_bit x) 0 64 z ≡ falsified ts n μ row z
unfolding falsified sets_at
falsified_by ts n μ row x z h e = falsify_same (has_bit x) (sets (remainder_in ts n μ row)) 0 64 z refl (λ l k. e l k ∙ rw (lt-ltb row n h) refl)

-- the two questions about the mode have one answer
pub falsifies_same : (m : Mode) → falsifies m ≡ cleans m
unfolding falsifies cleans
falsifies_same plain = refl
falsifies_same cleaning = refl
