-- The links that a remainder sets, gathered row by row. Assumes nothing.
use Prim.Native.Nat.{ℕ, ◌<◌, ◌≤◌}
use mathlib.Core.Path.{◌≡◌, refl, sym, ap, ◌∙◌}
use mathlib.Core.Bool.{Bool, true, false, cond, ◌&&◌, not}
use mathlib.Core.List.{List}
use native.Mathlib.Omega.{arith}
use lib.Dec.{eqb}
use lib.Bits.{bit_or}
use borrow.Author.Tests.{lt-ltb, le-ltb, ne_eqb}
use Rattle.laws.specs.Tests.{or}
use Rattle.laws.proofs.Tests.{or_none}
use Rattle.calculus.specs.Process.{Process, Prefix, Branching}
use Rattle.calculus.specs.Places.{own, sets}
use Rattle.steps.specs.Rows.{Row, NIL, PREFIX, BRANCH, term_by, term, first_of, second_of, is_source, Kids}
use Rattle.steps.specs.Marks.{Marks, Stand, waits, passed, dropped, stand, Open, both, left, right, open_branches, after_mark, after_taken, remainder}
use Rattle.steps.specs.InFront.{waits_by, waiting_step, opens}
use Rattle.steps.proofs.Tree.{term_at}
use Rattle.sheet.specs.Table.{row_at}
use Rattle.reach.specs.Masks.{has_bit}
use Rattle.reach.proofs.Bits.{bit_or_law, bit_none}
use Rattle.moves.specs.Steps.{remainder_in}
use Rattle.moves.specs.Fits.{keeps_by, keeps}
use Rattle.effects.specs.Gather.{Gathers, own_sets, kept_first, kept_second, sets_at, AllKids}

there : (q n : ℕ) (b : Bool) → 0 < q → cond (b && not (eqb q 0)) q n ≡ cond b q n
there q n true h = rw (ne_eqb q 0 (λ e. omega arith)) refl
there q n false h = refl

module _ (ts : List ℕ) (n : ℕ) (kids : AllKids ts n) (μ : Marks) (l : ℕ) where
  abbrev R : ℕ → Process
  R j = remainder_in ts n μ j

  abbrev S : ℕ → Bool
  S j = sets_at ts n μ j l

  inside : (c : ℕ) → c < n → S c ≡ sets (R c) l
  unfolding sets_at
  inside c h = rw (lt-ltb c n h) refl

  pub sets_past : (c : ℕ) → n ≤ c → S c ≡ false
  unfolding sets_at
  sets_past c h = rw (le-ltb c n h) refl

  none : S n ≡ false
  none = sets_past n (omega arith)

  -- with the only child, with neither
  one : (b : Bool) (c : ℕ) → c < n → or b (sets (R c) l) ≡ or b (or (S c) (S n))
  one b c h = rw (none, or_none (S c)) (ap (or b) (sym (inside c h)))

  neither : (b : Bool) → b ≡ or b (or (S n) (S n))
  unfolding or
  neither b = rw none (sym (or_none b))

  after : (i c : ℕ) (π : Prefix) (st : Stand) → c < n → sets (after_mark st i π (R c)) l ≡ or (waits_by st && own π l) (or (S (cond (keeps_by st) c n)) (S n))
  unfolding sets or waits_by keeps_by
  after i c π waits h = one (own π l) c h
  after i c π passed h = one false c h
  after i c π dropped h = neither false

  taken : (i p q : ℕ) (κ : Branching) (o : Open) → p < n → q < n → sets (after_taken o i κ (R p) (R q)) l ≡ or (S (cond (opens o false) p n)) (S (cond (opens o true) q n))
  unfolding sets opens or
  taken i p q κ both a b = rw (inside p a, inside q b) refl
  taken i p q κ left a b = rw (inside p a, none) (sym (or_none (sets (R p) l)))
  taken i p q κ right a b = rw (inside q b, none) refl

  kept : (i m : ℕ) (N : Row) → Kids i n N → sets (remainder μ (term_by i N (term (row_at ts) n))) l ≡ or (own_sets N (μ i) l) (or (S (kept_first n N (μ i))) (S (kept_second n N (μ i))))
  unfolding term_by remainder own_sets kept_first kept_second keeps waiting_step is_source first_of second_of Kids sets or
  kept i m NIL k = neither false
  kept i m (PREFIX π c) k = after i c π (stand (μ i)) k.1 ∙ ap (λ (x : ℕ). or (waits_by (stand (μ i)) && own π l) (or (S (cond (keeps_by (stand (μ i))) c n)) (S x))) (sym (no_second (keeps_by (stand (μ i)))))
    where
      no_second : (b : Bool) → cond (b && not (eqb 0 0)) 0 n ≡ n
      no_second true = refl
      no_second false = refl
  kept i m (BRANCH κ p q) k = taken i p q κ (open_branches κ (μ i)) k.0.1 k.1.1 ∙ ap (λ (x : ℕ). or (S (cond (opens (open_branches κ (μ i)) false) p n)) (S x)) (sym (there q n (opens (open_branches κ (μ i)) true) (let (x, y) = k.1 in omega arith)))

  -- the equation of the recursion
  pub sets_at_law : (i : ℕ) → i < n → S i ≡ or (own_sets (row_at ts i) (μ i) l) (or (S (kept_first n (row_at ts i) (μ i))) (S (kept_second n (row_at ts i) (μ i))))
  sets_at_law i h = inside i h ∙ (ap (λ (P : Process). sets (remainder μ P) l) (term_at (row_at ts) n kids i h) ∙ kept i i (row_at ts i) (kids i h))

-- the children that are kept lie above the row
pub first_above : (i n m : ℕ) (N : Row) → i < n → Kids i n N → i < kept_first n N m
unfolding kept_first keeps first_of Kids
first_above i n m NIL h k = h
first_above i n m (PREFIX π c) h k = at (keeps_by (stand m))
  where
    at : (b : Bool) → i < cond b c n
    at true = k.0
    at false = h
first_above i n m (BRANCH κ p q) h k = at (opens (open_branches κ m) false)
  where
    at : (b : Bool) → i < cond b p n
    at true = k.0.0
    at false = h

pub second_above : (i n m : ℕ) (N : Row) → i < n → Kids i n N → i < kept_second n N m
unfolding kept_second keeps second_of Kids
second_above i n m NIL h k = h
second_above i n m (PREFIX π c) h k = at (keeps_by (stand m))
  where
    at : (b : Bool) → i < cond (b && not (eqb 0 0)) 0 n
    at true = h
    at false = h
second_above i n m (BRANCH κ p q) h k = at (opens (open_branches κ m) true && not (eqb q 0))
  where
    at : (b : Bool) → i < cond b q n
    at true = k.1.0
    at false = h

-- words
pub gathers_none : (f : ℕ → Bool) → ((l : ℕ) → f l ≡ false) → Gathers 0 f
gathers_none f e l h = bit_none l ∙ sym (e l)

pub gathers_row : (ts : List ℕ) (n : ℕ) → AllKids ts n → (μ : Marks) (i : ℕ) → i < n → (x a b p q : ℕ) →
    Gathers x (own_sets (row_at ts i) (μ i)) → p ≡ kept_first n (row_at ts i) (μ i) → Gathers a (sets_at ts n μ p) → q ≡ kept_second n (row_at ts i) (μ i) → Gathers b (sets_at ts n μ q) → Gathers (bit_or x (bit_or a b)) (sets_at ts n μ i)
gathers_row ts n kids μ i h x a b p q o e f g k l s =
    bit_or_law x (bit_or a b) l ∙ (ap (or (has_bit x l)) (bit_or_law a b l) ∙ (rw (o l s, f l s, k l s, e, g) refl ∙ sym (sets_at_law ts n kids μ l i h)))
