-- What the changes of a state do, mark by mark and link by link. Assumes nothing.
use mathlib.Core.Path.{◌≡◌, refl, sym, ap, ◌∙◌, subst}
use mathlib.Core.List.{List}
use mathlib.Core.Bool.{Bool, true, false, cond}
use mathlib.Core.Logic.{◌⊎◌, inl, inr, ⊎_elim, by_cases}
use Prim.Native.Nat.{ℕ, zero, suc, ◌+◌, ◌<◌, ◌≤◌}
use native.Mathlib.Omega.{arith}
use native.Mathlib.Decide.{ℕ_discrete, dec_lt}
use lib.Dec.{eqb, ltb}
use lib.ListN.{get_or, set, length, length-set}
use lib.Seq.{get_or-set_same, get_or-set_other, set_out}
use borrow.Author.Tests.{eq-eqb, ne_eqb, lt-ltb}
use Rattle.laws.proofs.Tests.{cond_all}
use Rattle.calculus.specs.Status.{Value, Unset, False, truth}
use Rattle.calculus.proofs.Order.{true≢unset, false≢unset}
use Rattle.calculus.specs.Places.{over, false_if, value_if}
use Rattle.conditions.specs.Numbers.{digit, undigit}
use Rattle.conditions.proofs.Numbers.{undigit_digit}
use Rattle.steps.specs.Marks.{mark}
use Rattle.evaluate.specs.Values.{links_in}
use Rattle.state.specs.declared.State.{State}
use Rattle.state.specs.State.{set_of}
use Rattle.moves.specs.Steps.{links_of, Sized, falsify_from}

-- one place of a list is set
pub set_mark : (xs : List ℕ) (r a k : ℕ) → r < length xs → get_or (set xs r a) k 0 ≡ mark r a (λ k. get_or xs k 0) k
set_mark xs r a k h =
    by_cases (ℕ_discrete k r)
    (λ e. rw (eq-eqb k r e, e) (get_or-set_same xs r a 0 h))
    (λ e. rw (ne_eqb k r e) (get_or-set_other xs r k a 0 e))

-- ... whatever the place
pub set_cases : (xs : List ℕ) (r a k : ℕ) → ((k ≡ r) × (get_or (set xs r a) k 0 ≡ a)) ⊎ (get_or (set xs r a) k 0 ≡ get_or xs k 0)
set_cases xs r a k =
    by_cases (ℕ_discrete k r)
    (λ e. by_cases (dec_lt r (length xs))
    (λ h. inl (e, ap (λ (k : ℕ). get_or (set xs r a) k 0) e ∙ get_or-set_same xs r a 0 h))
    (λ h. inr (ap (λ (ys : List ℕ). get_or ys k 0) (set_out xs r a (omega arith)))))
    (λ e. inr (get_or-set_other xs r k a 0 e))

-- a state of the right size stays so
pub sized_mark : (s : State) (r a : ℕ) → Sized s → Sized (record { mode = s.mode; marks = set s.marks r a; links = s.links; acts = s.acts; unset = s.unset })
sized_mark s r a z = record { all_marks = length-set s.marks r a ∙ z.all_marks; all_links = z.all_links }

pub sized_link : (s : State) (l v : ℕ) → Sized s → Sized (set_of s l v)
sized_link s l v z = record { all_marks = z.all_marks; all_links = length-set s.links l v ∙ z.all_links }

-- a link below 64, as the calculus reads it; the byte 0 is unset, and no other is
pub links_in_law : (xs : List ℕ) (l : ℕ) → l < 64 → links_in xs l ≡ undigit (get_or xs l 0)
unfolding links_in
links_in_law xs l h = rw (lt-ltb l 64 h) refl

undigit_zero : (x : ℕ) → undigit x ≡ Unset → x ≡ 0
unfolding undigit
undigit_zero zero e = refl
undigit_zero (suc zero) e = absurd (false≢unset refl e)
undigit_zero (suc (suc x)) e = absurd (true≢unset refl e)

pub unset_zero : (xs : List ℕ) (l : ℕ) → l < 64 → links_in xs l ≡ Unset → get_or xs l 0 ≡ 0
unset_zero xs l h e = undigit_zero (get_or xs l 0) (sym (links_in_law xs l h) ∙ e)

pub zero_unset : (xs : List ℕ) (l : ℕ) → get_or xs l 0 ≡ 0 → links_in xs l ≡ Unset
unfolding links_in undigit
zero_unset xs l e = rw e (cond_all (λ (u : Value). u ≡ Unset) (ltb l 64) refl refl)

-- one link is set
link_other : (xs : List ℕ) (l a k : ℕ) → (k ≡ l → ⊥) → links_in (set xs l a) k ≡ links_in xs k
unfolding links_in
link_other xs l a k e = rw (get_or-set_other xs l k a 0 e) refl

link_same : (xs : List ℕ) (l : ℕ) (u : Value) → length xs ≡ 64 → l < 64 → links_in (set xs l (digit u)) l ≡ u
link_same xs l u h g = links_in_law (set xs l (digit u)) l g ∙ (ap undigit (get_or-set_same xs l (digit u) 0 (omega arith)) ∙ undigit_digit u)

pub link_set : (xs : List ℕ) (l : ℕ) (b : Bool) (k : ℕ) → length xs ≡ 64 → l < 64 → links_in (set xs l (digit (truth b))) k ≡ over (value_if (eqb k l) (truth b)) (links_in xs k)
link_set xs l b k h g =
    by_cases (ℕ_discrete k l)
    (λ e. rw (eq-eqb k l e, e) (link_same xs l (truth b) h g ∙ said b (links_in xs l)))
    (λ e. rw (ne_eqb k l e) (link_other xs l (digit (truth b)) k e))
  where
    said : (b : Bool) (u : Value) → truth b ≡ over (truth b) u
    said true u = refl
    said false u = refl

-- the links at which f holds become false
abbrev once : (ℕ → Bool) → ℕ → State → State
once f i z = cond (f i) (set_of z i 1) z

once_sized : (f : ℕ → Bool) (i : ℕ) (z : State) → Sized z → Sized (once f i z)
once_sized f i z h = cond_all Sized (f i) (sized_link z i 1 h) h

once_other : (f : ℕ → Bool) (i : ℕ) (z : State) (l : ℕ) → (l ≡ i → ⊥) → links_of (once f i z) l ≡ links_of z l
once_other f i z l h = cond_all (λ (w : State). links_of w l ≡ links_of z l) (f i) (link_other z.links i 1 l h) refl

once_same : (f : ℕ → Bool) (i : ℕ) (z : State) → Sized z → i < 64 → links_of (once f i z) i ≡ over (false_if (f i)) (links_of z i)
unfolding digit
once_same f i z h g = at (f i)
  where
    at : (b : Bool) → links_of (cond b (set_of z i 1) z) i ≡ over (false_if b) (links_of z i)
    at true = link_same z.links i False h.all_links g
    at false = refl

pub falsify_sized : (f : ℕ → Bool) (i c : ℕ) (z : State) → Sized z → Sized (falsify_from f i c z)
unfolding falsify_from
falsify_sized f i zero z h = h
falsify_sized f i (suc c) z h = falsify_sized f (suc i) c (once f i z) (once_sized f i z h)

pub falsify_marks : (f : ℕ → Bool) (i c : ℕ) (z : State) → (falsify_from f i c z).marks ≡ z.marks
unfolding falsify_from
falsify_marks f i zero z = refl
falsify_marks f i (suc c) z = falsify_marks f (suc i) c (once f i z) ∙ cond_all (λ (w : State). w.marks ≡ z.marks) (f i) refl refl

pub falsify_mode : (f : ℕ → Bool) (i c : ℕ) (z : State) → (falsify_from f i c z).mode ≡ z.mode
unfolding falsify_from
falsify_mode f i zero z = refl
falsify_mode f i (suc c) z = falsify_mode f (suc i) c (once f i z) ∙ cond_all (λ (w : State). w.mode ≡ z.mode) (f i) refl refl

falsify_out : (f : ℕ → Bool) (i c : ℕ) (z : State) (l : ℕ) → (l < i) ⊎ (i + c ≤ l) → links_of (falsify_from f i c z) l ≡ links_of z l
unfolding falsify_from
falsify_out f i zero z l h = refl
falsify_out f i (suc c) z l h =
    falsify_out f (suc i) c (once f i z) l (⊎_elim (λ a. inl (omega arith)) (λ a. inr (omega arith)) h)
    ∙ once_other f i z l (λ e. ⊎_elim (λ a. omega arith) (λ a. omega arith) h)

falsify_in : (f : ℕ → Bool) (i c : ℕ) (z : State) (l : ℕ) → i ≤ l → l < i + c → i + c ≤ 64 → Sized z → links_of (falsify_from f i c z) l ≡ over (false_if (f l)) (links_of z l)
unfolding falsify_from
falsify_in f i zero z l a b h y = absurd (let w : ⊥ = omega arith in w)
falsify_in f i (suc c) z l a b h y =
    by_cases (ℕ_discrete l i)
    (λ e. falsify_out f (suc i) c (once f i z) l (inl (omega arith)) ∙ subst (λ (l : ℕ). links_of (once f i z) l ≡ over (false_if (f l)) (links_of z l)) (sym e) (once_same f i z y (omega arith)))
    (λ e. falsify_in f (suc i) c (once f i z) l (omega arith) (omega arith) (omega arith) (once_sized f i z y) ∙ ap (over (false_if (f l))) (once_other f i z l e))

-- all 64 links at once, where f holds of none beyond
pub falsify_links : (f : ℕ → Bool) (z : State) → Sized z → ((l : ℕ) → 64 ≤ l → f l ≡ false) → (l : ℕ) → links_of (falsify_from f 0 64 z) l ≡ over (false_if (f l)) (links_of z l)
falsify_links f z y h l =
    by_cases (dec_lt l 64)
    (λ a. falsify_in f 0 64 z l (omega arith) (omega arith) (omega arith) y)
    (λ a. falsify_out f 0 64 z l (inr (omega arith)) ∙ sym (rw (h l (omega arith)) refl))
