-- Two steps on the two sides of a flow: after either the other is there as it was, in a valid state ready still, and with single sources both orders do the same to the links. For every mode, and any evaluation that meets R's condition (1). Assumes nothing.
use Prim.Native.Nat.{ℕ}
use mathlib.Core.Path.{◌≡◌, refl, sym, ap, ◌∙◌, subst, fun_ext}
use mathlib.Core.Bool.{Bool, true, false, cond, ◌&&◌, not}
use mathlib.Core.Logic.{◌⊎◌, inl, inr, ⊎_elim}
use Rattle.laws.specs.Tests.{Apart}
use Rattle.laws.proofs.Tests.{cases, and_false, apart_sym, apart_less}
use Rattle.calculus.specs.Process.{Process, nil, prefix, branch, Prefix, Branching, pick, flow}
use Rattle.calculus.specs.Status.{Value, Unset, Links}
use Rattle.calculus.specs.Places.{sets, Single, Place, row, here, Turn, decides, after, over, put_on, false_if, effect, Valid, Monotone, Ready}
use Rattle.calculus.proofs.Effects.{over_assoc, sets_after, effect_out, grows_after}
use Rattle.calculus.proofs.Order.{ready_grows}

abbrev IsFlow : Branching → Type 0
IsFlow pick = ⊥
IsFlow flow = Unit {0}

-- the two places lie on the two sides of a flow
abbrev pub Beside : (P : Process) → Place P → Place P → Type 0
Beside (nil r) x y = ⊥
Beside (prefix r π P) x y = ⊥
Beside (branch r κ P Q) (inl x) (inl y) = Beside P x y
Beside (branch r κ P Q) (inr x) (inr y) = Beside Q x y
Beside (branch r κ P Q) (inl x) (inr y) = IsFlow κ
Beside (branch r κ P Q) (inr x) (inl y) = IsFlow κ

-- `A` is what is left of the branch with the step, on the left or the right side (`s`) of a branching with Q; where the step decided a pick (`c`) it stands alone. A place of A is a place of either.
abbrev pub sided : Bool → ℕ → Branching → Process → Process → Process
sided false r κ A Q = branch r κ A Q
sided true r κ A Q = branch r κ Q A

unfoldable pub kept : (c s : Bool) (r : ℕ) (κ : Branching) (A Q : Process) → Place A → Place (cond c A (sided s r κ A Q))
kept true s r κ A Q z = z
kept false false r κ A Q z = inl z
kept false true r κ A Q z = inr z

-- where the place y is after the step at x
unfoldable pub still : (t : Turn) (P : Process) (x y : Place P) → Beside P x y → Place (after t P x)
unfolding after decides
still t (nil r) x y b = absurd x
still t (prefix r π P) x y b = absurd b
still t (branch r κ P Q) (inl x) (inl y) b = kept (decides t κ) false r κ (after t P x) Q (still t P x y b)
still t (branch r κ P Q) (inr x) (inr y) b = kept (decides t κ) true r κ (after t Q x) P (still t Q x y b)
still t (branch r pick P Q) (inl x) (inr y) b = absurd b
still t (branch r pick P Q) (inr x) (inl y) b = absurd b
still t (branch r flow P Q) (inl x) (inr y) b = inr y
still t (branch r flow P Q) (inr x) (inl y) b = inl y

-- two places have the same row, and the same stands there
abbrev Same : (A : Process) → Place A → (P : Process) → Place P → Type 0
Same A z P y = (row A z ≡ row P y) × (here A z ≡ here P y)

kept_same : (c s : Bool) (r : ℕ) (κ : Branching) (A Q : Process) (z : Place A) (P : Process) (y : Place P) → Same A z P y → Same (cond c A (sided s r κ A Q)) (kept c s r κ A Q z) P y
unfolding row here kept
kept_same true s r κ A Q z P y h = h
kept_same false false r κ A Q z P y h = h
kept_same false true r κ A Q z P y h = h

pub still_same : (t : Turn) (P : Process) (x y : Place P) (b : Beside P x y) → Same (after t P x) (still t P x y b) P y
unfolding after still row here decides
still_same t (nil r) x y b = absurd x
still_same t (prefix r π P) x y b = absurd b
still_same t (branch r κ P Q) (inl x) (inl y) b = kept_same (decides t κ) false r κ (after t P x) Q (still t P x y b) P y (still_same t P x y b)
still_same t (branch r κ P Q) (inr x) (inr y) b = kept_same (decides t κ) true r κ (after t Q x) P (still t Q x y b) Q y (still_same t Q x y b)
still_same t (branch r pick P Q) (inl x) (inr y) b = absurd b
still_same t (branch r pick P Q) (inr x) (inl y) b = absurd b
still_same t (branch r flow P Q) (inl x) (inr y) b = (refl, refl)
still_same t (branch r flow P Q) (inr x) (inl y) b = (refl, refl)

-- it is ready still: a condition that is set stays, and a step only sets links that are unset
pub still_ready : (eval : ℕ → Links → Value) → ((c : ℕ) → Monotone (eval c)) → (t u : Turn) (d : Bool) (P : Process) (v : Links) → Valid P v → (x y : Place P) (b : Beside P x y) → Ready eval u (here P y) v
    → Ready eval u (here (after t P x) (still t P x y b)) (put_on (effect t d P x) v)
still_ready eval mono t u d P v h x y b o = subst (λ (π : Prefix). Ready eval u π (put_on (effect t d P x) v)) (sym (still_same t P x y b).1) (ready_grows eval mono (grows_after t d P x v h) u (here P y) o)

abbrev pub do_if : {A : Type 0} → Bool → (A → A) → A → A
do_if c f v = cond c (f v) v

-- BOTH ORDERS of two steps on one side of a branching: c and e say which of them decides it. `lose` is what the decision adds: to the links, that those of the other side become false; to the marks, that of the pick.
-- It comes with the first step that decides, and may come before or after the second step, f in the one order and g in the other.
pub orders : {A : Type 0} (c e : Bool) (lose f g : A → A) {v w : A} → ((x : A) → f (lose x) ≡ lose (f x)) → ((x : A) → g (lose x) ≡ lose (g x)) → f v ≡ g w → do_if (not c && e) lose (f (do_if c lose v)) ≡ do_if (not e && c) lose (g (do_if e lose w))
orders true true lose f g {v} {w} p q h = p v ∙ (ap lose h ∙ sym (q w))
orders true false lose f g {v} p q h = p v ∙ ap lose h
orders false true lose f g {w = w} p q h = ap lose h ∙ sym (q w)
orders false false lose f g p q h = h

-- THE LINKS after the step at x and then the one at y
abbrev pub links_twice : (t u : Turn) (d : Bool) (P : Process) (x y : Place P) → Beside P x y → Links → Links
links_twice t u d P x y b v = put_on (effect u d (after t P x) (still t P x y b)) (put_on (effect t d P x) v)

-- what is put on each link by one alone may be put on in either order
swap : (f g : Links) → ((k : ℕ) → (f k ≡ Unset) ⊎ (g k ≡ Unset)) → (v : Links) → put_on g (put_on f v) ≡ put_on f (put_on g v)
swap f g h v = fun_ext (λ k. ⊎_elim (λ p. rw p refl) (λ p. rw p refl) (h k))

apart_links : (t u : Turn) (d : Bool) (P Q : Process) (x : Place P) (y : Place Q) → Apart (sets P) (sets Q) → (v : Links) → put_on (effect u d Q y) (put_on (effect t d P x) v) ≡ put_on (effect t d P x) (put_on (effect u d Q y) v)
apart_links t u d P Q x y h = swap (effect t d P x) (effect u d Q y) (λ k. ⊎_elim (λ e. inr (effect_out u d Q y k (h k e))) (λ e. inl (effect_out t d P x k e)) (cases (sets P k)))

-- a decision makes the links of the other side false, where `d` says so
abbrev lost : Bool → Process → Links
lost d Q k = false_if (d && sets Q k)

lost_apart : (t : Turn) (d : Bool) (A Q : Process) (z : Place A) → Apart (sets Q) (sets A) → (v : Links) → put_on (effect t d A z) (put_on (lost d Q) v) ≡ put_on (lost d Q) (put_on (effect t d A z) v)
lost_apart t d A Q z h = swap (lost d Q) (effect t d A z) (λ k. ⊎_elim (λ e. inr (effect_out t d A z k (h k e))) (λ e. inl (ap (λ (q : Bool). false_if (d && q)) e ∙ ap false_if (and_false d))) (cases (sets Q k)))

side_links : (c d : Bool) (Q : Process) (f v : Links) → put_on (λ k. over (false_if (c && d && sets Q k)) (f k)) v ≡ do_if c (put_on (lost d Q)) (put_on f v)
side_links true d Q f v = fun_ext (λ k. over_assoc (lost d Q k) (f k) (v k))
side_links false d Q f v = refl

-- the second step on that side, where the first has decided the branching or not (`c`)
kept_links : (c s d : Bool) (r : ℕ) (κ : Branching) (u : Turn) (A Q : Process) (z : Place A) (v : Links) → put_on (effect u d (cond c A (sided s r κ A Q)) (kept c s r κ A Q z)) v ≡ do_if (not c && decides u κ) (put_on (lost d Q)) (put_on (effect u d A z) v)
unfolding effect kept
kept_links true s d r κ u A Q z v = refl
kept_links false false d r κ u A Q z v = side_links (decides u κ) d Q (effect u d A z) v
kept_links false true d r κ u A Q z v = side_links (decides u κ) d Q (effect u d A z) v

module _ (t u : Turn) (d : Bool) (v : Links) where
  one_side : (r : ℕ) (κ : Branching) (s : Bool) (P Q : Process) (x y : Place P) (b : Beside P x y) (b' : Beside P y x) → Apart (sets Q) (sets P) → links_twice t u d P x y b v ≡ links_twice u t d P y x b' v
      → put_on (effect u d (cond (decides t κ) (after t P x) (sided s r κ (after t P x) Q)) (kept (decides t κ) s r κ (after t P x) Q (still t P x y b))) (put_on (λ k. over (false_if (decides t κ && d && sets Q k)) (effect t d P x k)) v)
      ≡ put_on (effect t d (cond (decides u κ) (after u P y) (sided s r κ (after u P y) Q)) (kept (decides u κ) s r κ (after u P y) Q (still u P y x b'))) (put_on (λ k. over (false_if (decides u κ && d && sets Q k)) (effect u d P y k)) v)
  one_side r κ s P Q x y b b' h ih =
      rw (side_links (decides t κ) d Q (effect t d P x) v, side_links (decides u κ) d Q (effect u d P y) v)
      (kept_links (decides t κ) s d r κ u (after t P x) Q (still t P x y b) _ ∙
      (orders (decides t κ) (decides u κ) (put_on (lost d Q)) (put_on (effect u d (after t P x) (still t P x y b))) (put_on (effect t d (after u P y) (still u P y x b')))
      (lost_apart u d (after t P x) Q (still t P x y b) (apart_less (λ k e. e) (sets_after t P x) h))
      (lost_apart t d (after u P y) Q (still u P y x b') (apart_less (λ k e. e) (sets_after u P y) h)) ih ∙
      sym (kept_links (decides u κ) s d r κ t (after u P y) Q (still u P y x b') _)))

  pub same_links : (P : Process) (x y : Place P) (b : Beside P x y) (b' : Beside P y x) → Single P → links_twice t u d P x y b v ≡ links_twice u t d P y x b' v
  unfolding after still effect Single decides
  same_links (nil r) x y b b' s = absurd x
  same_links (prefix r π P) x y b b' s = absurd b
  same_links (branch r κ P Q) (inl x) (inl y) b b' s = one_side r κ false P Q x y b b' (apart_sym s.0) (same_links P x y b b' s.1)
  same_links (branch r κ P Q) (inr x) (inr y) b b' s = one_side r κ true Q P x y b b' s.0 (same_links Q x y b b' s.2)
  same_links (branch r pick P Q) (inl x) (inr y) b b' s = absurd b
  same_links (branch r pick P Q) (inr x) (inl y) b b' s = absurd b
  same_links (branch r flow P Q) (inl x) (inr y) b b' s = apart_links t u d P Q x y s.0 v
  same_links (branch r flow P Q) (inr x) (inl y) b b' s = apart_links t u d Q P x y (apart_sym s.0) v
