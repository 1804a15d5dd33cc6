-- THE SCENE AS A PROCESS: each link of the condition has one source in it; what its rows are, and how many. Assumes nothing.
use Prim.Native.Nat.{ℕ, zero, suc, ◌+◌, ◌*◌, ◌≤◌}
use mathlib.Core.Path.{◌≡◌, refl, sym, ◌∙◌, ap, subst}
use mathlib.Core.Bool.{Bool, true, false, not, ◌&&◌, true≢false}
use mathlib.Core.List.Memᴰ
use mathlib.Core.List.{List, [], ◌∷◌, Memᴰ}
use mathlib.Core.Logic.{◌⊎◌, inl, inr, ⊎_elim}
use native.Mathlib.Omega.{arith}
use lib.Dec.{eqb}
use lib.ListN.{length}
use borrow.Author.Tests.{eqb-true}
use Rattle.laws.specs.Tests.{or}
use Rattle.laws.specs.Listed.{listed}
use Rattle.laws.proofs.Tests.{cases, not_both, refuted, cond_all, cond_cases, self, and_l, and_r, or_true, or_l, or_r, or_none}
use Rattle.laws.proofs.Listed.{listed_inside}
use Rattle.calculus.specs.Process.{Process, nil, Prefix, act, out, join}
use Rattle.calculus.specs.Status.{Value, Unset, False, True, Links, with_unset}
use Rattle.calculus.specs.Places.{own, sets, Single}
use Rattle.conditions.specs.Conditions.{Condition, reached, is_set}
use Rattle.conditions.specs.Numbers.{links_of}
use Rattle.layout.specs.InOrder.{size}
use Rattle.layout.proofs.Left.{Each}
use Rattle.damage.specs.Scene.{out_by, setting, choice, any_unset, true_where_unset, chain, beside, scene}

-- THE LINKS THAT IT SETS: the OUT of a value, and those of a list
out_sets : (a : Value) (l : ℕ) (P : Process) (k : ℕ) → sets (out_by a l P) k ≡ or (is_set a && eqb k l) (sets P k)
unfolding out_by sets own or
out_sets Unset l P k = refl
out_sets False l P k = refl
out_sets True l P k = refl

out_single : (a : Value) (l : ℕ) (P : Process) → (is_set a ≡ true → sets P l ≡ false) → Single P → Single (out_by a l P)
unfolding out_by Single own
out_single Unset l P h s = s
out_single False l P h s = (λ k e. subst (λ (k : ℕ). sets P k ≡ false) (sym (eqb-true k l e)) (h refl), s)
out_single True l P h s = (λ k e. subst (λ (k : ℕ). sets P k ≡ false) (sym (eqb-true k l e)) (h refl), s)

-- no number stands twice
unfoldable pub Differ : List ℕ → Type 0
Differ [] = Unit {0}
Differ (l ∷ ls) = (Memᴰ l ls → ⊥) × Differ ls

-- ... in rising order
differ : (p : ℕ → Bool) (i c : ℕ) → Differ (listed p i c)
unfolding listed Differ
differ p i zero = tt
differ p i (suc c) =
    cond_cases Differ (p i)
    (λ e. (λ m. let (a, _) = listed_inside p (suc i) c i m in let z : ⊥ = omega arith in z, differ p (suc i) c))
    (λ e. differ p (suc i) c)

pub links_differ : (m : ℕ) (C : Condition) → Differ (links_of m C)
unfolding links_of
links_differ m C = differ (reached C) 0 m

module _ (v : Links) (P : Process) where
  setting_from : (ls : List ℕ) (k : ℕ) → sets (setting v ls P) k ≡ true → (Memᴰ k ls × (is_set (v k) ≡ true)) ⊎ (sets P k ≡ true)
  unfolding setting
  setting_from [] k e = inr e
  setting_from (l ∷ ls) k e =
      ⊎_elim
      (λ p. let z : k ≡ l = eqb-true k l (and_r (is_set (v l)) _ p) in inl (Memᴰ.head z, rw z (and_l _ _ p)))
      (λ p. ⊎_elim (λ (m, s). inl (Memᴰ.tail m, s)) inr (setting_from ls k p))
      (or_true (sym (out_sets (v l) l (setting v ls P) k) ∙ e))

  setting_has : (ls : List ℕ) (k : ℕ) → Memᴰ k ls → is_set (v k) ≡ true → sets (setting v ls P) k ≡ true
  unfolding setting
  setting_has [] k m s = absurd (Memᴰ.not-nil m)
  setting_has (l ∷ ls) k m s =
      out_sets (v l) l (setting v ls P) k ∙
      ⊎_elim (λ (z : k ≡ l). or_l _ (rw (← z, s, self k) refl)) (λ m. or_r _ (setting_has ls k m s)) (Memᴰ.cases_cons m)

  setting_keeps : (ls : List ℕ) (k : ℕ) → sets P k ≡ true → sets (setting v ls P) k ≡ true
  unfolding setting
  setting_keeps [] k e = e
  setting_keeps (l ∷ ls) k e = out_sets (v l) l (setting v ls P) k ∙ or_r _ (setting_keeps ls k e)

  setting_single : (ls : List ℕ) → Differ ls → ((k : ℕ) → is_set (v k) ≡ true → sets P k ≡ false) → Single P → Single (setting v ls P)
  unfolding setting Differ
  setting_single [] d h s = s
  setting_single (l ∷ ls) d h s =
      out_single (v l) l (setting v ls P)
      (λ e. refuted (sets (setting v ls P) l) (λ q. ⊎_elim (λ (m, _). d.0 m) (λ p. not_both p (h l e)) (setting_from ls l q)))
      (setting_single ls d.1 h s)

choice_sets : (c l k : ℕ) → sets (choice c l) k ≡ eqb k l
unfolding choice sets own or
choice_sets c l k = or_none (eqb k l)

choice_single : (c l : ℕ) → Single (choice c l)
unfolding choice Single sets own or
choice_single c l = (λ k e. absurd (true≢false (sym e)), (λ k e. absurd (true≢false (sym e)), (λ k e. absurd (true≢false (sym e)), (λ k e. absurd (true≢false (sym e)), tt))), (λ k e. refl, tt))

unset_not : (a : Value) → is_set (true_where_unset a) ≡ not (is_set a)
unset_not Unset = refl
unset_not False = refl
unset_not True = refl

any_unset_law : (v : Links) (ls : List ℕ) (k : ℕ) → Memᴰ k ls → is_set (v k) ≡ false → any_unset v ls ≡ true
unfolding any_unset
any_unset_law v [] k m e = absurd (Memᴰ.not-nil m)
any_unset_law v (l ∷ ls) k m e =
    ⊎_elim (λ (z : k ≡ l). or_l _ (rw (← z, e) refl)) (λ m. or_r _ (any_unset_law v ls k m e)) (Memᴰ.cases_cons m)

module _ (ls : List ℕ) (v : Links) (l c f : ℕ) (off : v l ≡ False) where
  abbrev rest : Process
  rest = setting (λ k. true_where_unset (v k)) ls (nil 0)

  -- the chain's OUTs before the PICK leave the named link to it
  unset_set : (k : ℕ) → is_set (with_unset v l k) ≡ true → (eqb k l ≡ false) × (is_set (v k) ≡ true)
  unset_set k = cond_cases (λ (a : Value). is_set a ≡ true → (eqb k l ≡ false) × (is_set (v k) ≡ true)) (eqb k l) (λ q e. absurd (true≢false (sym e))) (λ q e. (q, e))

  chain_single : Differ ls → Single (chain ls v l c)
  unfolding chain
  chain_single d = setting_single _ (choice c l) ls d (λ k e. choice_sets c l k ∙ (unset_set k e).0) (choice_single c l)

  -- the chain sets links that v sets, the OUTs beside it others
  chain_set : (k : ℕ) → sets (chain ls v l c) k ≡ true → is_set (v k) ≡ true
  unfolding chain
  chain_set k e =
      ⊎_elim (λ (_, s). (unset_set k s).1)
      (λ p. let z : k ≡ l = eqb-true k l (sym (choice_sets c l k) ∙ p) in rw (z, off) refl)
      (setting_from _ (choice c l) ls k e)

  rest_unset : (k : ℕ) → sets rest k ≡ true → is_set (v k) ≡ false
  unfolding sets
  rest_unset k e = ⊎_elim (λ (_, s). refuted (is_set (v k)) (λ q. not_both s (unset_not (v k) ∙ ap not q))) (λ p. absurd (true≢false (sym p))) (setting_from _ (nil 0) ls k e)

  pub scene_single : Differ ls → Single (scene ls v l c f)
  unfolding scene beside Single sets own or
  scene_single d =
      cond_all Single (any_unset v ls)
      (λ k e. refuted (sets rest k) (λ q. not_both (chain_set k e) (rest_unset k q)), chain_single d, (λ k e. absurd (true≢false (sym e)), setting_single _ (nil 0) ls d (λ k e. refl) tt))
      (chain_single d)

  -- each link of the list has a source
  pub scene_sets : (k : ℕ) → Memᴰ k ls → sets (scene ls v l c f) k ≡ true
  unfolding scene chain beside sets own or
  scene_sets k m = ⊎_elim in_chain beside_it (cases (is_set (v k)))
    where
      chained : is_set (v k) ≡ true → sets (chain ls v l c) k ≡ true
      chained s = ⊎_elim
          (λ (q : eqb k l ≡ true). setting_keeps _ (choice c l) ls k (choice_sets c l k ∙ q))
          (λ (q : eqb k l ≡ false). setting_has _ (choice c l) ls k m (rw q s))
          (cases (eqb k l))

      in_chain : is_set (v k) ≡ true → sets (scene ls v l c f) k ≡ true
      in_chain s = cond_all (λ (P : Process). sets P k ≡ true) (any_unset v ls) (or_l _ (chained s)) (chained s)

      beside_it : is_set (v k) ≡ false → sets (scene ls v l c f) k ≡ true
      beside_it s = rw (any_unset_law v ls k m s) (or_r (sets (chain ls v l c) k) (setting_has _ (nil 0) ls k m (unset_not (v k) ∙ ap not s)))

-- ITS ROWS. What holds of its OUTs, of activities 1 and 2 and of its JOINs holds of each.
module _ (T : Prefix → Type 0) where
  each_out : (a : Value) (l : ℕ) (P : Process) → ((b : Bool) → T (out l b)) → Each T P → Each T (out_by a l P)
  unfolding out_by Each
  each_out Unset l P t h = h
  each_out False l P t h = (t false, h)
  each_out True l P t h = (t true, h)

  each_setting : (v : Links) (ls : List ℕ) (P : Process) → ((k : ℕ) → Memᴰ k ls → (b : Bool) → T (out k b)) → Each T P → Each T (setting v ls P)
  unfolding setting
  each_setting v [] P t h = h
  each_setting v (l ∷ ls) P t h = each_out (v l) l (setting v ls P) (t l (Memᴰ.head refl)) (each_setting v ls P (λ k m. t k (Memᴰ.tail m)) h)

  module _ (ls : List ℕ) (v : Links) (l c f : ℕ) where
    pub scene_each : ((k : ℕ) → Memᴰ k ls → (b : Bool) → T (out k b)) → Memᴰ l ls → ((a : ℕ) → T (act a)) →
        T (join c) → (any_unset v ls ≡ true → T (join f)) → Each T (scene ls v l c f)
    unfolding scene chain beside choice Each
    scene_each t m ta tc tf =
        let chained : Each T (chain ls v l c) = each_setting _ ls (choice c l) t ((ta _, (tc, (ta _, tt))), (t l m _, tt)) in
        cond_cases (Each T) (any_unset v ls) (λ e. (chained, (tf e, each_setting _ ls (nil 0) t tt))) (λ e. chained)

-- how many there are
out_size : (a : Value) (l : ℕ) (P : Process) → size (out_by a l P) ≤ suc (size P)
unfolding out_by size
out_size Unset l P = omega arith
out_size False l P = omega arith
out_size True l P = omega arith

pub setting_size : (v : Links) (ls : List ℕ) (P : Process) → size (setting v ls P) ≤ length ls + size P
unfolding setting
setting_size v [] P = omega arith
setting_size v (l ∷ ls) P = omega (arith, out_size (v l) l (setting v ls P), setting_size v ls P)

pub scene_size : (ls : List ℕ) (v : Links) (l c f : ℕ) → size (scene ls v l c f) ≤ 2 * length ls + 10
unfolding scene chain beside choice size
scene_size ls v l c f =
    let chained : size (chain ls v l c) ≤ length ls + 7 = setting_size _ ls (choice c l) in
    cond_all (λ (P : Process). size P ≤ 2 * length ls + 10) (any_unset v ls) (omega (arith, chained, setting_size (λ k. true_where_unset (v k)) ls (nil 0))) (omega (arith, chained))
