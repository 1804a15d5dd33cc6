-- What two states share, as a caller sees it: the listed steps, and the bytes of the links. Assumes nothing.
use Rattle.std.specs.Prelude.{Ok, Err}
use Prim.Native.Nat.{ℕ, zero, suc}
use mathlib.Core.Path.{◌≡◌, refl, sym, ◌∙◌, ap, ap₂, subst, fun_ext}
use mathlib.Core.Bool.{Bool, true, false, cond}
use mathlib.Core.List.{List, ◌∷◌, map}
use mathlib.Core.Logic.{◌⊎◌, inl, inr, ⊎_elim, ◌↔◌}
use native.Mathlib.Omega.{arith}
use Rattle.laws.specs.Listed.{listed}
use Rattle.laws.proofs.Tests.{not_both}
use Rattle.calculus.specs.Order.{◌⊑◌}
use Rattle.calculus.specs.Places.{Grows}
use Rattle.calculus.proofs.Order.{below_cases}
use Rattle.conditions.specs.Numbers.{digit}
use Rattle.sheet.specs.Table.{Table}
use Rattle.state.specs.declared.State.{State}
use Rattle.state.specs.declared.StepKind.TheVariants.{Act, Set, Open, Clean}
use Rattle.moves.specs.Steps.{links_of, kind_at, has_step, listed_of, Kind}
use Rattle.moves.specs.Runs.{Taken, unless_clean, struck, Alike}
use Rattle.moves.proofs.Fits.{link_digit}
use Rattle.moves.proofs.Kept.{links_never_alter}
use Rattle.promises.specs.Calls.{Accepted, link, listed_steps, Run, last}
use Rattle.promises.proofs.Calls.{formed, one_source_law, unrefused, kind_is, rows_are, to_steps, run_keeps}

-- a step is a cleaning step or stays
clean_or : (k : Kind) → (k ≡ Ok Clean) ⊎ ((k ≡ Ok Clean → ⊥) × ((x : Taken) (l : List Taken) → unless_clean x k l ≡ x ∷ l))
clean_or (Ok (Act a)) = inr ((λ e. let z : ◌≡◌ {A = ℕ} 0 1 = cc in omega arith), λ x l. refl)
clean_or (Ok (Set a v)) = inr ((λ e. let z : ◌≡◌ {A = ℕ} 0 1 = cc in omega arith), λ x l. refl)
clean_or (Ok Open) = inr ((λ e. let z : ◌≡◌ {A = ℕ} 0 1 = cc in omega arith), λ x l. refl)
clean_or (Ok Clean) = inl refl
clean_or (Err x) = inr ((λ e. let z : ◌≡◌ {A = ℕ} 0 1 = cc in omega arith), λ x l. refl)

-- rows with their kinds
abbrev pub with_kinds : (ℕ → Kind) → List ℕ → List Taken
with_kinds k = map (λ r. record { row = r; kind = k r })

-- two lists of steps that agree, cleaning steps apart
module _ (f g : ℕ → Bool) (k l : ℕ → Kind) (same_steps : (r : ℕ) → ((f r ≡ true) ↔ ((g r ≡ true) × (l r ≡ Ok Clean → ⊥)))) (same_kinds : (r : ℕ) → f r ≡ true → k r ≡ l r) where
  steps_struck : (i c : ℕ) → with_kinds k (listed f i c) ≡ struck (with_kinds l (listed g i c))
  unfolding listed struck
  steps_struck i zero = refl
  steps_struck i (suc c) = at (f i) refl (g i) refl (steps_struck (suc i) c)
    where
      at : (a : Bool) → f i ≡ a → (b : Bool) → g i ≡ b → with_kinds k (listed f (suc i) c) ≡ struck (with_kinds l (listed g (suc i) c)) → with_kinds k (cond a (i ∷ listed f (suc i) c) (listed f (suc i) c)) ≡ struck (with_kinds l (cond b (i ∷ listed g (suc i) c) (listed g (suc i) c)))
      at true e true d ih =
          ⊎_elim
          (λ z. absurd (((same_steps i).0 e).1 z))
          (λ (never, stays). ap₂ (λ (κ : Kind) (xs : List Taken). record { row = i; kind = κ } ∷ xs) (same_kinds i e) ih ∙ sym (stays (record { row = i; kind = l i }) _))
          (clean_or (l i))
      at true e false d ih = absurd (not_both ((same_steps i).0 e).0 d)
      at false e true d ih =
          ⊎_elim
          (λ z. ih ∙ rw z refl)
          (λ (never, stays). absurd (not_both ((same_steps i).1 (d, never)) e))
          (clean_or (l i))
      at false e false d ih = ih

-- the listed steps are those of `moves`
pub steps_are : (t : Table) (s : State) → Accepted t s → listed_steps t s ≡ with_kinds (kind_at t s) (listed_of t s)
steps_are t s a = let e = unrefused t s a in ap₂ with_kinds (fun_ext (kind_is t s e)) (rows_are t s e)

-- THE LISTED STEPS of states that `moves` calls alike
pub same_listed : (t : Table) (s z : State) → Accepted t s → Accepted t z → Alike t s z → listed_steps t s ≡ struck (listed_steps t z)
unfolding listed_of
same_listed t s z a b h =
    steps_are t s a ∙ (steps_struck (has_step t s) (has_step t z) (kind_at t s) (kind_at t z) h.same_steps h.same_kinds 0 t.n ∙ ap struck (sym (steps_are t z b)))

-- a byte of a state's links is the number of its value
pub link_is : (t : Table) (s : State) → Accepted t s → (l : ℕ) → link s l ≡ digit (links_of s l)
link_is t s a = link_digit t s a.sized a.fits

-- THE LINKS of states whose values are in order, or grow
module _ (t : Table) (s z : State) (a : Accepted t s) (b : Accepted t z) where
  pub links_below : links_of s ⊑ links_of z → (l : ℕ) → (link s l ≡ link z l) ⊎ ((link s l ≡ 0) × (link z l ≡ 1))
  unfolding digit
  links_below h l =
      let p = link_is t s a l in
      let q = link_is t z b l in
      ⊎_elim
      (λ e. inl (p ∙ (ap digit e ∙ sym q)))
      (λ (e, d). inr (p ∙ ap digit e, q ∙ ap digit d))
      (below_cases (h l))

  pub links_grow : Grows (links_of s) (links_of z) → (l : ℕ) → (link s l ≡ 0) ⊎ (link z l ≡ link s l)
  unfolding digit
  links_grow h l =
      let p = link_is t s a l in
      let q = link_is t z b l in
      ⊎_elim
      (λ e. inl (p ∙ ap digit e))
      (λ e. inr (q ∙ (ap digit e ∙ sym p)))
      (h l)

-- a link once set stays, along any run
pub link_stays : {t : Table} {s : State} → Accepted t s → (G : Run t s) (l : ℕ) → (link s l ≡ 0) ⊎ (link (last G) l ≡ link s l)
link_stays {t} {s} a G l =
    let (R, _, q) = to_steps a G in
    links_grow t s (last G) a (run_keeps a G) (subst (λ (z : State). Grows (links_of s) (links_of z)) q (links_never_alter t (formed a) (one_source_law a) a.sized a.fits R)) l
