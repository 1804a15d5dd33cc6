-- A process and a label with other row numbers. THE MOVES OF A RENAMED PROCESS ARE THOSE OF THE PROCESS, RENAMED, and so are the runs of processes that a renaming makes one. Assumes nothing: the new numbers need not even differ.
use Prim.Native.Nat.{ℕ}
use mathlib.Core.Path.{◌≡◌, refl, sym, ◌∙◌, ap, ap₂, subst, subst₂, fun_ext}
use mathlib.Core.Bool.{Bool, ◌&&◌}
use mathlib.Core.List.{◌∷◌, map}
use mathlib.Core.Logic.{inl, inr}
use Rattle.laws.specs.Tests.{or}
use Rattle.laws.proofs.Tests.{cond_map}
use Rattle.calculus.specs.Process.{Process, nil, prefix, branch, Prefix}
use Rattle.calculus.specs.Status.{Value, Links}
use Rattle.calculus.specs.Plain.{Label, step, clean}
use Rattle.calculus.specs.Places.{own, sets, Single, Place, row, here, Turn, takes, drops, decides, behind, after, over, false_if, effect_here, effect, Mode, falsifies, named, Ready, Move, move, label, left, links}
use Rattle.calculus.specs.Runs.{Run, done, more, trail}
use Rattle.calculus.specs.Rows.{row_of}
use Rattle.calculus.proofs.Rules.{Is}

module _ (ρ : ℕ → ℕ) where
  unfoldable pub renamed : Process → Process
  renamed (nil r) = nil (ρ r)
  renamed (prefix r π P) = prefix (ρ r) π (renamed P)
  renamed (branch r κ P Q) = branch (ρ r) κ (renamed P) (renamed Q)

  unfoldable pub relabelled : Label → Label
  relabelled (step r π) = step (ρ r) π
  relabelled (clean r) = clean (ρ r)

  pub relabelled_row : (α : Label) → row_of (relabelled α) ≡ ρ (row_of α)
  unfolding relabelled row_of
  relabelled_row (step r π) = refl
  relabelled_row (clean r) = refl

  pub renamed_sets : (P : Process) (k : ℕ) → sets (renamed P) k ≡ sets P k
  unfolding renamed sets
  renamed_sets (nil r) k = refl
  renamed_sets (prefix r π P) k = ap (or (own π k)) (renamed_sets P k)
  renamed_sets (branch r κ P Q) k = ap₂ or (renamed_sets P k) (renamed_sets Q k)

  -- one source still
  pub renamed_single : (P : Process) → Single P → Single (renamed P)
  unfolding renamed Single
  renamed_single (nil r) s = tt
  renamed_single (prefix r π P) s = (λ k e. renamed_sets P k ∙ s.0 k e, renamed_single P s.1)
  renamed_single (branch r κ P Q) s = (λ k e. renamed_sets Q k ∙ s.0 k (sym (renamed_sets P k) ∙ e), renamed_single P s.1, renamed_single Q s.2)

  -- the places are the same ...
  unfoldable there : (P : Process) → Place P → Place (renamed P)
  unfolding renamed
  there (nil r) x = x
  there (prefix r π P) x = x
  there (branch r κ P Q) (inl x) = inl (there P x)
  there (branch r κ P Q) (inr x) = inr (there Q x)

  -- ... and there are no others
  back : (P : Process) (y : Place (renamed P)) → (x : Place P) × (there P x ≡ y)
  unfolding renamed there
  back (nil r) y = absurd y
  back (prefix r π P) y = (y, refl)
  back (branch r κ P Q) (inl y) = let (x, p) = back P y in (inl x, ap inl p)
  back (branch r κ P Q) (inr y) = let (x, p) = back Q y in (inr x, ap inr p)

  there_row : (P : Process) (x : Place P) → row (renamed P) (there P x) ≡ ρ (row P x)
  unfolding renamed there row
  there_row (nil r) x = absurd x
  there_row (prefix r π P) x = refl
  there_row (branch r κ P Q) (inl x) = there_row P x
  there_row (branch r κ P Q) (inr x) = there_row Q x

  there_here : (P : Process) (x : Place P) → here (renamed P) (there P x) ≡ here P x
  unfolding renamed there here
  there_here (nil r) x = absurd x
  there_here (prefix r π P) x = refl
  there_here (branch r κ P Q) (inl x) = there_here P x
  there_here (branch r κ P Q) (inr x) = there_here Q x

  named_there : (t : Turn) (r : ℕ) (π : Prefix) → named t (ρ r) π ≡ relabelled (named t r π)
  unfolding relabelled
  named_there takes r π = refl
  named_there drops r π = refl

  there_named : (t : Turn) (P : Process) (x : Place P) → named t (row (renamed P) (there P x)) (here (renamed P) (there P x)) ≡ relabelled (named t (row P x) (here P x))
  there_named t P x = ap₂ (named t) (there_row P x) (there_here P x) ∙ named_there t (row P x) (here P x)

  there_behind : (t : Turn) (r : ℕ) (P : Process) → behind t (ρ r) (renamed P) ≡ renamed (behind t r P)
  unfolding renamed
  there_behind takes r P = refl
  there_behind drops r P = refl

  there_after : (t : Turn) (P : Process) (x : Place P) → after t (renamed P) (there P x) ≡ renamed (after t P x)
  unfolding renamed there after
  there_after t (nil r) x = absurd x
  there_after t (prefix r π P) x = there_behind t r P
  there_after t (branch r κ P Q) (inl x) = rw (there_after t P x) (sym (cond_map renamed (decides t κ) (after t P x) (branch r κ (after t P x) Q)))
  there_after t (branch r κ P Q) (inr x) = rw (there_after t Q x) (sym (cond_map renamed (decides t κ) (after t Q x) (branch r κ P (after t Q x))))

  here_there : (t : Turn) (π : Prefix) (P : Process) (k : ℕ) → effect_here t π (renamed P) k ≡ effect_here t π P k
  here_there takes π P k = refl
  here_there drops π P k = ap false_if (renamed_sets P k)

  there_effect : (t : Turn) (d : Bool) (P : Process) (x : Place P) (k : ℕ) → effect t d (renamed P) (there P x) k ≡ effect t d P x k
  unfolding renamed there effect
  there_effect t d (nil r) x k = absurd x
  there_effect t d (prefix r π P) x k = here_there t π P k
  there_effect t d (branch r κ P Q) (inl x) k = ap₂ (λ (b : Bool) (u : Value). over (false_if (decides t κ && d && b)) u) (renamed_sets Q k) (there_effect t d P x k)
  there_effect t d (branch r κ P Q) (inr x) k = ap₂ (λ (b : Bool) (u : Value). over (false_if (decides t κ && d && b)) u) (renamed_sets P k) (there_effect t d Q x k)

  module _ (eval : ℕ → Links → Value) where
    -- A move of the one is a move of the other.
    abbrev Twin : {m : Mode} {P : Process} {v : Links} → Move eval m P v → Move eval m (renamed P) v → Type 0
    Twin s s' = (label eval s' ≡ relabelled (label eval s)) × (left eval s' ≡ renamed (left eval s)) × (links eval s' ≡ links eval s)

    pub twin : {m : Mode} {P : Process} {v : Links} (s : Move eval m P v) → (s' : Move eval m (renamed P) v) × Twin s s'
    twin {m} {P} {v} (move t x a o) = (
      move t (there P x) a (subst (λ (π : Prefix). Ready eval t π v) (sym (there_here P x)) o),
      (there_named t P x, there_after t P x, fun_ext (λ k. ap (λ (u : Value). over u (v k)) (there_effect t (falsifies m) P x k))),
    )

    pub twin_back : {m : Mode} {P : Process} {v : Links} (s' : Move eval m (renamed P) v) → (s : Move eval m P v) × Twin s s'
    unfolding twin
    twin_back {m} {P} {v} (move t y a o) =
        let (x, p) = back P y in
        subst (λ (y : Place (renamed P)). (o : Ready eval t (here (renamed P) y) v) → (s : Move eval m P v) × Twin s (move t y a o)) p
        (λ o. let s : Move eval m P v = move t x a (subst (λ (π : Prefix). Ready eval t π v) (there_here P x) o) in (s, (twin s).1)) o

    -- Two processes that are one with their rows renamed: a run of the one is a run of the other, but for the rows.
    pub same_run : {m : Mode} {P : Process} {v : Links} (R : Run eval m P v) (Q : Process) (w : Links) → renamed P ≡ renamed Q → v ≡ w → (S : Run eval m Q w) × (map relabelled (trail eval S) ≡ map relabelled (trail eval R))
    unfolding trail
    same_run done Q w p q = (done, refl)
    same_run {m} (more s R) Q w p q =
        let (s', (a, b, c)) = twin s in
        let (t', a', b', c') = subst₂ (λ (P : Process) (v : Links). Is eval m P v (label eval s') (left eval s') (links eval s')) p q (s', refl, refl, refl) in
        let (t, (i, j, k)) = twin_back t' in
        let (S, e) = same_run R (left eval t) (links eval t) (sym b ∙ (sym b' ∙ j)) (sym c ∙ (sym c' ∙ k)) in
        let f : relabelled (label eval t) ≡ relabelled (label eval s) = sym i ∙ (a' ∙ a) in
        (more t S, λ x. f x ∷ e x)
