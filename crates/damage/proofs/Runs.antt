-- THE RUNS OF THE SCENE: activities 1, 2 can run with cleaning, and a plain run shows none, or 1. Assumes nothing.
use Prim.Native.Nat.{ℕ}
use mathlib.Core.Path.{◌≡◌, refl, sym, ◌∙◌, ap, ap₂, fun_ext}
use mathlib.Core.Bool.{Bool, true, false, cond, true≢false}
use mathlib.Core.List.Memᴰ
use mathlib.Core.List.{List, [], ◌∷◌, map, Memᴰ}
use mathlib.Core.Logic.{◌⊎◌, inl, inr, ⊎_elim}
use lib.Dec.{eqb}
use borrow.Author.Tests.{eqb-true, eq-eqb}
use Rattle.laws.specs.Tests.{or}
use Rattle.laws.proofs.Tests.{cases, not_both, cond_all, cond_cases}
use Rattle.calculus.specs.Process.{Process, prefix, branch, act, out, join, flow}
use Rattle.calculus.specs.Status.{Value, Unset, False, True, Links, all_unset, with_unset}
use Rattle.calculus.specs.Plain.{Label, step, clean}
use Rattle.calculus.specs.Places.{own, sets, row, here, takes, drops, decides, after, over, put_on, false_if, value_if, given, effect, Mode, plain, cleaning, falsifies, cleans, Ready, move}
use Rattle.calculus.specs.Runs.{Run, done, more, trail}
use Rattle.calculus.proofs.Order.{true≢false as true≢false-value}
use Rattle.calculus.proofs.Runs.{moved}
use Rattle.layout.proofs.Renamed.{relabelled}
use Rattle.moves.specs.Steps.{kind_in, kind_of}
use Rattle.moves.proofs.Runs.{shown}
use Rattle.damage.specs.Activities.{activities_of}
use Rattle.damage.specs.Scene.{out_by, setting, choice, any_unset, chain, beside, scene}

-- the activities that labels show, whatever their rows
abbrev pub activities : List Label → List ℕ
activities l = activities_of (map shown l)

relabelled_activities : (ρ : ℕ → ℕ) (l : List Label) → activities (map (relabelled ρ) l) ≡ activities l
unfolding activities_of relabelled kind_in kind_of
relabelled_activities ρ [] = refl
relabelled_activities ρ (step r (act a) ∷ l) = ap (λ (k : List ℕ). a ∷ k) (relabelled_activities ρ l)
relabelled_activities ρ (step r (out k b) ∷ l) = relabelled_activities ρ l
relabelled_activities ρ (step r (join c) ∷ l) = relabelled_activities ρ l
relabelled_activities ρ (clean r ∷ l) = relabelled_activities ρ l

pub same_activities : (ρ : ℕ → ℕ) (k l : List Label) → map (relabelled ρ) k ≡ map (relabelled ρ) l → activities k ≡ activities l
same_activities ρ k l e = sym (relabelled_activities ρ k) ∙ (ap activities e ∙ relabelled_activities ρ l)

-- THE LINKS AFTER THE OUTS
abbrev set_one : Value → ℕ → Links → Links
set_one Unset l u = u
set_one False l u = put_on (given (out l false)) u
set_one True l u = put_on (given (out l true)) u

set_one_law : (a : Value) (l : ℕ) (u : Links) (k : ℕ) → set_one a l u k ≡ cond (eqb k l) (over a (u k)) (u k)
unfolding given
set_one_law Unset l u k = sym (cond_all (λ (x : Value). x ≡ u k) (eqb k l) refl refl)
set_one_law False l u k = at (eqb k l)
  where
    at : (b : Bool) → over (value_if b False) (u k) ≡ cond b False (u k)
    at true = refl
    at false = refl
set_one_law True l u k = at (eqb k l)
  where
    at : (b : Bool) → over (value_if b True) (u k) ≡ cond b True (u k)
    at true = refl
    at false = refl

over_is : (a b : Value) → (b ≡ a) ⊎ (b ≡ Unset) → over a b ≡ a
over_is Unset b h = ⊎_elim (λ e. e) (λ e. e) h
over_is False b h = refl
over_is True b h = refl

module _ (v : Links) where
  unfoldable after_outs : List ℕ → Links → Links
  after_outs [] u = u
  after_outs (l ∷ ls) u = after_outs ls (set_one (v l) l u)

  -- a link has its value, or is unset still and has its OUT ahead
  abbrev Ahead : List ℕ → Links → ℕ → Type 0
  Ahead ls u k = (u k ≡ v k) ⊎ ((u k ≡ Unset) × Memᴰ k ls)

  ahead_one : (l : ℕ) (ls : List ℕ) (u : Links) (k : ℕ) → Ahead (l ∷ ls) u k → Ahead ls (set_one (v l) l u) k
  ahead_one l ls u k h =
      ⊎_elim
      (λ (q : eqb k l ≡ true). let z : k ≡ l = eqb-true k l q in inl (set_one_law (v l) l u k ∙ rw (q, ← z) (over_is (v k) (u k) (⊎_elim inl (λ (e, _). inr e) h))))
      (λ (q : eqb k l ≡ false).
      let z : set_one (v l) l u k ≡ u k = set_one_law (v l) l u k ∙ rw q refl in
      ⊎_elim (λ e. inl (z ∙ e)) (λ (e, m). inr (z ∙ e, ⊎_elim (λ p. absurd (not_both (eq-eqb k l p) q)) (λ m. m) (Memᴰ.cases_cons m))) h)
      (cases (eqb k l))

  after_is : (ls : List ℕ) (u : Links) (k : ℕ) → Ahead ls u k → after_outs ls u k ≡ v k
  unfolding after_outs
  after_is [] u k h = ⊎_elim (λ e. e) (λ (_, m). absurd (Memᴰ.not-nil m)) h
  after_is (l ∷ ls) u k h = after_is ls (set_one (v l) l u) k (ahead_one l ls u k h)

  all_set_law : (ls : List ℕ) → ((k : ℕ) → (v k ≡ Unset) ⊎ Memᴰ k ls) → after_outs ls all_unset ≡ v
  all_set_law ls f = fun_ext (λ k. after_is ls all_unset k (⊎_elim (λ e. inl (sym e)) (λ m. inr (refl, m)) (f k)))

module _ (eval : ℕ → Links → Value) where
  -- the activities that a run shows
  abbrev pub Does : {m : Mode} {P : Process} {v : Links} → Run eval m P v → List ℕ → Type 0
  Does R l = activities (trail eval R) ≡ l

  -- BESIDE A JOIN THAT NEVER OPENS a plain run is one of the left branch alone; and in every mode a run of the left branch is one of both
  alone : (f : ℕ) → ((v : Links) → eval f v ≡ False) → {P Q : Process} {v : Links} (R : Run eval plain (branch 0 flow P (prefix 0 (join f) Q)) v) →
      (S : Run eval plain P v) × (trail eval S ≡ trail eval R)
  unfolding trail row here after effect decides Ready cleans
  alone f never done = (done, refl)
  alone f never (more (move t (inl x) a o) R) = let (S, e) = alone f never R in (more (move t x a o) S, ap₂ ◌∷◌ refl e)
  alone f never {v = v} (more (move takes (inr x) a o) R) = absurd (true≢false-value o (never v))
  alone f never (more (move drops (inr x) a o) R) = absurd (true≢false (sym a))

  in_flow : {m : Mode} (P Q : Process) {v : Links} (S : Run eval m P v) → (R : Run eval m (branch 0 flow P Q) v) × (trail eval R ≡ trail eval S)
  unfolding trail row here after effect decides
  in_flow P Q done = (done, refl)
  in_flow P Q (more (move t x a o) S) = let (R, e) = in_flow (after t P x) Q S in (more (move t (inl x) a o) R, ap₂ ◌∷◌ refl e)

  -- OUTS run one after another ...
  module _ {m : Mode} where
    out_run : (a : Value) (l : ℕ) (P : Process) (u : Links) (R : Run eval m P (set_one a l u)) → (S : Run eval m (out_by a l P) u) × Does S (activities (trail eval R))
    unfolding out_by trail activities_of kind_in kind_of row here after effect Ready
    out_run Unset l P u R = (R, refl)
    out_run False l P u R = (more (move takes tt tt tt) R, refl)
    out_run True l P u R = (more (move takes tt tt tt) R, refl)

    outs_run : (v : Links) (ls : List ℕ) (P : Process) (u : Links) (R : Run eval m P (after_outs v ls u)) → (S : Run eval m (setting v ls P) u) × Does S (activities (trail eval R))
    unfolding setting after_outs
    outs_run v [] P u R = (R, refl)
    outs_run v (l ∷ ls) P u R =
        let (S, e) = outs_run v ls P (set_one (v l) l u) R in
        let (S', e') = out_run (v l) l (setting v ls P) u S in
        (S', e' ∙ e)

    -- ... and a run of them ends among them, or goes on
    abbrev On : {P : Process} {v : Links} → Run eval m P v → Process → Links → Type 0
    On G P v = Does G [] ⊎ ((R : Run eval m P v) × Does G (activities (trail eval R)))

    out_back : (a : Value) (l : ℕ) (P : Process) (u : Links) (G : Run eval m (out_by a l P) u) → On G P (set_one a l u)
    unfolding out_by trail activities_of kind_in kind_of row here after effect Ready
    out_back Unset l P u G = inr (G, refl)
    out_back False l P u done = inl refl
    out_back False l P u (more (move takes x a o) R) = inr (R, refl)
    out_back False l P u (more (move drops x a o) R) = absurd o
    out_back True l P u done = inl refl
    out_back True l P u (more (move takes x a o) R) = inr (R, refl)
    out_back True l P u (more (move drops x a o) R) = absurd o

    outs_back : (v : Links) (ls : List ℕ) (P : Process) (u : Links) (G : Run eval m (setting v ls P) u) → On G P (after_outs v ls u)
    unfolding setting after_outs
    outs_back v [] P u G = inr (G, refl)
    outs_back v (l ∷ ls) P u G =
        ⊎_elim inl (λ (R, e). ⊎_elim (λ q. inl (e ∙ q)) (λ (S, q). inr (S, e ∙ q)) (outs_back v ls P (set_one (v l) l u) R)) (out_back (v l) l (setting v ls P) u G)

  -- THE CHOICE
  abbrev pub AtMostOne : {m : Mode} {P : Process} {v : Links} → Run eval m P v → Type 0
  AtMostOne G = Does G [] ⊎ Does G (1 ∷ [])

  choice_plain : (c l : ℕ) (v : Links) → (eval c v ≡ True → ⊥) → (G : Run eval plain (choice c l) v) → AtMostOne G
  unfolding choice trail activities_of kind_in kind_of row here after effect given decides Ready cleans falsifies
  choice_plain c l v never done = inl refl
  choice_plain c l v never (more (move takes (inl x) a o) done) = inr refl
  choice_plain c l v never (more (move takes (inl x) a o) (more (move takes y b p) R)) = absurd (never p)
  choice_plain c l v never (more (move takes (inl x) a o) (more (move drops y b p) R)) = absurd (true≢false (sym b))
  choice_plain c l v never (more (move takes (inr x) a o) done) = inl refl
  choice_plain c l v never (more (move takes (inr x) a o) (more (move t y b p) R)) = absurd y
  choice_plain c l v never (more (move drops x a o) R) = absurd (true≢false (sym a))

  -- with cleaning activity 1 decides it, and sets the named link false
  abbrev cleared : ℕ → Links → Links
  cleared l v k = cond (eqb k l) False (v k)

  choice_cleaning : (c l : ℕ) (v : Links) → eval c (cleared l v) ≡ True → (R : Run eval cleaning (choice c l) v) × Does R (1 ∷ 2 ∷ [])
  unfolding choice trail activities_of kind_in kind_of row here after effect given decides Ready cleans falsifies sets own or
  choice_cleaning c l v e = (more (move takes (inl tt) tt tt) (more (move takes tt tt (ap (eval c) (fun_ext (λ k. at (eqb k l) (v k))) ∙ e)) (more (move takes tt tt tt) done)), refl)
    where
      at : (b : Bool) (u : Value) → over (over (false_if (or b false)) Unset) u ≡ cond b False u
      at true u = refl
      at false u = refl

  -- Under v, which sets links of the list alone, condition c is true, and is not with its false link l unset; f, where it is used, is false under any links.
  module _ (ls : List ℕ) (v : Links) (l c f : ℕ) (covers : (k : ℕ) → (v k ≡ Unset) ⊎ Memᴰ k ls) (off : v l ≡ False)
      (holds : eval c v ≡ True) (lost : eval c (with_unset v l) ≡ True → ⊥) (never : any_unset v ls ≡ true → (u : Links) → eval f u ≡ False) where
    outs_set : after_outs (with_unset v l) ls all_unset ≡ with_unset v l
    outs_set = all_set_law (with_unset v l) ls (λ k. cond_cases (λ (a : Value). (a ≡ Unset) ⊎ Memᴰ k ls) (eqb k l) (λ q. inl refl) (λ q. covers k))

    cleared_set : cleared l (with_unset v l) ≡ v
    cleared_set = fun_ext (λ k. cond_cases (λ (a : Value). a ≡ v k) (eqb k l) (λ q. sym (ap v (eqb-true k l q) ∙ off)) (λ q. rw q refl))

    chain_cleaning : (R : Run eval cleaning (chain ls v l c) all_unset) × Does R (1 ∷ 2 ∷ [])
    unfolding chain
    chain_cleaning =
        let (R, e) = choice_cleaning c l (with_unset v l) (ap (eval c) cleared_set ∙ holds) in
        let (R', p, _, _) = moved eval R refl (sym outs_set) in
        let (S, q) = outs_run (with_unset v l) ls (choice c l) all_unset R' in
        (S, q ∙ (ap activities p ∙ e))

    chain_plain : (G : Run eval plain (chain ls v l c) all_unset) → AtMostOne G
    unfolding chain
    chain_plain G =
        ⊎_elim inl
        (λ (R, e).
        let (R', p, _, _) = moved eval R refl outs_set in
        let p' : Does R (activities (trail eval R')) = ap activities (sym p) in
        ⊎_elim (λ q. inl (e ∙ (p' ∙ q))) (λ q. inr (e ∙ (p' ∙ q))) (choice_plain c l (with_unset v l) lost R'))
        (outs_back (with_unset v l) ls (choice c l) all_unset G)

    -- "activities 1, 2 in that order can run with cleaning"
    pub scene_cleaning : (R : Run eval cleaning (scene ls v l c f) all_unset) × Does R (1 ∷ 2 ∷ [])
    unfolding scene
    scene_cleaning =
        cond_all (λ (P : Process). (R : Run eval cleaning P all_unset) × Does R (1 ∷ 2 ∷ [])) (any_unset v ls)
        (let (R, e) = chain_cleaning in let (S, p) = in_flow (chain ls v l c) (beside ls v f) R in (S, ap activities p ∙ e))
        chain_cleaning

    -- "no plain run has them": activity 2 is in none
    pub scene_plain : (G : Run eval plain (scene ls v l c f) all_unset) → AtMostOne G
    unfolding scene beside
    scene_plain =
        cond_cases (λ (P : Process). (G : Run eval plain P all_unset) → AtMostOne G) (any_unset v ls)
        (λ u G. let (S, p) = alone f (never u) G in let e = ap activities p in ⊎_elim (λ q. inl (sym e ∙ q)) (λ q. inr (sym e ∙ q)) (chain_plain S))
        (λ u. chain_plain)
