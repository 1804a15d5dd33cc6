-- The OUTs of a list of links, put link by link. Assumes nothing.
use Prim.Native.Nat.{ℕ, ◌+◌, ◌*◌, ◌<◌, ◌≤◌}
use mathlib.Core.Path.{◌≡◌, refl, sym, ◌∙◌, ap}
use mathlib.Core.Bool.{Bool, true, false, not}
use mathlib.Core.List.{List, [], ◌∷◌, ◌++◌, append_assoc, Memᴰ}
use mathlib.Core.Logic.{⊎_elim}
use native.Mathlib.Omega.{arith}
use native.Mathlib.Nat.{sub-zero}
use native.Mathlib.Numerals.{add-one}
use lib.ListN.{length, take}
use lib.Seq.{paste}
use Rattle.laws.specs.Tests.{or, bit}
use Rattle.laws.specs.Sums.{count}
use Rattle.laws.specs.Listed.{listed}
use Rattle.laws.proofs.Tests.{cases}
use Rattle.laws.proofs.Sums.{count_zero, count_more}
use Rattle.laws.proofs.Listed.{left, left_hit, left_miss, left_end}
use Rattle.laws.proofs.Ranked.{count_up, listed_all}
use Rattle.calculus.specs.Process.{Process, prefix, out}
use Rattle.calculus.specs.Status.{Value, Unset, truth, Links}
use Rattle.conditions.specs.Conditions.{is_set}
use Rattle.layout.specs.Bytes.{four, row_bytes}
use Rattle.layout.specs.InOrder.{size, in_order}
use Rattle.laying.proofs.Laid.{put_size, put_next}
use Rattle.damage.specs.Scene.{out_by, setting, any_unset}
use Rattle.scene.specs.Lays.{LaysOuts}

-- the same values, the same OUTs
pub setting_same : (v w : Links) (ls : List ℕ) (P : Process) → ((l : ℕ) → Memᴰ l ls → v l ≡ w l) → setting v ls P ≡ setting w ls P
unfolding setting
setting_same v w [] P h = refl
setting_same v w (l ∷ ls) P h = rw (h l (Memᴰ.head refl), setting_same v w ls P (λ k i. h k (Memᴰ.tail i))) refl

out_truth : (a : Value) (b : Bool) (l : ℕ) (P : Process) → a ≡ truth b → out_by a l P ≡ prefix 0 (out l b) P
unfolding out_by
out_truth a true l P e = rw e refl
out_truth a false l P e = rw e refl

out_bytes : (n l : ℕ) (b : Bool) (P : Process) → four 2 l (bit b) (n + 1) ++ in_order (n + 1) P ≡ in_order n (prefix 0 (out l b) P)
unfolding in_order row_bytes
out_bytes n l b P = rw (add-one n) refl

module _ (v : Links) (p : ℕ → Bool) (m : ℕ) where
  -- a link that is no link of the mask, or unset, changes nothing
  left_skip : (l : ℕ) (P : Process) → l < m → (p l ≡ true → v l ≡ Unset) → setting v (left p m l) P ≡ setting v (left p m (l + 1)) P
  unfolding setting out_by
  left_skip l P h e =
      ⊎_elim
      (λ (t : p l ≡ true). rw (left_hit p m l h t, e t) refl)
      (λ (t : p l ≡ false). rw (left_miss p m l h t) refl)
      (cases (p l))

  left_put : (l : ℕ) (P : Process) (b : Bool) → l < m → p l ≡ true → v l ≡ truth b → setting v (left p m l) P ≡ prefix 0 (out l b) (setting v (left p m (l + 1)) P)
  unfolding setting
  left_put l P b h t e = rw (left_hit p m l h t) (out_truth (v l) b l _ e)

  -- IS ONE OF THEM UNSET?
  pub unset_here : (l : ℕ) → l < m → p l ≡ true → v l ≡ Unset → any_unset v (left p m l) ≡ true
  unfolding any_unset or
  unset_here l h t e = rw (left_hit p m l h t, e) refl

  pub unset_next : (l : ℕ) (b : Bool) → l < m → (p l ≡ true → v l ≡ truth b) → any_unset v (left p m l) ≡ any_unset v (left p m (l + 1))
  unfolding any_unset or
  unset_next l b h e =
      ⊎_elim
      (λ (t : p l ≡ true). rw (left_hit p m l h t) (set_one_law (v l) b (e t) _))
      (λ (t : p l ≡ false). rw (left_miss p m l h t) refl)
      (cases (p l))
    where
      set_one_law : (a : Value) (b : Bool) → a ≡ truth b → (c : Bool) → or (not (is_set a)) c ≡ c
      set_one_law a true q c = rw q refl
      set_one_law a false q c = rw q refl

  pub unset_none : (l : ℕ) → m ≤ l → any_unset v (left p m l) ≡ false
  unfolding any_unset
  unset_none l h = rw (left_end p m l h) refl

  -- THE OUTS
  module _ (i : ℕ) (before : List ℕ) where
    -- those of the links below l are put; with those of the links to come they are all, whatever comes next
    pub record Outs (l n : ℕ) (out : List ℕ) : Type 0 where
      pub upto : l ≤ m
      pub long : length out ≡ length before
      pub few : n ≤ i + count p l
      pub next : (P : Process) → n + size (setting v (left p m l) P) ≡ i + size (setting v (listed p 0 m) P)
      pub rows : (P : Process) → take (n * 4) out ++ in_order n (setting v (left p m l) P) ≡ take (i * 4) before ++ in_order i (setting v (listed p 0 m) P)

    pub outs_none : Outs 0 i before
    outs_none = record { upto = omega arith; long = refl; few = omega (arith, count_zero p); next = λ P. rw sub-zero refl; rows = λ P. rw sub-zero refl }

    module _ (l n : ℕ) (out : List ℕ) (w : Outs l n out) where
      pub outs_skip : l < m → (p l ≡ true → v l ≡ Unset) → Outs (l + 1) n out
      outs_skip h e = record {
        upto = omega arith;
        long = w.long;
        few = omega (arith, w.few, count_more p l);
        next = λ P. rw (← left_skip l P h e) (w.next P);
        rows = λ P. rw (← left_skip l P h e) (w.rows P);
      }

      pub outs_room : l < m → p l ≡ true → n < i + length (listed p 0 m)
      outs_room h t = omega (arith, w.few, count_more p l, ap bit t, count_up p (l + 1) m (omega arith), listed_all p m)

      pub outs_put : (b : Bool) → l < m → p l ≡ true → v l ≡ truth b → n * 4 + 4 ≤ length out → Outs (l + 1) (n + 1) (paste out (n * 4) (four 2 l (bit b) (n + 1)) 4)
      unfolding size
      outs_put b h t e room = record {
        upto = omega arith;
        long = put_size out n (four 2 l (bit b) (n + 1)) room refl ∙ w.long;
        few = omega (arith, w.few, count_more p l, ap bit t);
        next = λ P. omega (arith, ap size (left_put l P b h t e), w.next P);
        rows = λ P.
            ap (λ (ys : List ℕ). ys ++ in_order (n + 1) (setting v (left p m (l + 1)) P)) (put_next out n (four 2 l (bit b) (n + 1)) room refl) ∙
            (append_assoc (take (n * 4) out) (four 2 l (bit b) (n + 1)) (in_order (n + 1) (setting v (left p m (l + 1)) P)) ∙
            (ap (λ (ys : List ℕ). take (n * 4) out ++ ys) (out_bytes n l b (setting v (left p m (l + 1)) P) ∙ ap (in_order n) (sym (left_put l P b h t e))) ∙ w.rows P));
      }

      pub outs_all : m ≤ l → LaysOuts v (listed p 0 m) i before n out
      unfolding setting
      outs_all h = record {
        long = w.long;
        next = λ P. rw (left_end p m l h) at (w.next P);
        rows = λ P. rw (left_end p m l h) at (w.rows P);
      }
