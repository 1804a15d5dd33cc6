-- ROWS PUT ONE AFTER ANOTHER ARE A PROCESS IN ORDER, by the process. Assumes nothing.
use Prim.Native.Nat.{ℕ, suc, ◌+◌, ◌-◌, ◌*◌, ◌<◌, ◌≤◌}
use mathlib.Core.Path.{◌≡◌, refl, sym, ◌∙◌, ap, ap₂}
use mathlib.Core.Bool.{true, false}
use mathlib.Core.List.{List, ◌++◌, append_assoc, Memᴰ}
use native.Mathlib.Omega.{arith}
use lib.ListN.{length, take, drop, set}
use lib.Seq.{paste, length-take-le, take_all, take-add, take-append-add, drop_at}
use Rattle.calculus.specs.Process.{Process, nil, prefix, branch, Prefix, Branching, act, out, join, pick, flow}
use Rattle.calculus.specs.Status.{Links, with_unset}
use Rattle.steps.specs.Rows.{Row, NIL, PREFIX, BRANCH}
use Rattle.layout.specs.Bytes.{four, row_bytes}
use Rattle.layout.specs.InOrder.{size, in_order}
use Rattle.layout.proofs.Bytes.{four_each}
use Rattle.laying.specs.LaidIn.{LaidIn}
use Rattle.laying.proofs.Laid.{put_size, put_next}
use Rattle.evaluate.specs.Values.{links_in}
use Rattle.damage.specs.Scene.{setting, choice, any_unset, true_where_unset, chain, beside, scene}
use Rattle.damage.proofs.Scene.{setting_size}
use Rattle.scene.specs.Lays.{Lays, LaysOuts, TrueWhereUnset}
use Rattle.scene.proofs.Bytes.{links_without}
use Rattle.scene.proofs.Setting.{setting_same}

-- a row put behind i
module _ (i j : ℕ) (e : j ≡ i + 1) (N : Row) (o o₁ : List ℕ) (p : o₁ ≡ paste o (i * 4) (row_bytes N) 4) (room : i * 4 + 4 ≤ length o) where
  row_long : length o₁ ≡ length o
  row_long = ap length p ∙ put_size o i (row_bytes N) room (four_each N)

  row_put : take (j * 4) o₁ ≡ take (i * 4) o ++ row_bytes N
  row_put = ap₂ (λ (j : ℕ) (o : List ℕ). take (j * 4) o) e p ∙ put_next o i (row_bytes N) room (four_each N)

-- the rows are laid, where there is room for them
abbrev Fits : Process → ℕ → List ℕ → ℕ → List ℕ → Type 0
Fits P i before r after = (i + size P) * 4 ≤ length before → Lays P i before r after

module _ (i j : ℕ) (e : j ≡ i + 1) (o o₁ : List ℕ) where
  lays_nil : o₁ ≡ paste o (i * 4) (row_bytes NIL) 4 → Fits (nil 0) i o j o₁
  unfolding size in_order
  lays_nil p room = record { long = row_long i j e NIL o o₁ p (omega arith); next = e; rows = row_put i j e NIL o o₁ p (omega arith) }

  lays_prefix : (π : Prefix) (P : Process) (r : ℕ) (o₂ : List ℕ) → o₁ ≡ paste o (i * 4) (row_bytes (PREFIX π j)) 4 → Fits P j o₁ r o₂ → Fits (prefix 0 π P) i o r o₂
  unfolding size in_order
  lays_prefix π P r o₂ p f room =
      let long : length o₁ ≡ length o = row_long i j e (PREFIX π j) o o₁ p (omega arith) in
      let w = f (omega arith) in
      let s : suc i ≡ j = omega arith in
      record {
        long = w.long ∙ long;
        next = omega (arith, w.next);
        rows = w.rows ∙ (ap (λ (xs : List ℕ). xs ++ in_order j P) (row_put i j e (PREFIX π j) o o₁ p (omega arith)) ∙ (append_assoc (take (i * 4) o) (row_bytes (PREFIX π j)) (in_order j P) ∙ rw s refl));
      }

  lays_branch : (κ : Branching) (P Q : Process) (s r : ℕ) (o₂ o₃ : List ℕ) → o₁ ≡ paste o (i * 4) (row_bytes (BRANCH κ j s)) 4 → Fits P j o₁ s o₂ → Fits Q s o₂ r o₃ → Fits (branch 0 κ P Q) i o r o₃
  unfolding size in_order
  lays_branch κ P Q s r o₂ o₃ p f g room =
      let long : length o₁ ≡ length o = row_long i j e (BRANCH κ j s) o o₁ p (omega arith) in
      let w = f (omega arith) in
      let v = g (omega (arith, w.long, w.next)) in
      let first : suc i ≡ j = omega arith in
      let second : j + size P ≡ s = omega (arith, w.next) in
      record {
        long = v.long ∙ (w.long ∙ long);
        next = omega (arith, w.next, v.next);
        rows =
            v.rows ∙
            (ap (λ (xs : List ℕ). xs ++ in_order s Q)
            (w.rows ∙ (ap (λ (xs : List ℕ). xs ++ in_order j P) (row_put i j e (BRANCH κ j s) o o₁ p (omega arith)) ∙ append_assoc (take (i * 4) o) (row_bytes (BRANCH κ j s)) (in_order j P))) ∙
            (append_assoc (take (i * 4) o) (row_bytes (BRANCH κ j s) ++ in_order j P) (in_order s Q) ∙
            (ap (λ (xs : List ℕ). take (i * 4) o ++ xs) (append_assoc (row_bytes (BRANCH κ j s)) (in_order j P) (in_order s Q)) ∙ rw (first, second) refl)));
      }

-- THE PICK
pub choice_laid : (n c l : ℕ) (o₀ o₁ o₂ o₃ o₄ o₅ o₆ o₇ : List ℕ) → (n + 7) * 4 ≤ length o₀ →
    o₁ ≡ paste o₀ (n * 4) (four 4 (n + 1) (n + 5) 0) 4 →
    o₂ ≡ paste o₁ ((n + 1) * 4) (four 1 1 (n + 2) 0) 4 →
    o₃ ≡ paste o₂ ((n + 2) * 4) (four 3 c (n + 3) 0) 4 →
    o₄ ≡ paste o₃ ((n + 3) * 4) (four 1 2 (n + 4) 0) 4 →
    o₅ ≡ paste o₄ ((n + 4) * 4) (four 0 0 0 0) 4 →
    o₆ ≡ paste o₅ ((n + 5) * 4) (four 2 l 1 (n + 6)) 4 →
    o₇ ≡ paste o₆ ((n + 6) * 4) (four 0 0 0 0) 4 →
    Lays (choice c l) n o₀ (n + 7) o₇
unfolding choice size row_bytes
choice_laid n c l o₀ o₁ o₂ o₃ o₄ o₅ o₆ o₇ room e₁ e₂ e₃ e₄ e₅ e₆ e₇ =
    lays_branch n (n + 1) refl o₀ o₁ pick _ _ (n + 5) (n + 7) o₅ o₇ e₁
    (lays_prefix (n + 1) (n + 2) (omega arith) o₁ o₂ (act 1) _ (n + 5) o₅ e₂
    (lays_prefix (n + 2) (n + 3) (omega arith) o₂ o₃ (join c) _ (n + 5) o₅ e₃
    (lays_prefix (n + 3) (n + 4) (omega arith) o₃ o₄ (act 2) _ (n + 5) o₅ e₄
    (lays_nil (n + 4) (n + 5) (omega arith) o₄ o₅ e₅))))
    (lays_prefix (n + 5) (n + 6) (omega arith) o₅ o₆ (out l true) _ (n + 7) o₇ e₆
    (lays_nil (n + 6) (n + 7) (omega arith) o₆ o₇ e₇))
    room

-- BEHIND THE OUTS
module _ (v : Links) (ls : List ℕ) (i n : ℕ) (o o₁ : List ℕ) (w : LaysOuts v ls i o n o₁) where
  pub outs_upto : n ≤ i + length ls
  unfolding size
  outs_upto = omega (arith, w.next (nil 0), setting_size v ls (nil 0))

  lays_outs : (P : Process) (r : ℕ) (o₂ : List ℕ) → Lays P n o₁ r o₂ → Lays (setting v ls P) i o r o₂
  lays_outs P r o₂ g = record { long = g.long ∙ w.long; next = g.next ∙ w.next P; rows = g.rows ∙ w.rows P }

module _ (values : List ℕ) (ls : List ℕ) where
  -- the links are set, then comes the PICK
  pub chain_laid : (l c i n r : ℕ) (o o₁ o₂ : List ℕ) → l < 64 → LaysOuts (links_in (set values l 0)) ls i o n o₁ → Lays (choice c l) n o₁ r o₂ → Lays (chain ls (links_in values) l c) i o r o₂
  unfolding chain
  chain_laid l c i n r o o₁ o₂ h w g = rw (← links_without values l h) (lays_outs (links_in (set values l 0)) ls i n o o₁ w (choice c l) r o₂ g)

  -- the JOIN on FALSE, then the OUTs
  pub beside_laid : (f i n : ℕ) (rest o o₁ o₂ o₃ : List ℕ) → TrueWhereUnset values rest → ((k : ℕ) → Memᴰ k ls → k < 64) → (i + (length ls + 2)) * 4 ≤ length o →
      o₁ ≡ paste o (i * 4) (four 3 f (i + 1) 0) 4 → LaysOuts (links_in rest) ls (i + 1) o₁ n o₂ → o₃ ≡ paste o₂ (n * 4) (four 0 0 0 0) 4 →
      Lays (beside ls (links_in values) f) i o (n + 1) o₃
  unfolding beside size row_bytes
  beside_laid f i n rest o o₁ o₂ o₃ true_there small room e₁ w e₃ =
      rw (← setting_same (links_in rest) (λ k. true_where_unset (links_in values k)) ls (nil 0) (λ k m. true_there k (small k m)))
      (lays_prefix i (i + 1) refl o o₁ (join f) (setting (links_in rest) ls (nil 0)) (n + 1) o₃ e₁
      (λ h. lays_outs (links_in rest) ls (i + 1) n o₁ o₂ w (nil 0) (n + 1) o₃ (lays_nil n (n + 1) refl o₂ o₃ e₃ (omega (arith, w.next (nil 0), w.long))))
      (omega (arith, setting_size (links_in rest) ls (nil 0))))

-- A FLOW that is put in front when what stands on its left is laid
front_put : (k : ℕ) (before o row xs : List ℕ) → 4 ≤ length before → length o ≡ length before → length row ≡ 4 → 1 ≤ k → take (k * 4) o ≡ take 4 before ++ xs → take (k * 4) (paste o 0 row 4) ≡ row ++ xs
front_put k before o row xs room long four some e =
    let n : ℕ = k * 4 - 4 in
    let here : k * 4 ≡ length row + n = omega arith in
    let there : 4 + n ≡ k * 4 = omega arith in
    ap₂ (λ (j : ℕ) (r : List ℕ). take j (r ++ drop 4 o)) here (take_all 4 row (omega arith)) ∙
    (take-append-add row (drop 4 o) n ∙
    ap (λ (ys : List ℕ). row ++ ys)
    (sym (drop_at (take 4 o) (take n (drop 4 o)) 4 (length-take-le 4 o (omega arith))) ∙
    (ap (drop 4) (sym (take-add 4 n o) ∙ (ap (λ (j : ℕ). take j o) there ∙ e)) ∙ drop_at (take 4 before) xs 4 (length-take-le 4 before room))))

flow_laid : (P Q : Process) (s r : ℕ) (o o₁ o₂ o₃ : List ℕ) → 4 ≤ length o → Lays P 1 o s o₁ → o₂ ≡ paste o₁ 0 (four 5 1 s 0) 4 → Lays Q s o₂ r o₃ → LaidIn (size (branch 0 flow P Q)) (in_order 0 (branch 0 flow P Q)) r o₃
unfolding size in_order row_bytes
flow_laid P Q s r o o₁ o₂ o₃ room w e g = record {
  counted = omega (arith, w.next, g.next);
  begins =
      g.rows ∙
      (ap (λ (xs : List ℕ). xs ++ in_order s Q) (ap (take (s * 4)) e ∙ front_put s o o₁ (four 5 1 s 0) (in_order 1 P) room w.long refl (omega (arith, w.next)) w.rows) ∙
      (append_assoc (four 5 1 s 0) (in_order 1 P) (in_order s Q) ∙ rw w.next refl));
}

-- THE SCENE
module _ (ls : List ℕ) (v : Links) (l c f : ℕ) where
  pub chain_upto : (i r : ℕ) (o o₁ : List ℕ) → Lays (chain ls v l c) i o r o₁ → r ≤ i + (length ls + 7)
  unfolding chain choice size
  chain_upto i r o o₁ w = omega (arith, w.next, setting_size (with_unset v l) ls (choice c l))

  pub scene_chain : (r : ℕ) (o o₁ : List ℕ) → any_unset v ls ≡ false → Lays (chain ls v l c) 0 o r o₁ → LaidIn (size (scene ls v l c f)) (in_order 0 (scene ls v l c f)) r o₁
  unfolding scene
  scene_chain r o o₁ e w = rw e (record { counted = omega (arith, w.next); begins = w.rows })

  pub scene_both : (s r : ℕ) (o o₁ o₂ o₃ : List ℕ) → any_unset v ls ≡ true → 4 ≤ length o → Lays (chain ls v l c) 1 o s o₁ → o₂ ≡ paste o₁ 0 (four 5 1 s 0) 4 →
      Lays (beside ls v f) s o₂ r o₃ → LaidIn (size (scene ls v l c f)) (in_order 0 (scene ls v l c f)) r o₃
  unfolding scene
  scene_both s r o o₁ o₂ o₃ e room w p g = rw e (flow_laid (chain ls v l c) (beside ls v f) s r o o₁ o₂ o₃ room w p g)
