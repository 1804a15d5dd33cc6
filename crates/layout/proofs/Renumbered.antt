-- A process renamed by numbers that rise where its own do: its rows are distinct, they rise, and each is the old row with its children renamed. Assumes nothing.
use Prim.Native.Nat.{ℕ, ◌<◌}
use mathlib.Core.Path.{◌≡◌, refl, sym, ◌∙◌, ap, ap₂, subst}
use mathlib.Core.Bool.{true, false}
use mathlib.Core.Logic.{⊎_elim, by_cases}
use native.Mathlib.Omega.{arith}
use native.Mathlib.Decide.{dec_lt}
use borrow.Author.Tests.{eqb-true, eq-eqb}
use Rattle.laws.specs.Tests.{Apart}
use Rattle.laws.proofs.Tests.{not_both, refuted, or_true, or_l, or_r, self, apart_sym}
use Rattle.calculus.specs.Process.{Process, nil, prefix, branch, Prefix, Branching}
use Rattle.calculus.specs.Rows.{rows, Distinct}
use Rattle.steps.specs.Rows.{PREFIX, BRANCH}
use Rattle.layout.specs.Rows.{root, row_in, renumbered}
use Rattle.layout.proofs.Renamed.{renamed}
use Rattle.layout.proofs.Rows.{Rises, root_rows, here_prefix, under_prefix, here_branch, under_left, under_right}

-- a part of a process: its numbers stand there
abbrev Part : Process → Process → Type 0
Part Q P = (k : ℕ) → rows Q k ≡ true → rows P k ≡ true

in_prefix : (r : ℕ) (π : Prefix) (P : Process) → Part P (prefix r π P)
unfolding rows
in_prefix r π P k e = or_r _ e

in_left : (r : ℕ) (κ : Branching) (P Q : Process) → Part P (branch r κ P Q)
unfolding rows
in_left r κ P Q k e = or_r _ (or_l _ e)

in_right : (r : ℕ) (κ : Branching) (P Q : Process) → Part Q (branch r κ P Q)
unfolding rows
in_right r κ P Q k e = or_r _ (or_r _ e)

module _ (ρ : ℕ → ℕ) where
  -- the new numbers of a process rise with its own
  abbrev pub Ordered : Process → Type 0
  Ordered P = (i j : ℕ) → rows P i ≡ true → rows P j ≡ true → i < j → ρ i < ρ j

  ordered_part : (P Q : Process) → Part Q P → Ordered P → Ordered Q
  ordered_part P Q f h i j a b = h i j (f i a) (f j b)

  -- so no two become one
  pub ordered_one : (P : Process) → Ordered P → (i j : ℕ) → rows P i ≡ true → rows P j ≡ true → ρ i ≡ ρ j → i ≡ j
  ordered_one P h i j a b e =
      by_cases (dec_lt i j) (λ l. absurd (let z : ⊥ = omega (arith, h i j a b l) in z))
      (λ l. by_cases (dec_lt j i) (λ l. absurd (let z : ⊥ = omega (arith, h j i b a l) in z)) (λ l'. omega arith))

  pub root_renamed : (P : Process) → root (renamed ρ P) ≡ ρ (root P)
  unfolding root renamed
  root_renamed (nil r) = refl
  root_renamed (prefix r π P) = refl
  root_renamed (branch r κ P Q) = refl

  -- the numbers of the renamed process
  pub rows_has : (P : Process) (k : ℕ) → rows P k ≡ true → rows (renamed ρ P) (ρ k) ≡ true
  unfolding rows renamed
  rows_has (nil r) k e = eq-eqb _ _ (ap ρ (eqb-true k r e))
  rows_has (prefix r π P) k e = ⊎_elim (λ p. or_l _ (eq-eqb _ _ (ap ρ (eqb-true k r p)))) (λ p. or_r _ (rows_has P k p)) (or_true e)
  rows_has (branch r κ P Q) k e = ⊎_elim (λ p. or_l _ (eq-eqb _ _ (ap ρ (eqb-true k r p)))) (λ p. or_r _ (⊎_elim (λ p. or_l _ (rows_has P k p)) (λ p. or_r _ (rows_has Q k p)) (or_true p))) (or_true e)

  pub rows_are : (P : Process) (j : ℕ) → rows (renamed ρ P) j ≡ true → (k : ℕ) × (rows P k ≡ true) × (ρ k ≡ j)
  unfolding rows renamed
  rows_are (nil r) j e = (r, self r, sym (eqb-true j (ρ r) e))
  rows_are (prefix r π P) j e = ⊎_elim (λ p. (r, or_l _ (self r), sym (eqb-true j (ρ r) p))) (λ p. let (k, a, b) = rows_are P j p in (k, or_r _ a, b)) (or_true e)
  rows_are (branch r κ P Q) j e =
      ⊎_elim (λ p. (r, or_l _ (self r), sym (eqb-true j (ρ r) p)))
      (λ p. ⊎_elim (λ p. let (k, a, b) = rows_are P j p in (k, or_r _ (or_l _ a), b)) (λ p. let (k, a, b) = rows_are Q j p in (k, or_r _ (or_r _ a), b)) (or_true p))
      (or_true e)

  -- a number that does not stand in a part does not become one of it
  apart_row : (P Q : Process) → Part Q P → Ordered P → (r : ℕ) → rows P r ≡ true → rows Q r ≡ false → rows (renamed ρ Q) (ρ r) ≡ false
  apart_row P Q f h r a e =
      refuted (rows (renamed ρ Q) (ρ r))
      (λ q. let (k, b, z) = rows_are Q (ρ r) q in not_both b (subst (λ (k : ℕ). rows Q k ≡ false) (sym (ordered_one P h k r (f k b) a z)) e))

  apart_rows : (W P Q : Process) → Part P W → Part Q W → Ordered W → Apart (rows P) (rows Q) → Apart (rows (renamed ρ P)) (rows (renamed ρ Q))
  apart_rows W P Q f g h a j e =
      let (k, b, z) = rows_are P j e in
      subst (λ (j : ℕ). rows (renamed ρ Q) j ≡ false) z (apart_row W Q g h k (f k b) (a k b))

  pub distinct_renamed : (P : Process) → Ordered P → Distinct P → Distinct (renamed ρ P)
  unfolding rows Distinct renamed
  distinct_renamed (nil r) h d = tt
  distinct_renamed (prefix r π P) h d =
      let W = prefix r π P in
      let f = in_prefix r π P in
      (apart_row W P f h r (or_l _ (self r)) d.0, distinct_renamed P (ordered_part W P f h) d.1)
  distinct_renamed (branch r κ P Q) h d =
      let W = branch r κ P Q in
      let f = in_left r κ P Q in
      let g = in_right r κ P Q in
      (apart_row W P f h r (or_l _ (self r)) d.0, apart_row W Q g h r (or_l _ (self r)) d.1, apart_rows W P Q f g h d.2, distinct_renamed P (ordered_part W P f h) d.3, distinct_renamed Q (ordered_part W Q g h) d.4)

  pub rises_renamed : (P : Process) → Ordered P → Rises P → Rises (renamed ρ P)
  unfolding rows Rises renamed
  rises_renamed (nil r) h u = tt
  rises_renamed (prefix r π P) h u = (rw (root_renamed P) (h r (root P) (or_l _ (self r)) (or_r _ (root_rows P)) u.0), rises_renamed P (ordered_part (prefix r π P) P (in_prefix r π P) h) u.1)
  rises_renamed (branch r κ P Q) h u = (
    rw (root_renamed P) (h r (root P) (or_l _ (self r)) (or_r _ (or_l _ (root_rows P))) u.0),
    rw (root_renamed Q) (h r (root Q) (or_l _ (self r)) (or_r _ (or_r _ (root_rows Q))) u.1),
    rises_renamed P (ordered_part (branch r κ P Q) P (in_left r κ P Q) h) u.2,
    rises_renamed Q (ordered_part (branch r κ P Q) Q (in_right r κ P Q) h) u.3,
  )

  -- each row is the old one, its children renamed
  pub row_renamed : (P : Process) → Distinct P → Distinct (renamed ρ P) → (k : ℕ) → rows P k ≡ true → row_in (renamed ρ P) (ρ k) ≡ renumbered ρ (row_in P k)
  unfolding rows Distinct row_in renumbered renamed
  row_renamed (nil r) d d' k e = refl
  row_renamed (prefix r π P) d d' k e =
      ⊎_elim
      (λ p. let z : k ≡ r = eqb-true k r p in rw z (here_prefix (ρ r) π (renamed ρ P) ∙ (ap (PREFIX π) (root_renamed P) ∙ sym (ap (renumbered ρ) (here_prefix r π P)))))
      (λ p. under_prefix (ρ r) π (renamed ρ P) d'.0 (ρ k) (rows_has P k p) ∙ (row_renamed P d.1 d'.1 k p ∙ sym (ap (renumbered ρ) (under_prefix r π P d.0 k p))))
      (or_true e)
  row_renamed (branch r κ P Q) d d' k e =
      ⊎_elim
      (λ p. let z : k ≡ r = eqb-true k r p in rw z (here_branch (ρ r) κ (renamed ρ P) (renamed ρ Q) ∙ (ap₂ (BRANCH κ) (root_renamed P) (root_renamed Q) ∙ sym (ap (renumbered ρ) (here_branch r κ P Q)))))
      (λ p. ⊎_elim
      (λ p. under_left (ρ r) κ (renamed ρ P) (renamed ρ Q) d'.0 (ρ k) (rows_has P k p) ∙ (row_renamed P d.3 d'.3 k p ∙ sym (ap (renumbered ρ) (under_left r κ P Q d.0 k p))))
      (λ p. let q = rows_has Q k p in
      under_right (ρ r) κ (renamed ρ P) (renamed ρ Q) d'.1 (ρ k) q (apart_sym d'.2 (ρ k) q) ∙ (row_renamed Q d.4 d'.4 k p ∙ sym (ap (renumbered ρ) (under_right r κ P Q d.1 k p (apart_sym d.2 k p)))))
      (or_true p))
      (or_true e)
