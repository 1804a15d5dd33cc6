-- What is left of the rows of a table: its numbers rise, and it has no ACT, OUT or JOIN that the table has not. Assumes nothing.
use Prim.Native.Nat.{ℕ, ◌<◌, ◌≤◌}
use mathlib.Core.Path.{◌≡◌, refl, ◌∙◌, ap}
use mathlib.Core.Logic.{⊎_elim}
use native.Mathlib.Omega.{arith}
use lib.Dec.{eqb}
use Rattle.laws.proofs.Tests.{contra, cond_cases}
use Rattle.calculus.specs.Process.{Process, nil, prefix, branch, Prefix}
use Rattle.calculus.specs.Rows.{rows}
use Rattle.steps.specs.Rows.{Row, NIL, PREFIX, BRANCH, term_by, term, Kids}
use Rattle.steps.specs.Marks.{Marks, stand, open_branches, remainder}
use Rattle.steps.proofs.Tree.{term_at, term_induction}
use Rattle.steps.proofs.Marks.{after_mark_all, after_taken_all, remainder_rows}
use Rattle.layout.specs.Rows.{root, row_in}
use Rattle.layout.proofs.Renamed.{renamed}
use Rattle.layout.proofs.Rows.{Rises, root_rows, root_lowest}

-- something holds of each ACT, OUT and JOIN of a process
unfoldable pub Each : (Prefix → Type 0) → Process → Type 0
Each T (nil r) = Unit {0}
Each T (prefix r π P) = T π × Each T P
Each T (branch r κ P Q) = Each T P × Each T Q

module _ (node : ℕ → Row) (n : ℕ) (kids : (i : ℕ) → i < n → Kids i n (node i)) where
  root_by : (i : ℕ) (N : Row) → root (term_by i N (term node n)) ≡ i
  unfolding root term_by
  root_by i NIL = refl
  root_by i (PREFIX π c) = refl
  root_by i (BRANCH κ p q) = refl

  root_term : (i : ℕ) → i < n → root (term node n i) ≡ i
  root_term i h = ap root (term_at node n kids i h) ∙ root_by i (node i)

  rises_by : (i : ℕ) → i < n → (N : Row) → node i ≡ N → Kids i n N → ((j : ℕ) → i < j → j < n → Rises (term node n j)) → Rises (term_by i N (term node n))
  unfolding term_by Kids Rises
  rises_by i h NIL e k ih = tt
  rises_by i h (PREFIX π c) e k ih = (omega (arith, root_term c k.1, k.0), ih c k.0 k.1)
  rises_by i h (BRANCH κ p q) e k ih = (omega (arith, root_term p k.0.1, k.0.0), omega (arith, root_term q k.1.1, k.1.0), ih p k.0.0 k.0.1, ih q k.1.0 k.1.1)

  pub term_rises : (i : ℕ) → i < n → Rises (term node n i)
  term_rises = term_induction node n kids Rises rises_by

  -- what holds of each ACT, OUT and JOIN row holds of each in the term
  module _ (T : Prefix → Type 0) (all : (i c : ℕ) (π : Prefix) → i < n → node i ≡ PREFIX π c → T π) where
    each_by : (i : ℕ) → i < n → (N : Row) → node i ≡ N → Kids i n N → ((j : ℕ) → i < j → j < n → Each T (term node n j)) → Each T (term_by i N (term node n))
    unfolding term_by Kids Each
    each_by i h NIL e k ih = tt
    each_by i h (PREFIX π c) e k ih = (all i c π h e, ih c k.0 k.1)
    each_by i h (BRANCH κ p q) e k ih = (ih p k.0.0 k.0.1, ih q k.1.0 k.1.1)

    pub term_each : (i : ℕ) → i < n → Each T (term node n i)
    term_each = term_induction node n kids (Each T) each_by

-- the remainder begins at its process's first row, or behind it
behind_root : (μ : Marks) (P : Process) → Rises P → root P ≤ root (remainder μ P)
behind_root μ P u =
    ⊎_elim (λ (e : root (remainder μ P) ≡ root P). omega arith) (λ (h : root P < root (remainder μ P)). omega arith)
    (root_lowest P u (root (remainder μ P)) (contra (remainder_rows μ P (root (remainder μ P))) (root_rows (remainder μ P))))

pub remainder_rises : (μ : Marks) (P : Process) → Rises P → Rises (remainder μ P)
unfolding Rises remainder
remainder_rises μ (nil r) u = tt
remainder_rises μ (prefix r π P) u = let h = remainder_rises μ P u.1 in after_mark_all Rises (stand (μ r)) (omega (arith, u.0, behind_root μ P u.1), h) h tt
remainder_rises μ (branch r κ P Q) u =
    let h = remainder_rises μ P u.2 in
    let i = remainder_rises μ Q u.3 in
    after_taken_all Rises (open_branches κ (μ r)) (omega (arith, u.0, behind_root μ P u.2), omega (arith, u.1, behind_root μ Q u.3), h, i) h i

module _ (T : Prefix → Type 0) where
  pub remainder_each : (μ : Marks) (P : Process) → Each T P → Each T (remainder μ P)
  unfolding Each remainder
  remainder_each μ (nil r) u = tt
  remainder_each μ (prefix r π P) u = let h = remainder_each μ P u.1 in after_mark_all (Each T) (stand (μ r)) (u.0, h) h tt
  remainder_each μ (branch r κ P Q) u =
      let h = remainder_each μ P u.0 in
      let i = remainder_each μ Q u.1 in
      after_taken_all (Each T) (open_branches κ (μ r)) (h, i) h i

  pub renamed_each : (ρ : ℕ → ℕ) (P : Process) → Each T P → Each T (renamed ρ P)
  unfolding Each renamed
  renamed_each ρ (nil r) u = tt
  renamed_each ρ (prefix r π P) u = (u.0, renamed_each ρ P u.1)
  renamed_each ρ (branch r κ P Q) u = (renamed_each ρ P u.0, renamed_each ρ Q u.1)

  -- ... and of each in the rows of a process
  unfoldable pub HoldsIn : Row → Type 0
  HoldsIn NIL = Unit {0}
  HoldsIn (PREFIX π c) = T π
  HoldsIn (BRANCH κ p q) = Unit {0}

  pub each_row : (P : Process) → Each T P → (k : ℕ) → HoldsIn (row_in P k)
  unfolding Each row_in HoldsIn
  each_row (nil r) u k = tt
  each_row (prefix r π P) u k = cond_cases HoldsIn (eqb k r) (λ e. u.0) (λ e. each_row P u.1 k)
  each_row (branch r κ P Q) u k = cond_cases HoldsIn (eqb k r) (λ e. tt) (λ e. cond_cases HoldsIn (rows P k) (λ f. each_row P u.0 k) (λ f. each_row Q u.1 k))

pub each_map : (S T : Prefix → Type 0) → ((π : Prefix) → S π → T π) → (P : Process) → Each S P → Each T P
unfolding Each
each_map S T f (nil r) u = tt
each_map S T f (prefix r π P) u = (f π u.0, each_map S T f P u.1)
each_map S T f (branch r κ P Q) u = (each_map S T f P u.0, each_map S T f Q u.1)
