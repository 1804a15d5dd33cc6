-- A PROCESS WHOSE ROWS ARE DISTINCT AND RISE is the term of its rows, and they are a tree. Assumes nothing.
use Prim.Native.Nat.{ℕ, ◌<◌}
use mathlib.Core.Path.{◌≡◌, refl, sym, ◌∙◌, ap, ap₂}
use mathlib.Core.Bool.{Bool, true, false, cond}
use mathlib.Core.Logic.{◌⊎◌, inl, inr, ⊎_elim, by_cases}
use native.Mathlib.Omega.{arith}
use native.Mathlib.Decide.{ℕ_discrete}
use lib.Dec.{eqb}
use borrow.Author.Tests.{eqb-true, ne_eqb}
use Rattle.laws.proofs.Tests.{not_both, cond_cases, or_true, or_l, or_r, self, apart_sym}
use Rattle.calculus.specs.Process.{Process, nil, prefix, branch, Prefix, Branching}
use Rattle.calculus.specs.Rows.{rows, Distinct}
use Rattle.steps.specs.Rows.{Row, PREFIX, BRANCH, term_by, term, Kids, Child, Once, Tree}
use Rattle.steps.proofs.Tree.{term_at}
use Rattle.layout.specs.Rows.{root, row_in}

-- "A child's number is greater than its parent's"
unfoldable pub Rises : Process → Type 0
Rises (nil r) = Unit {0}
Rises (prefix r π P) = (r < root P) × Rises P
Rises (branch r κ P Q) = (r < root P) × (r < root Q) × Rises P × Rises Q

-- its numbers lie below n
abbrev pub Within : ℕ → Process → Type 0
Within n P = (k : ℕ) → rows P k ≡ true → k < n

pub root_rows : (P : Process) → rows P (root P) ≡ true
unfolding rows root
root_rows (nil r) = self r
root_rows (prefix r π P) = or_l _ (self r)
root_rows (branch r κ P Q) = or_l _ (self r)

-- the first number is the lowest
pub root_lowest : (P : Process) → Rises P → (k : ℕ) → rows P k ≡ true → (k ≡ root P) ⊎ (root P < k)
unfolding rows root Rises
root_lowest (nil r) s k e = inl (eqb-true k r e)
root_lowest (prefix r π P) s k e = ⊎_elim (λ p. inl (eqb-true k r p)) (λ p. inr (⊎_elim (λ (q : k ≡ root P). rw q s.0) (λ (q : root P < k). omega (arith, s.0)) (root_lowest P s.1 k p))) (or_true e)
root_lowest (branch r κ P Q) s k e =
    ⊎_elim (λ p. inl (eqb-true k r p))
    (λ p. ⊎_elim
    (λ p. inr (⊎_elim (λ (q : k ≡ root P). rw q s.0) (λ (q : root P < k). omega (arith, s.0)) (root_lowest P s.2 k p)))
    (λ p. inr (⊎_elim (λ (q : k ≡ root Q). rw q s.1) (λ (q : root Q < k). omega (arith, s.1)) (root_lowest Q s.3 k p)))
    (or_true p))
    (or_true e)

-- the row of the root, and of the numbers below it
module _ (r : ℕ) (π : Prefix) (P : Process) where
  pub here_prefix : row_in (prefix r π P) r ≡ PREFIX π (root P)
  unfolding row_in
  here_prefix = rw (self r)

  pub under_prefix : rows P r ≡ false → (k : ℕ) → rows P k ≡ true → row_in (prefix r π P) k ≡ row_in P k
  unfolding row_in
  under_prefix out k e = rw (ne_eqb k r (λ (z : k ≡ r). not_both e (rw z out)))

module _ (r : ℕ) (κ : Branching) (P Q : Process) where
  pub here_branch : row_in (branch r κ P Q) r ≡ BRANCH κ (root P) (root Q)
  unfolding row_in
  here_branch = rw (self r)

  pub under_left : rows P r ≡ false → (k : ℕ) → rows P k ≡ true → row_in (branch r κ P Q) k ≡ row_in P k
  unfolding row_in
  under_left out k e = rw (ne_eqb k r (λ (z : k ≡ r). not_both e (rw z out)), e)

  pub under_right : rows Q r ≡ false → (k : ℕ) → rows Q k ≡ true → rows P k ≡ false → row_in (branch r κ P Q) k ≡ row_in Q k
  unfolding row_in
  under_right out k e f = rw (ne_eqb k r (λ (z : k ≡ r). not_both e (rw z out)), f)

-- rows that are those of a process, wherever it has one
abbrev Has : (ℕ → Row) → Process → Type 0
Has node P = (k : ℕ) → rows P k ≡ true → node k ≡ row_in P k

module _ (node : ℕ → Row) (n : ℕ) (kids : (i : ℕ) → i < n → Kids i n (node i)) where
  -- THEIR TERM IS THE PROCESS
  pub term_rows : (P : Process) → Distinct P → Within n P → Has node P → term node n (root P) ≡ P
  unfolding Distinct rows root row_in term_by
  term_rows (nil r) d w h = term_at node n kids r (w r (self r)) ∙ ap (λ (N : Row). term_by r N (term node n)) (h r (self r))
  term_rows (prefix r π P) d w h =
      term_at node n kids r (w r (or_l _ (self r))) ∙
      (ap (λ (N : Row). term_by r N (term node n)) (h r (or_l _ (self r)) ∙ here_prefix r π P) ∙
      ap (prefix r π) (term_rows P d.1 (λ k e. w k (or_r _ e)) (λ k e. h k (or_r _ e) ∙ under_prefix r π P d.0 k e)))
  term_rows (branch r κ P Q) d w h =
      term_at node n kids r (w r (or_l _ (self r))) ∙
      (ap (λ (N : Row). term_by r N (term node n)) (h r (or_l _ (self r)) ∙ here_branch r κ P Q) ∙
      ap₂ (branch r κ)
      (term_rows P d.3 (λ k e. w k (or_r _ (or_l _ e))) (λ k e. h k (or_r _ (or_l _ e)) ∙ under_left r κ P Q d.0 k e))
      (term_rows Q d.4 (λ k e. w k (or_r _ (or_r _ e))) (λ k e. h k (or_r _ (or_r _ e)) ∙ under_right r κ P Q d.1 k e (apart_sym d.2 k e))))

-- children lie above their row and below n
kids_in : (n : ℕ) (P : Process) → Rises P → Within n P → (i : ℕ) → Kids i n (row_in P i)
unfolding row_in Kids Rises rows
kids_in n (nil r) s w i = tt
kids_in n (prefix r π P) s w i =
    cond_cases (Kids i n) (eqb i r)
    (λ e. (rw (eqb-true i r e) s.0, w (root P) (or_r _ (root_rows P))))
    (λ e. kids_in n P s.1 (λ k f. w k (or_r _ f)) i)
kids_in n (branch r κ P Q) s w i =
    cond_cases (Kids i n) (eqb i r)
    (λ e. ((rw (eqb-true i r e) s.0, w (root P) (or_r _ (or_l _ (root_rows P)))), (rw (eqb-true i r e) s.1, w (root Q) (or_r _ (or_r _ (root_rows Q))))))
    (λ e. cond_cases (Kids i n) (rows P i) (λ f. kids_in n P s.2 (λ k f. w k (or_r _ (or_l _ f))) i) (λ f. kids_in n Q s.3 (λ k f. w k (or_r _ (or_r _ f))) i))

-- the parent of a number, and on which side it has it
record Above : Type 0 where
  parent : ℕ
  side : Bool

abbrev above_at : ℕ → Bool → Above
above_at r s = record { parent = r; side = s }

unfoldable above : Process → ℕ → Above
above (nil r) j = above_at r false
above (prefix r π P) j = cond (eqb j (root P)) (above_at r false) (above P j)
above (branch r κ P Q) j = cond (rows P j) (cond (eqb j (root P)) (above_at r false) (above P j)) (cond (eqb j (root Q)) (above_at r true) (above Q j))

-- a child stands in the process, above its root, and its parent is found
abbrev Found : Process → ℕ → Bool → ℕ → Type 0
Found P i s j = (rows P j ≡ true) × (root P < j) × (rows P i ≡ true) × (above P j ≡ above_at i s)

-- a child of a branching's rows is one of its two, or a child in one of them
module _ (r : ℕ) (κ : Branching) (P Q : Process) (i : ℕ) (s : Bool) (j : ℕ) where
  abbrev Split : Type 0
  Split = ((i ≡ r) × (((s ≡ false) × (j ≡ root P)) ⊎ ((s ≡ true) × (j ≡ root Q)))) ⊎ (Child (row_in P i) s j ⊎ Child (row_in Q i) s j)

  own_split : i ≡ r → (s' : Bool) → s ≡ s' → Child (BRANCH κ (root P) (root Q)) s' j → Split
  unfolding Child
  own_split e false p c = inl (e, inl (p, sym c))
  own_split e true p c = inl (e, inr (p, sym c))

  split : Child (row_in (branch r κ P Q) i) s j → Split
  unfolding row_in
  split c = at (eqb i r) refl (rows P i) c
    where
      at : (b : Bool) → eqb i r ≡ b → (d : Bool) → Child (cond b (BRANCH κ (root P) (root Q)) (cond d (row_in P i) (row_in Q i))) s j → Split
      at true e d c = own_split (eqb-true i r e) s refl c
      at false e true c = inr (inl c)
      at false e false c = inr (inr c)

module _ (r : ℕ) (π : Prefix) (P : Process) (i : ℕ) (s : Bool) (j : ℕ) where
  abbrev Split₁ : Type 0
  Split₁ = ((i ≡ r) × (s ≡ false) × (j ≡ root P)) ⊎ Child (row_in P i) s j

  own_split₁ : i ≡ r → (s' : Bool) → s ≡ s' → Child (PREFIX π (root P)) s' j → Split₁
  unfolding Child
  own_split₁ e false p c = inl (e, p, sym c)
  own_split₁ e true p c = absurd c

  split₁ : Child (row_in (prefix r π P) i) s j → Split₁
  unfolding row_in
  split₁ c = at (eqb i r) refl c
    where
      at : (b : Bool) → eqb i r ≡ b → Child (cond b (PREFIX π (root P)) (row_in P i)) s j → Split₁
      at true e c = own_split₁ (eqb-true i r e) s refl c
      at false e c = inr c

lower_not : (a b : ℕ) → a < b → eqb b a ≡ false
lower_not a b h = ne_eqb b a (λ z. omega arith)

nil_child : (r i : ℕ) (s : Bool) (j : ℕ) → Child (row_in (nil r) i) s j → ⊥
unfolding row_in Child
nil_child r i s j c = c

child_found : (P : Process) → Distinct P → Rises P → (i : ℕ) (s : Bool) (j : ℕ) → Child (row_in P i) s j → Found P i s j
unfolding Distinct Rises rows root above
child_found (nil r) d u i s j c = absurd (nil_child r i s j c)
child_found (prefix r π P) d u i s j c =
    ⊎_elim
    (λ (p, q, z). (or_r _ (rw z (root_rows P)), rw z u.0, or_l _ (rw p (self r)), rw (p, q, z, self (root P)) refl))
    (λ c. let (a, b, e, f) = child_found P d.1 u.1 i s j c in (or_r _ a, omega (arith, u.0, b), or_r _ e, rw (lower_not (root P) j b) f))
    (split₁ r π P i s j c)
child_found (branch r κ P Q) d u i s j c =
    ⊎_elim
    (λ (p, c). ⊎_elim
    (λ (q, z). (or_r _ (or_l _ (rw z (root_rows P))), rw z u.0, or_l _ (rw p (self r)), rw (p, q, z, root_rows P, self (root P)) refl))
    (λ (q, z). (or_r _ (or_r _ (rw z (root_rows Q))), rw z u.1, or_l _ (rw p (self r)), rw (p, q, z, apart_sym d.2 (root Q) (root_rows Q), self (root Q)) refl))
    c)
    (λ c. ⊎_elim
    (λ c. let (a, b, e, f) = child_found P d.3 u.2 i s j c in (or_r _ (or_l _ a), omega (arith, u.0, b), or_r _ (or_l _ e), rw (a, lower_not (root P) j b) f))
    (λ c. let (a, b, e, f) = child_found Q d.4 u.3 i s j c in (or_r _ (or_r _ a), omega (arith, u.1, b), or_r _ (or_r _ e), rw (apart_sym d.2 j a, lower_not (root Q) j b) f))
    c)
    (split r κ P Q i s j c)

once_in : (P : Process) → Distinct P → Rises P → (n : ℕ) → Once (row_in P) n
once_in P d u n i i' s s' j h h' c c' =
    let (_, _, _, p) = child_found P d u i s j c in
    let (_, _, _, q) = child_found P d u i' s' j c' in
    let e : above_at i s ≡ above_at i' s' = sym p ∙ q in
    (ap (λ (a : Above). a.parent) e, ap (λ (a : Above). a.side) e)

-- each number but the root's has its parent
named_in : (P : Process) → Distinct P → (j : ℕ) → rows P j ≡ true → (j ≡ root P → ⊥) → (i : ℕ) × (s : Bool) × (rows P i ≡ true) × Child (row_in P i) s j
unfolding Distinct rows root Child
named_in (nil r) d j e h = absurd (h (eqb-true j r e))
named_in (prefix r π P) d j e h =
    ⊎_elim (λ p. absurd (h (eqb-true j r p)))
    (λ p. by_cases (ℕ_discrete j (root P))
    (λ (z : j ≡ root P). (r, false, or_l _ (self r), rw (here_prefix r π P) (sym z)))
    (λ z. let (i, s, a, c) = named_in P d.1 j p z in (i, s, or_r _ a, rw (under_prefix r π P d.0 i a) c)))
    (or_true e)
named_in (branch r κ P Q) d j e h =
    ⊎_elim (λ p. absurd (h (eqb-true j r p)))
    (λ p. ⊎_elim
    (λ p. by_cases (ℕ_discrete j (root P))
    (λ (z : j ≡ root P). (r, false, or_l _ (self r), rw (here_branch r κ P Q) (sym z)))
    (λ z. let (i, s, a, c) = named_in P d.3 j p z in (i, s, or_r _ (or_l _ a), rw (under_left r κ P Q d.0 i a) c)))
    (λ p. by_cases (ℕ_discrete j (root Q))
    (λ (z : j ≡ root Q). (r, true, or_l _ (self r), rw (here_branch r κ P Q) (sym z)))
    (λ z. let (i, s, a, c) = named_in Q d.4 j p z in (i, s, or_r _ (or_r _ a), rw (under_right r κ P Q d.1 i a (apart_sym d.2 i a)) c)))
    (or_true p))
    (or_true e)

-- THEY ARE A TREE, where they are all the numbers below n
pub tree_in : (n : ℕ) (P : Process) → Distinct P → Rises P → root P ≡ 0 → Within n P → ((k : ℕ) → k < n → rows P k ≡ true) → Tree (row_in P) n
tree_in n P d u z w all = record {
  some_row = rw z at (w (root P) (root_rows P));
  kids = λ i h. kids_in n P u w i;
  once = once_in P d u n;
  named = λ j a h. let (i, s, e, c) = named_in P d j (all j h) (λ (e : j ≡ root P). let y : j ≡ 0 = e ∙ z in omega arith) in (i, s, w i e, c);
}
