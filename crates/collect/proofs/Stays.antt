-- WHICH ROWS ARE KEPT, and what each becomes, by rows: kept are those that are live and their own tops. Assumes nothing.
use Prim.Native.Nat.{ℕ, ◌<◌}
use mathlib.Core.Path.{◌≡◌, refl, sym, ap, ◌∙◌, subst}
use mathlib.Core.Bool.{true, cond}
use mathlib.Core.List.{List}
use mathlib.Core.Logic.{⊎_elim, ◌↔◌}
use lib.Dec.{eqb}
use borrow.Author.Tests.{eqb-true}
use Rattle.laws.proofs.Tests.{or_true, apart_sym}
use Rattle.calculus.specs.Process.{Process, nil, prefix, branch, Prefix, Branching}
use Rattle.calculus.specs.Rows.{rows, Distinct}
use Rattle.steps.specs.Rows.{Row, NIL, PREFIX, BRANCH, term, Kids, Once}
use Rattle.steps.specs.Marks.{Marks, Stand, waits, passed, dropped, stand, Open, both, left, right, open_branches, after_mark, after_taken}
use Rattle.steps.specs.InFront.{waits_by, passed_by}
use Rattle.steps.proofs.Tree.{row_induction, term_distinct}
use Rattle.steps.proofs.Marks.{remainder_distinct}
use Rattle.steps.proofs.Remainder.{remainder_by, remainder_at}
use Rattle.sheet.specs.Table.{row_at}
use Rattle.layout.specs.Rows.{root, row_in}
use Rattle.layout.proofs.Rows.{root_rows, here_prefix, under_prefix, here_branch, under_left, under_right}
use Rattle.moves.specs.Steps.{remainder_in}
use Rattle.moves.specs.Fits.{live}
use Rattle.moves.proofs.Clear.{live_root, live_rows, stands}
use Rattle.collect.specs.Tops.{top_branch, top_by, kept_as}

nil_row : (i : ℕ) → row_in (nil i) i ≡ NIL
unfolding row_in
nil_row i = refl

module _ (ts : List ℕ) (n : ℕ) (kids : (i : ℕ) → i < n → Kids i n (row_at ts i)) (once : Once (row_at ts) n) (μ : Marks) where
  abbrev R : ℕ → Process
  R = remainder_in ts n μ

  -- THE TOP OF A ROW, from those of its children
  top_mark : (i : ℕ) (π : Prefix) (P : Process) (s : Stand) → root (after_mark s i π P) ≡ cond (passed_by s) (root P) i
  unfolding root passed_by
  top_mark i π P waits = refl
  top_mark i π P passed = refl
  top_mark i π P dropped = refl

  top_open : (i : ℕ) (κ : Branching) (P Q : Process) (o : Open) → root (after_taken o i κ P Q) ≡ top_branch o i (root P) (root Q)
  unfolding root
  top_open i κ P Q both = refl
  top_open i κ P Q left = refl
  top_open i κ P Q right = refl

  top_by_law : (i : ℕ) (N : Row) (m : ℕ) → root (remainder_by i N m R) ≡ top_by i N m (λ j. root (R j))
  unfolding remainder_by top_by root
  top_by_law i NIL m = refl
  top_by_law i (PREFIX π c) m = top_mark i π (R c) (stand m)
  top_by_law i (BRANCH κ p q) m = top_open i κ (R p) (R q) (open_branches κ m)

  pub top_at : (i : ℕ) → i < n → root (R i) ≡ top_by i (row_at ts i) (μ i) (λ j. root (R j))
  top_at i h = ap root (remainder_at (row_at ts) n μ kids i h) ∙ top_by_law i (row_at ts i) (μ i)

  -- a row that stands in what is left of a row is its own top
  module _ (k : ℕ) where
    abbrev First : Process → Type 0
    First P = rows P k ≡ true → root (R k) ≡ k

    own_first : (i : ℕ) → root (R i) ≡ i → eqb k i ≡ true → root (R k) ≡ k
    own_first i h e = let z : k ≡ i = eqb-true k i e in rw z h

    mark_first : (i : ℕ) (π : Prefix) (P : Process) (s : Stand) → root (R i) ≡ root (after_mark s i π P) → First P → First (after_mark s i π P)
    unfolding rows root
    mark_first i π P waits h f e = ⊎_elim (own_first i h) f (or_true e)
    mark_first i π P passed h f e = f e
    mark_first i π P dropped h f e = own_first i h e

    open_first : (i : ℕ) (κ : Branching) (P Q : Process) (o : Open) → root (R i) ≡ root (after_taken o i κ P Q) → First P → First Q → First (after_taken o i κ P Q)
    unfolding rows root
    open_first i κ P Q both h f g e = ⊎_elim (own_first i h) (λ q. ⊎_elim f g (or_true q)) (or_true e)
    open_first i κ P Q left h f g e = f e
    open_first i κ P Q right h f g e = g e

    first_by : (i : ℕ) → ((j : ℕ) → i < j → j < n → First (R j)) → (N : Row) → Kids i n N → root (R i) ≡ root (remainder_by i N (μ i) R) → First (remainder_by i N (μ i) R)
    unfolding remainder_by Kids rows root
    first_by i ih NIL c q e = own_first i q e
    first_by i ih (PREFIX π d) c q e = mark_first i π (R d) (stand (μ i)) q (ih d c.0 c.1) e
    first_by i ih (BRANCH κ a b) c q e = open_first i κ (R a) (R b) (open_branches κ (μ i)) q (ih a c.0.0 c.0.1) (ih b c.1.0 c.1.1) e

    first_row : (i : ℕ) → i < n → First (R i)
    first_row = row_induction (row_at ts) n kids (λ i. First (R i)) (λ i h ih. let z = remainder_at (row_at ts) n μ kids i h in subst First (sym z) (first_by i ih (row_at ts i) (kids i h) (ap root z)))

    -- KEPT: live, and its own top
    pub kept_said : 0 < n → k < n → (rows (R 0) k ≡ true) ↔ ((live ts μ k ≡ true) × (root (R k) ≡ k))
    kept_said some h = (
      λ e. (stands ts n kids once μ k 0 some (live_root ts n kids once μ) e, first_row 0 some e),
      λ (l, q). live_rows ts n kids once μ k k h l (ap (rows (R k)) (sym q) ∙ root_rows (R k)),
    )

  -- A KEPT ROW, from its row, its mark and the tops of its children
  module _ (k : ℕ) where
    abbrev Shown : ℕ → Row
    Shown i = kept_as (row_at ts i) (μ i) (λ j. root (R j))

    abbrev Is : Process → Type 0
    Is P = rows P k ≡ true → row_in P k ≡ Shown k

    own_is : (i : ℕ) (P : Process) → row_in P i ≡ Shown i → eqb k i ≡ true → row_in P k ≡ Shown k
    own_is i P h e = let z : k ≡ i = eqb-true k i e in rw z h

    mark_is : (i d : ℕ) (π : Prefix) → row_at ts i ≡ PREFIX π d → (s : Stand) → stand (μ i) ≡ s → Distinct (after_mark s i π (R d)) → Is (R d) → Is (after_mark s i π (R d))
    unfolding rows Distinct kept_as waits_by
    mark_is i d π p waits q u f e = ⊎_elim (own_is i (prefix i π (R d)) (here_prefix i π (R d) ∙ rw (p, q) refl)) (λ x. under_prefix i π (R d) u.0 k x ∙ f x) (or_true e)
    mark_is i d π p passed q u f e = f e
    mark_is i d π p dropped q u f e = own_is i (nil i) (nil_row i ∙ rw (p, q) refl) e

    open_is : (i a b : ℕ) (κ : Branching) → row_at ts i ≡ BRANCH κ a b → (o : Open) → Distinct (after_taken o i κ (R a) (R b)) → Is (R a) → Is (R b) → Is (after_taken o i κ (R a) (R b))
    unfolding rows Distinct kept_as
    open_is i a b κ p both u f g e =
        ⊎_elim (own_is i (branch i κ (R a) (R b)) (here_branch i κ (R a) (R b) ∙ rw p refl))
        (λ x. ⊎_elim (λ x. under_left i κ (R a) (R b) u.0 k x ∙ f x) (λ x. under_right i κ (R a) (R b) u.1 k x (apart_sym u.2 k x) ∙ g x) (or_true x))
        (or_true e)
    open_is i a b κ p left u f g e = f e
    open_is i a b κ p right u f g e = g e

    is_by : (i : ℕ) → ((j : ℕ) → i < j → j < n → Is (R j)) → (N : Row) → row_at ts i ≡ N → Kids i n N → Distinct (remainder_by i N (μ i) R) → Is (remainder_by i N (μ i) R)
    unfolding remainder_by Kids rows kept_as
    is_by i ih NIL p c u e = own_is i (nil i) (nil_row i ∙ rw p refl) e
    is_by i ih (PREFIX π d) p c u e = mark_is i d π p (stand (μ i)) refl u (ih d c.0 c.1) e
    is_by i ih (BRANCH κ a b) p c u e = open_is i a b κ p (open_branches κ (μ i)) u (ih a c.0.0 c.0.1) (ih b c.1.0 c.1.1) e

    distinct : (i : ℕ) → i < n → Distinct (R i)
    distinct i h = remainder_distinct μ (term (row_at ts) n i) (term_distinct (row_at ts) n kids once i h)

    pub kept_as_said : 0 < n → rows (R 0) k ≡ true → row_in (R 0) k ≡ Shown k
    kept_as_said = row_induction (row_at ts) n kids (λ i. Is (R i)) (λ i h ih. let z = remainder_at (row_at ts) n μ kids i h in subst Is (sym z) (is_by i ih (row_at ts i) refl (kids i h) (subst Distinct z (distinct i h)))) 0
