-- A TABLE WHOSE ROWS ARE THOSE OF A PROCESS is a tree of which the process is the term, and meets rules 5, 6 and 7. Assumes nothing.
use Prim.Native.Nat.{ℕ, ◌+◌, ◌<◌, ◌≤◌}
use mathlib.Core.Path.{◌≡◌, refl, sym, ◌∙◌, ap, subst}
use mathlib.Core.Bool.{Bool, true, false, cond, true≢false}
use native.Mathlib.Omega.{arith}
use lib.Dec.{eqb}
use borrow.Author.Tests.{eqb-true, eq-eqb}
use Rattle.laws.specs.Tests.{or}
use Rattle.laws.specs.Sums.{sum, count}
use Rattle.laws.specs.Checks.{Holds}
use Rattle.laws.proofs.Sums.{sum_same, count_few, count_one}
use Rattle.calculus.specs.Process.{Process}
use Rattle.calculus.specs.Places.{sets, Single}
use Rattle.calculus.specs.Rows.{rows, Distinct}
use Rattle.calculus.specs.Typing.{Types}
use Rattle.calculus.proofs.Typing.{types_of}
use Rattle.steps.specs.Rows.{Row, NIL, PREFIX, BRANCH, first_of, second_of, term, Kids, Child, Tree}
use Rattle.steps.specs.InFront.{names}
use Rattle.steps.proofs.Parents.{child_at, child_number, number_child, child_names, names_child}
use Rattle.steps.proofs.Sources.{typable}
use Rattle.sheet.specs.Table.{Table, row_at}
use Rattle.sheet.specs.Rules.{same, namings, times_named, terms, tree, one_source}
use Rattle.sheet.proofs.Rows.{PrefixOk, RowOk}
use Rattle.sheet.proofs.Accepted.{one_source_law}
use Rattle.layout.specs.Rows.{root, row_in}
use Rattle.layout.proofs.Rows.{Rises, Within, term_rows, tree_in}
use Rattle.layout.proofs.Left.{Each, HoldsIn, each_row}
use Rattle.layout.proofs.Bytes.{At, at_row, at_ok}

-- In a tree, "every row but 0 is the child of exactly one row, once": it is named once.
naming_by : (a b : Bool) → (a ≡ true → b ≡ true → ⊥) → cond a 1 0 + cond b 1 0 ≡ cond (or a b) 1 0
unfolding or
naming_by true true h = absurd (h refl refl)
naming_by true false h = refl
naming_by false true h = refl
naming_by false false h = refl

naming_names : (N : Row) (j : ℕ) → 0 < j → (Child N false j → Child N true j → ⊥) → namings N j ≡ cond (names N j) 1 0
unfolding namings same names child_at
naming_names N j h d = naming_by (eqb (first_of N) j) (eqb (second_of N) j) (λ a b. d (number_child N false j h (eqb-true _ j a)) (number_child N true j h (eqb-true _ j b)))

module _ (node : ℕ → Row) (n : ℕ) (f : Tree node n) (j : ℕ) (above : 0 < j) (below : j < n) where
  abbrev naming : ℕ → Bool
  naming i = names (node i) j

  naming_child : (i : ℕ) → naming i ≡ true → Child (node i) (eqb (second_of (node i)) j) j
  naming_child i e = number_child (node i) (eqb (second_of (node i)) j) j above (names_child (node i) j e)

  namings_counted : sum (λ i. namings (node i) j) n ≡ count naming n
  unfolding count
  namings_counted = sum_same _ _ n (λ i h. naming_names (node i) j above (λ c d. true≢false (sym (f.once i i false true j h h c d).1)))

  named_once : sum (λ i. namings (node i) j) n ≡ 1
  named_once =
      let (i, s, b, c) = f.named j above below in
      let some : 1 ≤ count naming n = count_one naming n i b (child_names (node i) s j (child_number (node i) s j c)) in
      let few : count naming n ≤ 1 = count_few naming n (λ i i' h h' p q. (f.once i i' _ _ j h h' (naming_child i p) (naming_child i' q)).0) in
      omega (arith, namings_counted, few, some)

-- the rows of a table are those of a process
pub record Tabled (t : Table) (P : Process) : Type 0 where
  pub distinct : Distinct P
  pub rises : Rises P
  pub first : root P ≡ 0
  pub within : Within t.n P
  pub all : (k : ℕ) → k < t.n → rows P k ≡ true
  pub bytes : (j : ℕ) → j < t.n → At t.terms j (row_in P j)

module _ (t : Table) (P : Process) (f : Tabled t P) where
  abbrev node : ℕ → Row
  node = row_at t.terms

  pub tabled_row : (j : ℕ) → j < t.n → node j ≡ row_in P j
  tabled_row j h = at_row t.terms j (row_in P j) (f.bytes j h)

  tree_of : Tree (row_in P) t.n
  tree_of = tree_in t.n P f.distinct f.rises f.first f.within f.all

  -- THE ROWS ARE A TREE ...
  pub tabled_tree : Tree node t.n
  tabled_tree = record {
    some_row = tree_of.some_row;
    kids = λ i h. subst (Kids i t.n) (sym (tabled_row i h)) (tree_of.kids i h);
    once = λ i i' s s' j h h' c d. tree_of.once i i' s s' j h h' (subst (λ (N : Row). Child N s j) (tabled_row i h) c) (subst (λ (N : Row). Child N s' j) (tabled_row i' h') d);
    named = λ j a h. let (i, s, b, c) = tree_of.named j a h in (i, s, b, subst (λ (N : Row). Child N s j) (sym (tabled_row i b)) c);
  }

  -- ... AND ITS TERM IS THE PROCESS
  pub tabled_term : term node t.n 0 ≡ P
  tabled_term = ap (term node t.n) (sym f.first) ∙ term_rows node t.n tabled_tree.kids P f.distinct f.within (λ k e. tabled_row k (f.within k e))

  -- rule 5
  row_ok_by : (i : ℕ) (N : Row) → Kids i t.n N → HoldsIn (PrefixOk t.m t.k) N → RowOk t.m t.n t.k i N
  unfolding Kids HoldsIn RowOk
  row_ok_by i NIL k h = tt
  row_ok_by i (PREFIX π c) k h = (h, k)
  row_ok_by i (BRANCH κ p q) k h = k

  pub tabled_rule_5 : Each (PrefixOk t.m t.k) P → Holds (terms t.m t.n t.k t.terms)
  tabled_rule_5 e j _ h = at_ok t.terms t.m t.n t.k j (row_in P j) (f.bytes j h) (row_ok_by j (row_in P j) (tree_of.kids j h) (each_row (PrefixOk t.m t.k) P e j))

  -- rule 6
  pub tabled_rule_6 : Holds (tree t.n t.terms)
  unfolding times_named
  tabled_rule_6 j a h = eq-eqb _ 1 (named_once node t.n tabled_tree j a h)

  -- rule 7
  pub tabled_rule_7 : Each (PrefixOk t.m t.k) P → Single P → Holds (one_source t.m t.n t.terms)
  tabled_rule_7 e s = (one_source_law t (tabled_rule_5 e)).1 ((typable node t.n tabled_tree).0 (sets P, subst (λ (Q : Process). Types Q (sets P)) (sym tabled_term) (types_of P s)))
