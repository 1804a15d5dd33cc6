-- WHAT IS COMPUTED IS THE COMPACTED TABLE'S TERMS. Assumes nothing.
use Prim.Native.Nat.{ℕ, ◌<◌, ◌≤◌}
use mathlib.Core.Path.{◌≡◌, refl, sym, ◌∙◌, ap, ap₂}
use mathlib.Core.Bool.{Bool, true, false, cond}
use mathlib.Core.List.{List}
use native.Mathlib.Omega.{arith}
use lib.ListN.{get_or}
use borrow.Author.Tests.{eqb-true, eq-eqb}
use Rattle.laws.specs.Sums.{count}
use Rattle.laws.specs.Listed.{listed}
use Rattle.laws.proofs.Tests.{and_l, and_r, contra, both_ways}
use Rattle.laws.proofs.Sums.{count_same}
use Rattle.laws.proofs.Listed.{listed_same, listed_holds, listed_under}
use Rattle.calculus.specs.Process.{Process}
use Rattle.steps.specs.Rows.{Row, NIL, PREFIX, BRANCH, Kids, term, Tree}
use Rattle.steps.specs.Marks.{stand}
use Rattle.steps.specs.InFront.{waits_by}
use Rattle.steps.proofs.Tree.{rows_above}
use Rattle.steps.proofs.Marks.{remainder_rows}
use Rattle.sheet.specs.Table.{Table, row_at}
use Rattle.layout.specs.Rows.{root, renumbered}
use Rattle.layout.specs.Bytes.{row_bytes, laid}
use Rattle.layout.proofs.Rows.{root_rows}
use Rattle.layout.proofs.Bytes.{laid_same}
use Rattle.state.specs.declared.State.{State}
use Rattle.moves.specs.Steps.{marks_of, remainder_in}
use Rattle.moves.specs.Fits.{live}
use Rattle.compacted.specs.Compacted.{is_kept, rank, kept_row, compacted_terms}
use Rattle.flags.specs.Flags.{flagged}
use Rattle.flags.proofs.Shown.{shown}
use Rattle.laying.specs.Told.{Tells}
use Rattle.laying.specs.LaidIn.{LaidIn}
use Rattle.front.specs.Asked.{ShowsLive}
use Rattle.front.proofs.Asking.{asked_live}
use Rattle.collect.specs.Tops.{kept_as}
use Rattle.collect.specs.Kept.{kept_by, new_bytes, new_terms}
use Rattle.collect.proofs.Stays.{kept_said, kept_as_said}

-- only the children are asked
same_kept_as : (k n : ℕ) (N : Row) (m : ℕ) (f f' g g' : ℕ → ℕ) → Kids k n N → ((c : ℕ) → c < n → f (g c) ≡ f' (g' c)) → renumbered f (kept_as N m g) ≡ renumbered f' (kept_as N m g')
unfolding renumbered kept_as Kids
same_kept_as k n NIL m f f' g g' h e = refl
same_kept_as k n (PREFIX π c) m f f' g g' h e = at (waits_by (stand m))
  where
    at : (b : Bool) → renumbered f (cond b (PREFIX π (g c)) NIL) ≡ renumbered f' (cond b (PREFIX π (g' c)) NIL)
    at true = ap (PREFIX π) (e c h.1)
    at false = refl
same_kept_as k n (BRANCH κ p q) m f f' g g' h e = ap₂ (BRANCH κ) (e p h.0.1) (e q h.1.1)

-- from what the three passes tell
module _ (t : Table) (tree : Tree (row_at t.terms) t.n) (s : State) (L T N : List ℕ) (p : ℕ → Bool)
    (lives : ShowsLive t.terms t.n (marks_of s) L) (tops : Tells (λ j. root (remainder_in t.terms t.n (marks_of s) j)) 0 t.n T) (keeps : (k : ℕ) → k < t.n → p k ≡ kept_by L T k) (ranks : Tells (count p) 0 t.n N) where
  abbrev R : ℕ → Process
  R = remainder_in t.terms t.n (marks_of s)

  live_is : (k : ℕ) → k < t.n → flagged L k ≡ live t.terms (marks_of s) k
  live_is k h = shown _ t.n L lives k h ∙ asked_live t.terms (marks_of s) k

  top_is : (k : ℕ) → k < t.n → get_or T k 0 ≡ root (R k)
  top_is k h = tops.at k (omega arith) h

  -- the rows that are kept ...
  kept_is : (k : ℕ) → k < t.n → p k ≡ is_kept t s k
  unfolding is_kept
  kept_is k h =
      let (to, back) = kept_said t.terms t.n tree.kids tree.once (marks_of s) k tree.some_row h in
      keeps k h ∙
      both_ways
      (λ e. back (sym (live_is k h) ∙ and_l _ _ e, sym (top_is k h) ∙ eqb-true (get_or T k 0) k (and_r (flagged L k) _ e)))
      (λ e. let (a, b) = to e in rw (live_is k h, top_is k h, a) (eq-eqb (root (R k)) k b))

  -- ... their ranks ...
  count_is : (k : ℕ) → k ≤ t.n → count p k ≡ rank t s k
  unfolding rank
  count_is k h = count_same p (is_kept t s) k (λ i l. kept_is i (omega arith))

  top_below : (c : ℕ) → c < t.n → root (R c) < t.n
  top_below c h = (rows_above (row_at t.terms) t.n tree.kids c h (root (R c)) (contra (remainder_rows (marks_of s) (term (row_at t.terms) t.n c) (root (R c))) (root_rows (R c)))).1

  rank_is : (c : ℕ) → c < t.n → get_or N (get_or T c 0) 0 ≡ rank t s (root (R c))
  rank_is c h =
      let u : root (R c) < t.n = top_below c h in
      ap (λ (x : ℕ). get_or N x 0) (top_is c h) ∙ (ranks.at (root (R c)) (omega arith) u ∙ count_is (root (R c)) (omega arith))

  -- ... and their bytes
  row_is : (k : ℕ) → k < t.n → is_kept t s k ≡ true → new_bytes (row_at t.terms k) (marks_of s k) T N ≡ row_bytes (kept_row t s k)
  unfolding new_bytes kept_row is_kept
  row_is k h e =
      ap row_bytes (same_kept_as k t.n (row_at t.terms k) (marks_of s k) (λ j. get_or N j 0) (rank t s) (λ j. get_or T j 0) (λ j. root (R j)) (tree.kids k h) rank_is ∙
      ap (renumbered (rank t s)) (sym (kept_as_said t.terms t.n tree.kids tree.once (marks_of s) k tree.some_row e)))

  pub terms_are : (r : ℕ) (rows : List ℕ) → LaidIn (count p t.n) (new_terms t.terms t.n (marks_of s) p T N) r rows → LaidIn (rank t s t.n) (compacted_terms t s) r rows
  unfolding compacted_terms
  terms_are r rows g = record {
    counted = g.counted ∙ count_is t.n (omega arith);
    begins =
        g.begins ∙
        (ap (laid (λ k. new_bytes (row_at t.terms k) (marks_of s k) T N)) (listed_same p (is_kept t s) 0 t.n (λ j _ l. kept_is j (omega arith))) ∙
        laid_same (λ k. new_bytes (row_at t.terms k) (marks_of s k) T N) (λ k. row_bytes (kept_row t s k)) (listed (is_kept t s) 0 t.n)
        (λ k m. row_is k (omega (arith, listed_under (is_kept t s) 0 t.n k m)) (listed_holds (is_kept t s) 0 t.n k m)));
  }
