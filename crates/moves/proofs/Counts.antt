-- THE ACT ROWS IN THE REMAINDER, BY THEIR NUMBERS: each is counted, and once; and they are the waiting ACT rows of the sheet that stand there. Assumes nothing.
use Prim.Native.Nat.{ℕ, ◌<◌}
use mathlib.Core.Path.{◌≡◌, refl, sym, ap, ap₂, ◌∙◌}
use mathlib.Core.Bool.{Bool, true, false, ◌&&◌}
use mathlib.Core.List.{List}
use mathlib.Core.Logic.{⊎_elim}
use native.Mathlib.Omega.{arith}
use lib.Dec.{eqb}
use borrow.Author.Tests.{eqb-true}
use Rattle.laws.specs.Tests.{or, Apart}
use Rattle.laws.specs.Sums.{count}
use Rattle.laws.proofs.Tests.{cases, contra, self, or_false, false_or, or_l, or_r, and_false, and_or_miss, or_and_hit, and_or_both, apart_less}
use Rattle.laws.proofs.Sums.{count_none, count_single, count_or}
use Rattle.calculus.specs.Process.{Process, nil, prefix, branch, Prefix, act, out, join, Branching}
use Rattle.calculus.specs.Rows.{rows, Distinct}
use Rattle.steps.specs.Rows.{Row, NIL, PREFIX, BRANCH, Kids, is_act_prefix, is_act, term, Tree}
use Rattle.steps.specs.Marks.{Marks, Stand, waits, passed, dropped, stand, Open, both, left, right, open_branches, after_mark, after_taken}
use Rattle.steps.specs.InFront.{waits_by, waiting_act}
use Rattle.steps.proofs.Tree.{row_induction, rows_above, term_distinct}
use Rattle.steps.proofs.Marks.{remainder_rows, remainder_distinct}
use Rattle.steps.proofs.Remainder.{remainder_by, remainder_at}
use Rattle.sheet.specs.Table.{row_at}
use Rattle.moves.specs.Steps.{remainder_in, acts_of, act_in}

-- an ACT row is a row
act_rows : (P : Process) (k : ℕ) → rows P k ≡ false → act_in P k ≡ false
unfolding act_in rows
act_rows (nil r) k e = refl
act_rows (prefix r (act a) P) k e = false_or (or_false e).0 (act_rows P k (or_false e).1)
act_rows (prefix r (out l b) P) k e = act_rows P k (or_false e).1
act_rows (prefix r (join c) P) k e = act_rows P k (or_false e).1
act_rows (branch r κ P Q) k e = let (a, b) = or_false (or_false e).1 in false_or (act_rows P k a) (act_rows Q k b)

-- of a process in which no row stands twice, all of them below n
acts_count : (n : ℕ) (P : Process) → Distinct P → ((k : ℕ) → rows P k ≡ true → k < n) → acts_of P ≡ count (act_in P) n
unfolding acts_of act_in rows Distinct
acts_count n (nil r) d h = sym ((count_none (λ k. false) n).1 (λ k _. refl))
acts_count n (prefix r (act a) P) d h =
    let apart : Apart (λ k. eqb k r) (act_in P) = λ k e. act_rows P k (ap (rows P) (eqb-true k r e) ∙ d.0) in
    omega (arith, acts_count n P d.1 (λ k e. h k (or_r _ e)), count_or (λ k. eqb k r) (act_in P) n apart, count_single r n (h r (or_l _ (self r))))
acts_count n (prefix r (out l b) P) d h = acts_count n P d.1 (λ k e. h k (or_r _ e))
acts_count n (prefix r (join c) P) d h = acts_count n P d.1 (λ k e. h k (or_r _ e))
acts_count n (branch r κ P Q) d h =
    omega (
      arith,
      acts_count n P d.3 (λ k e. h k (or_r _ (or_l _ e))),
      acts_count n Q d.4 (λ k e. h k (or_r _ (or_r _ e))),
      count_or (act_in P) (act_in Q) n (apart_less (act_rows P) (act_rows Q) d.2),
    )

pub acts_by_row : (ts : List ℕ) (n : ℕ) (μ : Marks) → Tree (row_at ts) n → acts_of (remainder_in ts n μ 0) ≡ count (act_in (remainder_in ts n μ 0)) n
acts_by_row ts n μ t =
    acts_count n (remainder_in ts n μ 0) (remainder_distinct μ (term (row_at ts) n 0) (term_distinct (row_at ts) n t.kids t.once 0 t.some_row))
    (λ k e. (rows_above (row_at ts) n t.kids 0 t.some_row k (contra (remainder_rows μ (term (row_at ts) n 0) k) e)).1)

-- row k is an ACT of the remainder exactly if it is an ACT that waits and stands there
module _ (ts : List ℕ) (n : ℕ) (tree : Tree (row_at ts) n) (μ : Marks) (k : ℕ) where
  abbrev R : ℕ → Process
  R = remainder_in ts n μ

  abbrev wait : Bool
  wait = waiting_act (row_at ts k) (μ k)

  abbrev Same : Process → Type 0
  Same P = act_in P k ≡ (wait && rows P k)

  here : (i : ℕ) (N : Row) → row_at ts i ≡ N → eqb k i ≡ true → wait ≡ waiting_act N (μ i)
  here i N e q = let z : k ≡ i = eqb-true k i q in rw (z, e) refl

  other : (i : ℕ) (N : Row) → row_at ts i ≡ N → waiting_act N (μ i) ≡ false → (wait && eqb k i) ≡ false
  other i N e f = ⊎_elim (λ (q : eqb k i ≡ true). rw (here i N e q ∙ f) refl) (λ (q : eqb k i ≡ false). rw q (and_false wait)) (cases (eqb k i))

  nil_same : (i : ℕ) (N : Row) → row_at ts i ≡ N → waiting_act N (μ i) ≡ false → Same (nil i)
  unfolding act_in rows
  nil_same i N e f = sym (other i N e f)

  -- an ACT, OUT or JOIN, by its mark
  mark_same : (i c : ℕ) (π : Prefix) → row_at ts i ≡ PREFIX π c → (s : Stand) → stand (μ i) ≡ s → Same (R c) → Same (after_mark s i π (R c))
  unfolding act_in rows is_act is_act_prefix waits_by
  mark_same i c (act a) e waits z h = ap (or (eqb k i)) h ∙ or_and_hit wait (eqb k i) (rows (R c) k) (λ q. here i (PREFIX (act a) c) e q ∙ ap waits_by z)
  mark_same i c (out l b) e waits z h = h ∙ and_or_miss wait (eqb k i) (rows (R c) k) (other i (PREFIX (out l b) c) e refl)
  mark_same i c (join q) e waits z h = h ∙ and_or_miss wait (eqb k i) (rows (R c) k) (other i (PREFIX (join q) c) e refl)
  mark_same i c π e passed z h = h
  mark_same i c (act a) e dropped z h = nil_same i (PREFIX (act a) c) e (ap waits_by z)
  mark_same i c (out l b) e dropped z h = nil_same i (PREFIX (out l b) c) e refl
  mark_same i c (join q) e dropped z h = nil_same i (PREFIX (join q) c) e refl

  open_same : (i p q : ℕ) (κ : Branching) → row_at ts i ≡ BRANCH κ p q → (o : Open) → Same (R p) → Same (R q) → Same (after_taken o i κ (R p) (R q))
  unfolding act_in rows is_act
  open_same i p q κ e both f g = ap₂ or f g ∙ and_or_both wait (eqb k i) (rows (R p) k) (rows (R q) k) (other i (BRANCH κ p q) e refl)
  open_same i p q κ e left f g = f
  open_same i p q κ e right f g = g

  row_same : (i : ℕ) → ((j : ℕ) → i < j → j < n → Same (R j)) → (N : Row) → row_at ts i ≡ N → Kids i n N → Same (remainder_by i N (μ i) R)
  unfolding remainder_by Kids is_act
  row_same i ih NIL e _ = nil_same i NIL e refl
  row_same i ih (PREFIX π c) e kid = mark_same i c π e (stand (μ i)) refl (ih c kid.0 kid.1)
  row_same i ih (BRANCH κ p q) e kid = open_same i p q κ e (open_branches κ (μ i)) (ih p kid.0.0 kid.0.1) (ih q kid.1.0 kid.1.1)

  same : (i : ℕ) → i < n → Same (R i)
  same = row_induction (row_at ts) n tree.kids (λ i. Same (R i)) (λ i h ih. rw (remainder_at (row_at ts) n μ tree.kids i h) (row_same i ih (row_at ts i) refl (tree.kids i h)))

  pub act_row : act_in (R 0) k ≡ (waiting_act (row_at ts k) (μ k) && rows (R 0) k)
  act_row = same 0 tree.some_row
