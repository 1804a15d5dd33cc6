-- A process numbered in order: its numbers, its links and its runs. THE BYTES IN ORDER ARE ITS ROWS: a table of them has it as its term. Assumes nothing.
use Prim.Native.Nat.{ℕ, suc, ◌+◌, ◌-◌, ◌*◌, ◌<◌, ◌≤◌}
use mathlib.Core.Path.{◌≡◌, refl, sym, ◌∙◌, ap, ap₂, subst}
use mathlib.Core.Bool.{true, false}
use mathlib.Core.List.{List, ◌++◌}
use mathlib.Core.Logic.{⊎_elim, by_cases}
use native.Mathlib.Omega.{arith}
use native.Mathlib.Decide.{ℕ_discrete, dec_lt}
use lib.ListN.{length, length-append}
use borrow.Author.Tests.{eqb-true, eq-eqb}
use Rattle.laws.proofs.Tests.{refuted, or_true, or_l, or_r, apart_sym}
use Rattle.calculus.specs.Process.{Process, nil, prefix, branch, Prefix}
use Rattle.calculus.specs.Places.{sets, Single}
use Rattle.calculus.specs.Rows.{rows, Distinct}
use Rattle.steps.specs.Rows.{Row, NIL, PREFIX, BRANCH}
use Rattle.sheet.specs.Table.{Table}
use Rattle.layout.specs.Rows.{root, row_in}
use Rattle.layout.specs.Bytes.{row_bytes}
use Rattle.layout.specs.InOrder.{size, numbered, in_order}
use Rattle.layout.proofs.Renamed.{renamed, renamed_sets}
use Rattle.layout.proofs.Rows.{Rises, here_prefix, under_prefix, here_branch, under_left, under_right}
use Rattle.layout.proofs.Left.{Each}
use Rattle.layout.proofs.Bytes.{At, four_each, four_left, four_right, four_first, four_later}
use Rattle.layout.proofs.Tabled.{Tabled}

-- its numbers are those from i on, as many as it has rows
numbers_are : (P : Process) (i k : ℕ) → rows (numbered i P) k ≡ true → (i ≤ k) × (k < i + size P)
unfolding rows numbered size
numbers_are (nil r) i k e = (omega (arith, eqb-true k i e), omega (arith, eqb-true k i e))
numbers_are (prefix r π P) i k e = ⊎_elim (λ p. (omega (arith, eqb-true k i p), omega (arith, eqb-true k i p))) (λ p. let (a, b) = numbers_are P (suc i) k p in (omega arith, omega arith)) (or_true e)
numbers_are (branch r κ P Q) i k e =
    ⊎_elim (λ p. (omega (arith, eqb-true k i p), omega (arith, eqb-true k i p)))
    (λ p. ⊎_elim (λ p. let (a, b) = numbers_are P (suc i) k p in (omega arith, omega arith)) (λ p. let (a, b) = numbers_are Q (suc i + size P) k p in (omega arith, omega arith)) (or_true p))
    (or_true e)

all_numbers : (P : Process) (i k : ℕ) → i ≤ k → k < i + size P → rows (numbered i P) k ≡ true
unfolding rows numbered size
all_numbers (nil r) i k a b = eq-eqb k i (omega arith)
all_numbers (prefix r π P) i k a b = by_cases (ℕ_discrete k i) (λ z. or_l _ (eq-eqb k i z)) (λ z. or_r _ (all_numbers P (suc i) k (omega arith) (omega arith)))
all_numbers (branch r κ P Q) i k a b =
    by_cases (ℕ_discrete k i) (λ z. or_l _ (eq-eqb k i z))
    (λ z. by_cases (dec_lt k (suc i + size P)) (λ h. or_r _ (or_l _ (all_numbers P (suc i) k (omega arith) h))) (λ h. or_r _ (or_r _ (all_numbers Q (suc i + size P) k (omega arith) (omega arith)))))

-- they are distinct, and they rise
not_number : (P : Process) (i k : ℕ) → (i ≤ k → k < i + size P → ⊥) → rows (numbered i P) k ≡ false
not_number P i k h = refuted (rows (numbered i P) k) (λ e. let (a, b) = numbers_are P i k e in h a b)

numbered_distinct : (P : Process) (i : ℕ) → Distinct (numbered i P)
unfolding numbered Distinct
numbered_distinct (nil r) i = tt
numbered_distinct (prefix r π P) i = (not_number P (suc i) i (λ a b. omega arith), numbered_distinct P (suc i))
numbered_distinct (branch r κ P Q) i = (
  not_number P (suc i) i (λ a b. omega arith),
  not_number Q (suc i + size P) i (λ a b. omega arith),
  λ k e. not_number Q (suc i + size P) k (λ a b. let (c, d) = numbers_are P (suc i) k e in let z : ⊥ = omega arith in z),
  numbered_distinct P (suc i),
  numbered_distinct Q (suc i + size P),
)

root_numbered : (P : Process) (i : ℕ) → root (numbered i P) ≡ i
unfolding root numbered
root_numbered (nil r) i = refl
root_numbered (prefix r π P) i = refl
root_numbered (branch r κ P Q) i = refl

numbered_rises : (P : Process) (i : ℕ) → Rises (numbered i P)
unfolding numbered Rises
numbered_rises (nil r) i = tt
numbered_rises (prefix r π P) i = (omega (arith, root_numbered P (suc i)), numbered_rises P (suc i))
numbered_rises (branch r κ P Q) i = (omega (arith, root_numbered P (suc i)), omega (arith, root_numbered Q (suc i + size P)), numbered_rises P (suc i), numbered_rises Q (suc i + size P))

-- BUT FOR ITS NUMBERS IT IS THE SAME: so its runs are the same (`same_run`), and its links
abbrev pub unnumbered : ℕ → ℕ
unnumbered k = 0

pub numbered_same : (P : Process) (i : ℕ) → renamed unnumbered (numbered i P) ≡ renamed unnumbered P
unfolding numbered renamed
numbered_same (nil r) i = refl
numbered_same (prefix r π P) i = ap (prefix 0 π) (numbered_same P (suc i))
numbered_same (branch r κ P Q) i = ap₂ (branch 0 κ) (numbered_same P (suc i)) (numbered_same Q (suc i + size P))

pub numbered_sets : (P : Process) (i k : ℕ) → sets (numbered i P) k ≡ sets P k
numbered_sets P i k = sym (renamed_sets unnumbered (numbered i P) k) ∙ (ap (λ (Q : Process). sets Q k) (numbered_same P i) ∙ renamed_sets unnumbered P k)

pub numbered_single : (P : Process) (i : ℕ) → Single P → Single (numbered i P)
unfolding numbered Single
numbered_single (nil r) i s = tt
numbered_single (prefix r π P) i s = (λ k e. numbered_sets P (suc i) k ∙ s.0 k e, numbered_single P (suc i) s.1)
numbered_single (branch r κ P Q) i s = (λ k e. numbered_sets Q (suc i + size P) k ∙ s.0 k (sym (numbered_sets P (suc i) k) ∙ e), numbered_single P (suc i) s.1, numbered_single Q (suc i + size P) s.2)

pub numbered_each : (T : Prefix → Type 0) (P : Process) (i : ℕ) → Each T P → Each T (numbered i P)
unfolding numbered Each
numbered_each T (nil r) i h = tt
numbered_each T (prefix r π P) i h = (h.0, numbered_each T P (suc i) h.1)
numbered_each T (branch r κ P Q) i h = (numbered_each T P (suc i) h.0, numbered_each T Q (suc i + size P) h.1)

-- its bytes: four for each row ...
four_more : (N : Row) (xs : List ℕ) → length (row_bytes N ++ xs) ≡ 4 + length xs
four_more N xs = length-append (row_bytes N) xs ∙ ap (λ (x : ℕ). x + length xs) (four_each N)

pub order_length : (P : Process) (i : ℕ) → length (in_order i P) ≡ size P * 4
unfolding in_order size
order_length (nil r) i = four_each NIL
order_length (prefix r π P) i = four_more _ (in_order (suc i) P) ∙ omega (arith, order_length P (suc i))
order_length (branch r κ P Q) i =
    let both = length-append (in_order (suc i) P) (in_order (suc i + size P) Q) in
    four_more _ (in_order (suc i) P ++ in_order (suc i + size P) Q) ∙ omega (arith, both, order_length P (suc i), order_length Q (suc i + size P))

at_nil : (i k : ℕ) → At (row_bytes NIL) 0 (row_in (nil i) k)
unfolding row_bytes row_in
at_nil i k = (refl, refl, refl, refl)

-- ... and row k's stand at its place
order_at : (P : Process) (i j k : ℕ) → k ≡ i + j → rows (numbered i P) k ≡ true → At (in_order i P) j (row_in (numbered i P) k)
unfolding rows numbered in_order Distinct
order_at (nil r) i j k h e = let z : j ≡ 0 = omega (arith, eqb-true k i e) in rw z (at_nil i k)
order_at (prefix r π P) i j k h e =
    let N : Row = PREFIX π (suc i) in
    let P' : Process = numbered (suc i) P in
    ⊎_elim
    (λ p. let z : j ≡ 0 = omega (arith, eqb-true k i p) in
    rw (z, eqb-true k i p) (subst (At (row_bytes N ++ in_order (suc i) P) 0) (sym (here_prefix i π P' ∙ ap (PREFIX π) (root_numbered P (suc i)))) (four_first (row_bytes N) (in_order (suc i) P) (four_each N))))
    (λ p.
    let (a, b) = numbers_are P (suc i) k p in
    let z : j ≡ suc (j - 1) = omega arith in
    rw (z, under_prefix i π P' (numbered_distinct (prefix r π P) i).0 k p) (four_later (row_bytes N) (in_order (suc i) P) (four_each N) (row_bytes (row_in P' k)) (j - 1) (order_at P (suc i) (j - 1) k (omega arith) p)))
    (or_true e)
order_at (branch r κ P Q) i j k h e =
    let N : Row = BRANCH κ (suc i) (suc i + size P) in
    let P' : Process = numbered (suc i) P in
    let Q' : Process = numbered (suc i + size P) Q in
    let x : List ℕ = in_order (suc i) P in
    let y : List ℕ = in_order (suc i + size P) Q in
    let d : Distinct (branch i κ P' Q') = numbered_distinct (branch r κ P Q) i in
    ⊎_elim
    (λ p. let z : j ≡ 0 = omega (arith, eqb-true k i p) in
    rw (z, eqb-true k i p) (subst (At (row_bytes N ++ (x ++ y)) 0) (sym (here_branch i κ P' Q' ∙ ap₂ (BRANCH κ) (root_numbered P (suc i)) (root_numbered Q (suc i + size P)))) (four_first (row_bytes N) (x ++ y) (four_each N))))
    (λ p. ⊎_elim
    (λ p.
    let (l, h') = numbers_are P (suc i) k p in
    let z : j ≡ suc (j - 1) = omega arith in
    let u : suc (j - 1) * 4 ≤ length x = omega (arith, order_length P (suc i)) in
    let b : List ℕ = row_bytes (row_in P' k) in
    rw (z, under_left i κ P' Q' d.0 k p) (four_later (row_bytes N) (x ++ y) (four_each N) b (j - 1) (four_left x y b (j - 1) u (order_at P (suc i) (j - 1) k (omega arith) p))))
    (λ p.
    let (l, h') = numbers_are Q (suc i + size P) k p in
    let c : ℕ = j - 1 - size P in
    let z : j ≡ suc (size P + c) = omega arith in
    let b : List ℕ = row_bytes (row_in Q' k) in
    rw (z, under_right i κ P' Q' d.1 k p (apart_sym d.2 k p))
    (four_later (row_bytes N) (x ++ y) (four_each N) b (size P + c) (four_right x y b (size P) c (order_length P (suc i)) (order_at Q (suc i + size P) c k (omega arith) p))))
    (or_true p))
    (or_true e)

-- A TABLE OF THEM HAS THE NUMBERED PROCESS AS ITS ROWS
pub order_tabled : (t : Table) (P : Process) → t.n ≡ size P → t.terms ≡ in_order 0 P → Tabled t (numbered 0 P)
order_tabled t P n b = record {
  distinct = numbered_distinct P 0;
  rises = numbered_rises P 0;
  first = root_numbered P 0;
  within = λ k e. omega (arith, (numbers_are P 0 k e).1);
  all = λ k h. all_numbers P 0 k (omega arith) (omega arith);
  bytes = λ j h. rw b (order_at P 0 j j (omega arith) (all_numbers P 0 j (omega arith) (omega arith)));
}
