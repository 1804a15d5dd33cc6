-- Two steps on the two sides of a flow, by rows: where no row stands twice, both orders leave the same marks, and the places of two rows that stand below a FLOW row on two sides lie on the two sides of a flow. Assumes nothing.
use Prim.Native.Nat.{ℕ, ◌<◌}
use mathlib.Core.Path.{◌≡◌, refl, sym, ◌∙◌, ap, subst, fun_ext}
use mathlib.Core.Bool.{Bool, true, false, cond, ◌&&◌, not}
use mathlib.Core.Logic.{◌⊎◌, inl, inr, ⊎_elim}
use native.Mathlib.Omega.{arith}
use lib.Dec.{eqb}
use borrow.Author.Tests.{eqb-true}
use Rattle.laws.specs.Tests.{Apart}
use Rattle.laws.proofs.Tests.{cases, not_both, contra, apart_sym}
use Rattle.calculus.specs.Process.{Process, nil, prefix, branch, Prefix, Branching, pick, flow}
use Rattle.calculus.specs.Places.{Place, row, Turn, decides, after}
use Rattle.calculus.specs.Rows.{rows, Distinct}
use Rattle.calculus.proofs.Rows.{row_in, rows_after}
use Rattle.calculus.proofs.Beside.{Beside, sided, kept, still, do_if, orders}
use Rattle.steps.specs.Rows.{Row, NIL, PREFIX, BRANCH, term, Kids, Child, Once}
use Rattle.steps.specs.Marks.{Marks, Stand, waits, passed, dropped, stand, Open, both, left, right, open_branches, after_mark, after_taken, mark, done_mark, marked}
use Rattle.steps.proofs.Tree.{row_induction, rows_cases, rows_above, rows_trans, child_in, siblings}
use Rattle.steps.proofs.Marks.{mark_other, marked_out, remainder_rows}
use Rattle.steps.proofs.Remainder.{remainder_by, remainder_of, remainder_at}

-- THE MARKS after the step at x and then the one at y
abbrev pub marks_twice : (t u : Turn) (P : Process) (x y : Place P) → Beside P x y → Marks → Marks
marks_twice t u P x y b μ = marked u (after t P x) (still t P x y b) (marked t P x μ)

-- the new mark of a row depends on no other row's
abbrev Local : (Marks → Marks) → Type 0
Local f = (μ ν : Marks) (k : ℕ) → μ k ≡ ν k → f μ k ≡ f ν k

mark_local : (r a : ℕ) → Local (mark r a)
mark_local r a μ ν k e = ap (cond (eqb k r) a) e

do_if_local : (c : Bool) (f : Marks → Marks) → Local f → Local (do_if c f)
do_if_local true f l μ ν k e = l μ ν k e
do_if_local false f l μ ν k e = e

marked_local : (t : Turn) (P : Process) (x : Place P) → Local (marked t P x)
unfolding marked
marked_local t (nil r) x μ ν k e = e
marked_local t (prefix r π P) x μ ν k e = mark_local r (done_mark t) μ ν k e
marked_local t (branch r κ P Q) (inl x) μ ν k e = do_if_local (decides t κ) (mark r 2) (mark_local r 2) (marked t P x μ) (marked t P x ν) k (marked_local t P x μ ν k e)
marked_local t (branch r κ P Q) (inr x) μ ν k e = do_if_local (decides t κ) (mark r 3) (mark_local r 3) (marked t Q x μ) (marked t Q x ν) k (marked_local t Q x μ ν k e)

-- two changes of which each row sees one alone may come in either order
swap : (f g : Marks → Marks) → Local f → Local g → ((k : ℕ) → ((μ : Marks) → f μ k ≡ μ k) ⊎ ((μ : Marks) → g μ k ≡ μ k)) → (μ : Marks) → g (f μ) ≡ f (g μ)
swap f g lf lg h μ = fun_ext (λ k. ⊎_elim (λ p. lg (f μ) μ k (p μ) ∙ sym (p (g μ))) (λ p. p (f μ) ∙ lf μ (g μ) k (sym (p μ))) (h k))

mark_apart : (u : Turn) (A : Process) (z : Place A) (r a : ℕ) → rows A r ≡ false → (μ : Marks) → marked u A z (mark r a μ) ≡ mark r a (marked u A z μ)
mark_apart u A z r a h = swap (mark r a) (marked u A z) (mark_local r a) (marked_local u A z) (λ k. ⊎_elim (λ e. inr (λ μ. marked_out u A z μ k (ap (rows A) (eqb-true k r e) ∙ h))) (λ e. inl (λ μ. mark_other r a μ k e)) (cases (eqb k r)))

apart_marks : (t u : Turn) (P Q : Process) (x : Place P) (y : Place Q) → Apart (rows P) (rows Q) → (μ : Marks) → marked u Q y (marked t P x μ) ≡ marked t P x (marked u Q y μ)
apart_marks t u P Q x y h = swap (marked t P x) (marked u Q y) (marked_local t P x) (marked_local u Q y) (λ k. ⊎_elim (λ e. inr (λ μ. marked_out u Q y μ k (h k e))) (λ e. inl (λ μ. marked_out t P x μ k e)) (cases (rows P k)))

-- the second step on one side, where the first has decided the branching or not (`c`)
kept_marks : (c s : Bool) (r : ℕ) (κ : Branching) (u : Turn) (A Q : Process) (z : Place A) (μ : Marks) → marked u (cond c A (sided s r κ A Q)) (kept c s r κ A Q z) μ ≡ do_if (not c && decides u κ) (mark r (cond s 3 2)) (marked u A z μ)
unfolding marked kept
kept_marks true s r κ u A Q z μ = refl
kept_marks false false r κ u A Q z μ = refl
kept_marks false true r κ u A Q z μ = refl

module _ (t u : Turn) (μ : Marks) where
  one_side : (r : ℕ) (κ : Branching) (s : Bool) (P Q : Process) (x y : Place P) (b : Beside P x y) (b' : Beside P y x) → rows P r ≡ false → marks_twice t u P x y b μ ≡ marks_twice u t P y x b' μ
      → marked u (cond (decides t κ) (after t P x) (sided s r κ (after t P x) Q)) (kept (decides t κ) s r κ (after t P x) Q (still t P x y b)) (do_if (decides t κ) (mark r (cond s 3 2)) (marked t P x μ))
      ≡ marked t (cond (decides u κ) (after u P y) (sided s r κ (after u P y) Q)) (kept (decides u κ) s r κ (after u P y) Q (still u P y x b')) (do_if (decides u κ) (mark r (cond s 3 2)) (marked u P y μ))
  one_side r κ s P Q x y b b' h ih =
      kept_marks (decides t κ) s r κ u (after t P x) Q (still t P x y b) _ ∙
      (orders (decides t κ) (decides u κ) (mark r (cond s 3 2)) (marked u (after t P x) (still t P x y b)) (marked t (after u P y) (still u P y x b'))
      (mark_apart u (after t P x) (still t P x y b) r (cond s 3 2) (rows_after t P x r h))
      (mark_apart t (after u P y) (still u P y x b') r (cond s 3 2) (rows_after u P y r h)) ih ∙
      sym (kept_marks (decides u κ) s r κ t (after u P y) Q (still u P y x b') _))

  pub same_marks : (P : Process) (x y : Place P) (b : Beside P x y) (b' : Beside P y x) → Distinct P → marks_twice t u P x y b μ ≡ marks_twice u t P y x b' μ
  unfolding marked after still Distinct decides
  same_marks (nil r) x y b b' d = absurd x
  same_marks (prefix r π P) x y b b' d = absurd b
  same_marks (branch r κ P Q) (inl x) (inl y) b b' d = one_side r κ false P Q x y b b' d.0 (same_marks P x y b b' d.3)
  same_marks (branch r κ P Q) (inr x) (inr y) b b' d = one_side r κ true Q P x y b b' d.1 (same_marks Q x y b b' d.4)
  same_marks (branch r pick P Q) (inl x) (inr y) b b' d = absurd b
  same_marks (branch r pick P Q) (inr x) (inl y) b b' d = absurd b
  same_marks (branch r flow P Q) (inl x) (inr y) b b' d = apart_marks t u P Q x y d.2 μ
  same_marks (branch r flow P Q) (inr x) (inl y) b b' d = apart_marks t u Q P x y (apart_sym d.2) μ

-- THE ROWS: the places of two rows that stand below a FLOW, on two sides, lie on the two sides of a flow.
module _ (node : ℕ → Row) (n : ℕ) (kids : (i : ℕ) → i < n → Kids i n (node i)) (once : Once node n) (μ : Marks) (i j : ℕ) where
  abbrev T : ℕ → Process
  T = term node n

  abbrev R : ℕ → Process
  R = remainder_of node n μ

  abbrev AreBeside : Process → Type 0
  AreBeside P = (x y : Place P) → row P x ≡ i → row P y ≡ j → Beside P x y

  -- the row of a place of what is left of a row's process is one of that process
  there : (c k : ℕ) (x : Place (R c)) → row (R c) x ≡ k → rows (T c) k ≡ true
  there c k x e = contra (remainder_rows μ (T c) k) (subst (λ (k : ℕ). rows (R c) k ≡ true) e (row_in (R c) x))

  -- at the flow: no child has both rows
  at_flow : (f a b : ℕ) → (rows (T a) i ≡ true → rows (T a) j ≡ false) → (rows (T b) i ≡ true → rows (T b) j ≡ false) → AreBeside (branch f flow (R a) (R b))
  unfolding row
  at_flow f a b p q (inl x) (inl y) e g = absurd (not_both (there a j y g) (p (there a i x e)))
  at_flow f a b p q (inr x) (inr y) e g = absurd (not_both (there b j y g) (q (there b i x e)))
  at_flow f a b p q (inl x) (inr y) e g = tt
  at_flow f a b p q (inr x) (inl y) e g = tt

  -- above it: one child has both
  in_left : (r p q : ℕ) (κ : Branching) → rows (T q) i ≡ false → rows (T q) j ≡ false → AreBeside (R p) → (o : Open) → AreBeside (after_taken o r κ (R p) (R q))
  unfolding row
  in_left r p q κ h g ih both (inl x) (inl y) a b = ih x y a b
  in_left r p q κ h g ih both (inl x) (inr y) a b = absurd (not_both (there q j y b) g)
  in_left r p q κ h g ih both (inr x) y a b = absurd (not_both (there q i x a) h)
  in_left r p q κ h g ih left x y a b = ih x y a b
  in_left r p q κ h g ih right x y a b = absurd (not_both (there q i x a) h)

  in_right : (r p q : ℕ) (κ : Branching) → rows (T p) i ≡ false → rows (T p) j ≡ false → AreBeside (R q) → (o : Open) → AreBeside (after_taken o r κ (R p) (R q))
  unfolding row
  in_right r p q κ h g ih both (inr x) (inr y) a b = ih x y a b
  in_right r p q κ h g ih both (inr x) (inl y) a b = absurd (not_both (there p j y b) g)
  in_right r p q κ h g ih both (inl x) y a b = absurd (not_both (there p i x a) h)
  in_right r p q κ h g ih left x y a b = absurd (not_both (there p i x a) h)
  in_right r p q κ h g ih right x y a b = ih x y a b

  in_only : (r c : ℕ) (π : Prefix) → r < i → AreBeside (R c) → (s : Stand) → AreBeside (after_mark s r π (R c))
  unfolding row
  in_only r c π h ih waits x y a b = absurd (let z : ⊥ = omega arith in z)
  in_only r c π h ih passed x y a b = ih x y a b
  in_only r c π h ih dropped x y a b = absurd x

  module _ (k : ℕ) (h : k < n) where
    apart : (κ : Branching) (a b : ℕ) → node k ≡ BRANCH κ a b → Kids k n (BRANCH κ a b) → Apart (rows (T a)) (rows (T b))
    unfolding Kids Child
    apart κ a b e kid = siblings node n kids once k a b h kid.0 kid.1 (rw e refl) (rw e refl)

    above_by : (N : Row) → node k ≡ N → Kids k n N → (s : Bool) (c : ℕ) → Child N s c → rows (T c) i ≡ true → rows (T c) j ≡ true → AreBeside (R c) → AreBeside (remainder_by k N (μ k) R)
    unfolding remainder_by Kids Child
    above_by NIL e kid s c z p q ih = absurd z
    above_by (PREFIX π d) e kid false c z p q ih = in_only k d π (omega (arith, (rows_above node n kids d kid.1 i (rw z p)).0, kid.0)) (rw z ih) (stand (μ k))
    above_by (PREFIX π d) e kid true c z p q ih = absurd z
    above_by (BRANCH κ a b) e kid false c z p q ih = let g = apart κ a b e kid in in_left k a b κ (g i (rw z p)) (g j (rw z q)) (rw z ih) (open_branches κ (μ k))
    above_by (BRANCH κ a b) e kid true c z p q ih = let g = apart_sym (apart κ a b e kid) in in_right k a b κ (g i (rw z p)) (g j (rw z q)) (rw z ih) (open_branches κ (μ k))

    flow_by : (a b : ℕ) → node k ≡ BRANCH flow a b → Kids k n (BRANCH flow a b) → (s s' : Bool) (c c' : ℕ) → (s ≡ s' → ⊥) → Child (BRANCH flow a b) s c → Child (BRANCH flow a b) s' c' → rows (T c) i ≡ true → rows (T c') j ≡ true
        → AreBeside (branch k flow (R a) (R b))
    unfolding Child
    flow_by a b e kid false false c c' u z z' p q = absurd (u refl)
    flow_by a b e kid true true c c' u z z' p q = absurd (u refl)
    flow_by a b e kid false true c c' u z z' p q = let g = apart flow a b e kid in at_flow k a b (λ _. apart_sym g j (rw z' q)) (λ y. absurd (not_both y (g i (rw z p))))
    flow_by a b e kid true false c c' u z z' p q = let g = apart flow a b e kid in at_flow k a b (λ y. absurd (not_both y (apart_sym g i (rw z p)))) (λ _. g j (rw z' q))

  module _ (f a b : ℕ) (h : f < n) (e : node f ≡ BRANCH flow a b) (s s' : Bool) (c c' : ℕ) (u : s ≡ s' → ⊥) (z : Child (node f) s c) (z' : Child (node f) s' c') (p : rows (T c) i ≡ true) (q : rows (T c') j ≡ true) where
    at_own : AreBeside (R f)
    unfolding remainder_by open_branches
    at_own =
        subst AreBeside (sym (remainder_at node n μ kids f h ∙ ap (λ (N : Row). remainder_by f N (μ f) R) e))
        (flow_by f h a b e (subst (Kids f n) e (kids f h)) s s' c c' u (subst (λ (N : Row). Child N s c) e z) (subst (λ (N : Row). Child N s' c') e z') p q)

    pub flow_sides : (k : ℕ) → k < n → rows (T k) f ≡ true → AreBeside (R k)
    flow_sides = row_induction node n kids (λ k. rows (T k) f ≡ true → AreBeside (R k)) (λ k g ih y.
        ⊎_elim
        (λ w. subst (λ (k : ℕ). AreBeside (R k)) w at_own)
        (λ (s'', d, z'', v, l, x).
        let below-i = rows_trans node n kids i f d l x (child_in node n kids f i c h s z p) in
        let below-j = rows_trans node n kids j f d l x (child_in node n kids f j c' h s' z' q) in
        subst AreBeside (sym (remainder_at node n μ kids k g)) (above_by k g (node k) refl (kids k g) s'' d z'' below-i below-j (ih d v l x)))
        (rows_cases node n kids k f g y))
