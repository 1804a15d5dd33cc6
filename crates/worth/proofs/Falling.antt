-- The laws of the falling pass that looks for the lowest unset link reached from a condition row. Assumes nothing.
use Prim.Native.Nat.{ℕ, zero, suc, ◌+◌, ◌-◌, ◌<◌, ◌≤◌}
use mathlib.Core.Path.{◌≡◌, refl, sym, ◌∙◌, ap, ap₂, subst}
use mathlib.Core.Logic.{by_cases, ⊎_elim}
use mathlib.Core.Bool.{Bool, true, false, cond, not, ◌&&◌}
use mathlib.Core.List.{List}
use native.Mathlib.Omega.{arith}
use native.Mathlib.Decide.{ℕ_discrete, dec_lt}
use lib.Dec.{eqb, ltb}
use lib.ListN.{get_or, replicate}
use borrow.Author.Tests.{eq-eqb, ne_eqb, lt-ltb, le-ltb, ltb-true, not-true, not-false}
use Rattle.laws.specs.Tests.{or}
use Rattle.laws.specs.Up.{below}
use Rattle.laws.specs.Lowest.{lowest}
use Rattle.laws.proofs.Tests.{cases, self, not_both, refuted, and_l, and_r, and_false, or_none, or_r, or_twice, or_swap, or_both, or_right}
use Rattle.laws.proofs.Up.{below_in, below_out}
use Rattle.laws.proofs.Lowest.{lowest_is, lowest_none, lowest_below}
use Rattle.calculus.specs.Status.{Links}
use Rattle.conditions.specs.Conditions.{Condition, constant, ConditionRow, FALSE, TRUE, LINK, OP, condition_by, condition, reached, is_set}
use Rattle.conditions.specs.Numbers.{undigit}
use Rattle.conditions.specs.Awaited.{lacks, awaited}
use Rattle.conditions.proofs.Evaluation.{condition_at_law}
use Rattle.conditions.proofs.Numbers.{undigit_unset}
use Rattle.sheet.specs.Table.{condition_row_at}
use Rattle.evaluate.specs.Values.{links_in}
use Rattle.worth.specs.Sets.{placed, in_set, Adds}
use Rattle.worth.specs.Worth.{awaited_at}
use Rattle.worth.specs.Pass.{is_operand, lower_by, lowered}
use Rattle.worth.proofs.Places.{none_in, next_after}

-- a link that is not lower does not count
pub lower_over : (v : Links) (l low : ℕ) → low ≤ l → lower_by v l low ≡ low
unfolding lower_by
lower_over v l low h = rw (le-ltb l low h)

-- one that is counts where its byte is 0
module _ (links : List ℕ) (l low : ℕ) (small : low ≤ 64) (under : l < low) where
  pub lower_unset : get_or links l 0 ≡ 0 → lower_by (links_in links) l low ≡ l
  unfolding lower_by links_in undigit
  lower_unset e = rw (lt-ltb l low under, lt-ltb l 64 (omega arith), e)

  pub lower_set : (get_or links l 0 ≡ 0 → ⊥) → lower_by (links_in links) l low ≡ low
  unfolding lower_by links_in
  lower_set e = rw (lt-ltb l low under, lt-ltb l 64 (omega arith), not-false (is_set (undigit (get_or links l 0))) (sym (undigit_unset (get_or links l 0)) ∙ ne_eqb (get_or links l 0) 0 e))

-- what is left to visit is told by a test of rows, the marks
module _ (rows : ℕ → ConditionRow) where
  -- the condition of an operand, as a row sees it
  abbrev operand : ℕ → ℕ → Condition
  operand i = below (constant false) (condition rows) i

  -- the link is reached from a in_set row below i
  unfoldable pub pending : (ℕ → Bool) → ℕ → ℕ → Bool
  pending M zero l = false
  pending M (suc i) l = or (M i && reached (condition rows i) l) (pending M i l)

  pending_same : (M M' : ℕ → Bool) (i l : ℕ) → ((j : ℕ) → j < i → M j ≡ M' j) → pending M i l ≡ pending M' i l
  unfolding pending
  pending_same M M' zero l h = refl
  pending_same M M' (suc i) l h = ap₂ or (ap (λ (b : Bool). b && reached (condition rows i) l) (h i (omega arith))) (pending_same M M' i l (λ j g. h j (omega arith)))

  pending_none : (i l : ℕ) → pending (λ j. false) i l ≡ false
  unfolding pending or
  pending_none zero l = refl
  pending_none (suc i) l = pending_none i l

  -- rows without a mark are passed over
  pending_skip : (M : ℕ → Bool) (i j l : ℕ) → i ≤ j → ((q : ℕ) → i ≤ q → q < j → M q ≡ false) → pending M j l ≡ pending M i l
  unfolding pending or
  pending_skip M i zero l g h = let e : 0 ≡ i = omega arith in ap (λ (k : ℕ). pending M k l) e
  pending_skip M i (suc j) l g h =
      by_cases (ℕ_discrete (suc j) i)
      (λ e. ap (λ (k : ℕ). pending M k l) e)
      (λ e. ap (λ (b : Bool). or (b && reached (condition rows j) l) (pending M j l)) (h j (omega arith) (omega arith)) ∙ pending_skip M i j l (omega arith) (λ q a b. h q a (omega arith)))

  operand_next : (i a l : ℕ) → (i ≡ a → ⊥) → reached (operand i a) l ≡ reached (operand (suc i) a) l
  operand_next i a l ne =
      by_cases (dec_lt a i)
      (λ h. ap (λ (c : Condition). reached c l) (below_in (constant false) (condition rows) i a h ∙ sym (below_in (constant false) (condition rows) (suc i) a (omega arith))))
      (λ h. ap (λ (c : Condition). reached c l) (below_out (constant false) (condition rows) i a (omega arith) ∙ sym (below_out (constant false) (condition rows) (suc i) a (omega arith))))

  reached_out : (i a l : ℕ) → i ≤ a → reached (operand i a) l ≡ false
  unfolding reached
  reached_out i a l h = rw (below_out (constant false) (condition rows) i a h)

  reached_in : (i a l : ℕ) → a < i → reached (operand i a) l ≡ reached (condition rows a) l
  reached_in i a l h = ap (λ (c : Condition). reached c l) (below_in (constant false) (condition rows) i a h)

  -- one mark more
  abbrev more : (ℕ → Bool) → ℕ → ℕ → Bool
  more M a j = or (M j) (eqb j a)

  pending_more : (M : ℕ → Bool) (a l i : ℕ) → pending (more M a) i l ≡ or (reached (operand i a) l) (pending M i l)
  unfolding pending or
  pending_more M a l zero = rw (reached_out 0 a l (omega arith))
  pending_more M a l (suc i) = by_cases (ℕ_discrete i a) (new (pending_more M a l i)) (old (pending_more M a l i))
    where
      new : pending (more M a) i l ≡ or (reached (operand i a) l) (pending M i l) → i ≡ a → pending (more M a) (suc i) l ≡ or (reached (operand (suc i) a) l) (pending M (suc i) l)
      new ih e =
          ap₂ or (ap (λ (b : Bool). b && reached (condition rows i) l) (or_r (M i) (eq-eqb i a e)))
          (ih ∙ ap (λ (b : Bool). or b (pending M i l)) (reached_out i a l (omega arith)))
          ∙ (or_twice (M i) (reached (condition rows i) l) (pending M i l)
          ∙ ap (λ (b : Bool). or b (pending M (suc i) l)) (ap (λ (j : ℕ). reached (condition rows j) l) e ∙ sym (reached_in (suc i) a l (omega arith))))

      old : pending (more M a) i l ≡ or (reached (operand i a) l) (pending M i l) → (i ≡ a → ⊥) → pending (more M a) (suc i) l ≡ or (reached (operand (suc i) a) l) (pending M (suc i) l)
      old ih e =
          ap₂ or (ap (λ (b : Bool). b && reached (condition rows i) l) (ap (or (M i)) (ne_eqb i a e) ∙ or_none (M i)))
          (ih ∙ ap (λ (b : Bool). or b (pending M i l)) (operand_next i a l e))
          ∙ or_swap (M i && reached (condition rows i) l) (reached (operand (suc i) a) l) (pending M i l)

  -- what a in_set row adds
  pending_marked : (M : ℕ → Bool) (i l : ℕ) → M i ≡ true → pending M (suc i) l ≡ or (reached (condition_by (rows i) (operand i)) l) (pending M i l)
  unfolding pending
  pending_marked M i l e = ap₂ (λ (b : Bool) (c : Condition). or (b && reached c l) (pending M i l)) e (condition_at_law rows i)

  module _ (c : Condition) (v : Links) where
    abbrev unmet : ℕ → Bool
    unmet l = not (is_set (v l))

    -- The pass has come to row i: the lowest so far is a link that the condition lacks, and of the links below it those are lacking that are unset and reached from a in_set row still to come.
    pub record Sought (i : ℕ) (M : ℕ → Bool) (low : ℕ) : Type 0 where
      pub small : low ≤ 64
      pub hit : low < 64 → lacks c v low ≡ true
      pub rest : (l : ℕ) → l < low → lacks c v l ≡ (pending M i l && unmet l)

    -- what is still to come may be told by other marks, and from another row on
    sought_same : (i j : ℕ) (M M' : ℕ → Bool) (low : ℕ) → ((l : ℕ) → l < low → (pending M i l && unmet l) ≡ (pending M' j l && unmet l)) → Sought i M low → Sought j M' low
    sought_same i j M M' low h p = record { small = p.small; hit = p.hit; rest = λ l g. p.rest l g ∙ h l g }

    module _ (i : ℕ) (M : ℕ → Bool) (low : ℕ) (p : Sought (suc i) M low) where
      -- a in_set row: its own link counts, its operands are in_set
      by_row : (N : ConditionRow) → ((l : ℕ) → pending M (suc i) l ≡ or (reached (condition_by N (operand i)) l) (pending M i l)) → Sought i (λ j. or (M j) (is_operand N j)) (lowered N v low)
      unfolding is_operand lowered lower_by condition_by reached or
      by_row FALSE h = sought_same (suc i) i M (λ j. or (M j) false) low (λ l g. ap (λ (b : Bool). b && unmet l) (h l ∙ pending_same M (λ j. or (M j) false) i l (λ j k. sym (or_none (M j))))) p
      by_row TRUE h = sought_same (suc i) i M (λ j. or (M j) false) low (λ l g. ap (λ (b : Bool). b && unmet l) (h l ∙ pending_same M (λ j. or (M j) false) i l (λ j k. sym (or_none (M j))))) p
      by_row (LINK k) h = ⊎_elim lowers keeps (cases (ltb k low && unmet k))
        where
          M' : ℕ → Bool
          M' j = or (M j) false

          as_before : (l : ℕ) → pending M i l ≡ pending M' i l
          as_before l = pending_same M M' i l (λ j g. sym (or_none (M j)))

          -- any other link than k is pending as before
          other : (l : ℕ) → (l ≡ k → ⊥) → pending M (suc i) l ≡ pending M' i l
          other l ne = h l ∙ (ap (λ (b : Bool). or b (pending M i l)) (ne_eqb l k ne) ∙ as_before l)

          lowers : (ltb k low && unmet k) ≡ true → Sought i M' (cond (ltb k low && unmet k) k low)
          lowers e =
              let under : k < low = ltb-true k low (and_l _ _ e) in
              let there : pending M (suc i) k ≡ true = h k ∙ ap (λ (b : Bool). or b (pending M i k)) (self k) in
              rw e (record { small = omega (arith, p.small); hit = λ g. p.rest k under ∙ ap₂ ◌&&◌ there (and_r (ltb k low) _ e); rest = λ l g. p.rest l (omega arith) ∙ ap (λ (b : Bool). b && unmet l) (other l (λ q. omega arith)) })

          keeps : (ltb k low && unmet k) ≡ false → Sought i M' (cond (ltb k low && unmet k) k low)
          keeps e = rw e (sought_same (suc i) i M M' low (λ l g. by_cases (ℕ_discrete l k) (λ q. settled l g q) (λ q. ap (λ (b : Bool). b && unmet l) (other l q))) p)
            where
              settled : (l : ℕ) → l < low → l ≡ k → (pending M (suc i) l && unmet l) ≡ (pending M' i l && unmet l)
              settled l g q =
                  let set : unmet l ≡ false = refuted (unmet l) (λ z. not_both (ap₂ ◌&&◌ (lt-ltb k low (omega arith)) (ap unmet (sym q) ∙ z)) e) in
                  rw set (and_false (pending M (suc i) l) ∙ sym (and_false (pending M' i l)))
      by_row (OP o a b) h =
          sought_same (suc i) i M (λ j. or (M j) (or (eqb j a) (eqb j b))) low
          (λ l g. ap (λ (x : Bool). x && unmet l) (h l ∙ or_both (reached (operand i a) l) (reached (operand i b) l) (pending M i l) ∙ sym (marks l))) p
        where
          marks : (l : ℕ) → pending (λ j. or (M j) (or (eqb j a) (eqb j b))) i l ≡ or (reached (operand i b) l) (or (reached (operand i a) l) (pending M i l))
          marks l = pending_same _ (more (more M a) b) i l (λ j g. sym (or_right (M j) (eqb j a) (eqb j b))) ∙ (pending_more (more M a) b l i ∙ ap (or (reached (operand i b) l)) (pending_more M a l i))

module _ (cs : List ℕ) where
  abbrev condition_rows : ℕ → ConditionRow
  condition_rows = condition_row_at cs

  -- the pass begins at the row that is asked for
  pub sought_none : (row : ℕ) (v : Links) (rows : List ℕ) → row < 256 → Adds (λ r. eqb r row) (replicate 4 0) rows → Sought condition_rows (condition condition_rows row) v (256 - (255 - row)) (in_set rows) 64
  unfolding lacks
  sought_none row v rows h m = record { small = omega arith; hit = λ g. absurd (omega arith); rest = λ l g. ap (λ (b : Bool). b && not (is_set (v l))) (sym (all l)) }
    where
      all : (l : ℕ) → pending condition_rows (in_set rows) (256 - (255 - row)) l ≡ reached (condition condition_rows row) l
      all l =
          let e : 256 - (255 - row) ≡ suc row = omega arith in
          ap (λ (k : ℕ). pending condition_rows (in_set rows) k l) e
          ∙ (pending_same condition_rows (in_set rows) (more condition_rows (λ j. false) row) (suc row) l (λ j g. m.at j (omega arith) ∙ ap (λ (b : Bool). or b (eqb j row)) (none_in j))
          ∙ (pending_more condition_rows (λ j. false) row l (suc row)
          ∙ (ap₂ or (reached_in condition_rows (suc row) row l (omega arith)) (pending_none condition_rows (suc row) l)
          ∙ or_none (reached (condition condition_rows row) l))))

  module _ (c : Condition) (v : Links) where
    -- from a place to the next at which a row stands
    pub sought_next : (rows : List ℕ) (low from at : ℕ) → from ≤ 256 → at ≡ lowest (λ p. not (placed rows p)) from (256 - from) → Sought condition_rows c v (256 - from) (in_set rows) low → Sought condition_rows c v (256 - at) (in_set rows) low
    sought_next rows low from at h e p =
        let a : from ≤ at = next_after rows from at e in
        sought_same condition_rows c v (256 - from) (256 - at) (in_set rows) (in_set rows) low
        (λ l g. ap (λ (b : Bool). b && not (is_set (v l))) (pending_skip condition_rows (in_set rows) (256 - at) (256 - from) l (omega arith) (λ q i j. not-true _ (lowest_below (λ q. not (placed rows q)) from (256 - from) (255 - q) (omega arith) (omega (arith, e))))))
        p

    -- one row
    module _ (rows : List ℕ) (low at : ℕ) (inside : at < 256) (there : placed rows at ≡ true) (p : Sought condition_rows c v (256 - at) (in_set rows) low) where
      pub sought_more : (rows' : List ℕ) → Adds (is_operand (condition_rows (255 - at))) rows rows' → Sought condition_rows c v (256 - (at + 1)) (in_set rows') (lowered (condition_rows (255 - at)) v low)
      sought_more rows' m = subst (λ (k : ℕ). Sought condition_rows c v k (in_set rows') (lowered (condition_rows r) v low)) (let z : 255 - at ≡ 256 - (at + 1) = omega arith in z) visited
        where
          r : ℕ
          r = 255 - at

          is_there : in_set rows r ≡ true
          is_there = let z : 255 - r ≡ at = omega arith in ap (placed rows) z ∙ there

          here : Sought condition_rows c v (suc r) (in_set rows) low
          here = let z : 256 - at ≡ suc r = omega arith in subst (λ (k : ℕ). Sought condition_rows c v k (in_set rows) low) z p

          visited : Sought condition_rows c v r (in_set rows') (lowered (condition_rows r) v low)
          visited =
              sought_same condition_rows c v r r (λ j. or (in_set rows j) (is_operand (condition_rows r) j)) (in_set rows') (lowered (condition_rows r) v low)
              (λ l g. ap (λ (b : Bool). b && not (is_set (v l))) (pending_same condition_rows _ (in_set rows') r l (λ j h. sym (m.at j (omega arith)))))
              (by_row condition_rows c v r (in_set rows) low here (condition_rows r) (λ l. pending_marked condition_rows (in_set rows) r l is_there))

  -- past the last place nothing is to come
  pub sought_end : (row : ℕ) (v : Links) (rows : List ℕ) (low : ℕ) → Sought condition_rows (condition condition_rows row) v 0 (in_set rows) low → low ≡ awaited_at cs row v
  unfolding awaited_at awaited pending
  sought_end row v rows low p =
      by_cases (dec_lt low 64)
      (λ h. sym (lowest_is _ 0 64 low (omega arith) (λ j a b. ap not (nothing j b)) (omega arith) (ap not (p.hit h))))
      (λ h. let e : low ≡ 64 = omega (arith, p.small) in e ∙ sym (lowest_none _ 0 64 (λ j a b. ap not (nothing j (omega arith)))))
    where
      nothing : (l : ℕ) → l < low → lacks (condition condition_rows row) v l ≡ false
      nothing l g = p.rest l g
