-- THE COMPACTED TABLE IS WHAT IS LEFT, RENAMED; it is accepted, and its state fits. Assumes nothing.
use Prim.Native.Nat.{ℕ, ◌*◌, ◌<◌, ◌≤◌}
use mathlib.Core.Path.{◌≡◌, refl, sym, ◌∙◌, ap, ap₂, subst}
use mathlib.Core.Bool.{Bool, true}
use mathlib.Core.Logic.{⊎_elim, by_cases}
use native.Mathlib.Omega.{arith}
use native.Mathlib.Decide.{ℕ_discrete}
use lib.Dec.{eqb, leb}
use lib.ListN.{length}
use borrow.Author.Tests.{leb-true, le-leb, eq-eqb, eqb-false}
use Rattle.laws.specs.Tests.{or}
use Rattle.laws.specs.Listed.{listed}
use Rattle.laws.proofs.Tests.{contra, refuted, cond_cases, or_l, or_r}
use Rattle.laws.proofs.Sums.{count_none, count_upto}
use Rattle.laws.proofs.Ranked.{rank_rises, rank_of, listed_all}
use Rattle.calculus.specs.Process.{Process, nil, prefix, branch, Prefix, act, out, join}
use Rattle.calculus.specs.Places.{sets}
use Rattle.calculus.specs.Rows.{rows, Distinct}
use Rattle.steps.specs.Rows.{PREFIX}
use Rattle.steps.proofs.Tree.{rows_above}
use Rattle.steps.proofs.Marks.{remainder_rows}
use Rattle.sheet.specs.Table.{Table, is_compacted, process_of}
use Rattle.sheet.specs.Rules.{sized, settled, few_links_rule}
use Rattle.sheet.specs.Accepted.{WellFormed}
use Rattle.sheet.proofs.Rows.{PrefixOk, RowOk, term_row, join_ok_law}
use Rattle.sheet.proofs.Accepted.{Meets, single_source, well_formed, compacted_sourced}
use Rattle.layout.specs.Rows.{root, row_in}
use Rattle.layout.specs.Bytes.{row_bytes}
use Rattle.layout.proofs.Renamed.{renamed, renamed_sets, renamed_single}
use Rattle.layout.proofs.Rows.{Rises, Within, root_lowest}
use Rattle.layout.proofs.Renumbered.{Ordered, root_renamed, rows_has, rows_are, distinct_renamed, rises_renamed, row_renamed}
use Rattle.layout.proofs.Left.{Each, term_rises, term_each, remainder_rises, remainder_each, renamed_each, each_map, HoldsIn, each_row}
use Rattle.layout.proofs.Bytes.{At, four_each, row_ranked, laid_length}
use Rattle.layout.proofs.Tabled.{Tabled, tabled_row, tabled_tree, tabled_term, tabled_rule_5, tabled_rule_6, tabled_rule_7}
use Rattle.state.specs.declared.State.{State}
use Rattle.state.specs.State.{with_counts, restart_of}
use Rattle.moves.specs.Steps.{marks_of, nodes, left_in, acts_of}
use Rattle.moves.specs.Fits.{Fits}
use Rattle.moves.proofs.Allowed.{left_single}
use Rattle.moves.proofs.Clear.{clear_said}
use Rattle.moves.proofs.Fits.{counts_said, fresh_fits}
use Rattle.moves.proofs.Demand.{fresh_left}
use Rattle.moves.proofs.Moves.{left_distinct}
use Rattle.compacted.specs.Compacted.{is_kept, rank, kept_row, compacted_terms, compacted_by, compacted, restarted}

-- four bytes for each row that is kept
module _ (t : Table) (s : State) where
  pub compacted_lent : rank t s t.n * 4 ≡ length (compacted_terms t s)
  unfolding rank compacted_terms
  compacted_lent = omega (arith, listed_all (is_kept t s) t.n, laid_length (λ k. row_bytes (kept_row t s k)) (λ k. four_each (kept_row t s k)) (listed (is_kept t s) 0 t.n))

  pub rank_upto : rank t s t.n ≤ t.n
  unfolding rank
  rank_upto = count_upto (is_kept t s) t.n

module _ (t : Table) (w : WellFormed t) (s : State) where
  abbrev W : Process
  W = process_of t

  abbrev P : Process
  P = left_in t s

  abbrev ρ : ℕ → ℕ
  ρ = rank t s

  distinct : Distinct P
  distinct = left_distinct t w s

  rises : Rises P
  rises = remainder_rises (marks_of s) W (term_rises (nodes t) t.n w.tree.kids 0 w.tree.some_row)

  within : Within t.n P
  within k e = (rows_above (nodes t) t.n w.tree.kids 0 w.tree.some_row k (contra (remainder_rows (marks_of s) W k) e)).1

  -- ranks rise, and the first kept row has rank 0
  pub rank_ordered : Ordered ρ P
  unfolding rank is_kept
  rank_ordered i j a b h = rank_rises (rows P) i j a h

  rank_first : ρ (root P) ≡ 0
  unfolding rank is_kept
  rank_first = (count_none (rows P) (root P)).1 (λ k h. refuted (rows P k) (λ e. ⊎_elim (λ (z : k ≡ root P). omega arith) (λ (l : root P < k). omega arith) (root_lowest P rises k e)))

  rank_below : (k : ℕ) → rows P k ≡ true → ρ k < ρ t.n
  unfolding rank is_kept
  rank_below k e = rank_rises (rows P) k t.n e (within k e)

  -- each number below their count is the rank of a kept row ...
  abbrev Ranks : ℕ → Type 0
  Ranks j = (k : ℕ) × (k < t.n) × (rows P k ≡ true) × (ρ k ≡ j)

  ranked : (j : ℕ) → j < ρ t.n → Ranks j
  unfolding rank is_kept
  ranked j h = rank_of (rows P) t.n j h

  -- ... whose bytes stand there
  row_at : (k : ℕ) → k < t.n → rows P k ≡ true → At (compacted_terms t s) (ρ k) (kept_row t s k)
  unfolding rank is_kept compacted_terms
  row_at k h e = row_ranked (λ k. row_bytes (kept_row t s k)) (λ k. four_each (kept_row t s k)) (rows P) t.n k h e

  row_is : (k : ℕ) → rows P k ≡ true → row_in (renamed ρ P) (ρ k) ≡ kept_row t s k
  unfolding kept_row
  row_is k e = row_renamed ρ P distinct (distinct_renamed ρ P rank_ordered distinct) k e

  -- THE ROWS OF THE COMPACTED TABLE ARE THOSE OF WHAT IS LEFT, RENAMED
  tabled : Tabled (compacted t s) (renamed ρ P)
  tabled = record {
    distinct = distinct_renamed ρ P rank_ordered distinct;
    rises = rises_renamed ρ P rank_ordered rises;
    first = root_renamed ρ P ∙ rank_first;
    within = λ j e. let (k, a, b) = rows_are ρ P j e in subst (λ (j : ℕ). j < ρ t.n) b (rank_below k a);
    all = λ j h. let (k, _, a, b) = ranked j h in subst (λ (j : ℕ). rows (renamed ρ P) j ≡ true) b (rows_has ρ P k a);
    bytes = λ j h. let (k, l, a, b) = ranked j h in subst (λ (j : ℕ). At (compacted_terms t s) j (row_in (renamed ρ P) j)) b (subst (At (compacted_terms t s) (ρ k)) (sym (row_is k a)) (row_at k l a));
  }

  -- SO WHAT IS LEFT OF IT, RESTARTED, IS WHAT WAS LEFT, RENAMED
  pub compacted_left : left_in (compacted t s) (restarted t s) ≡ renamed ρ P
  compacted_left = fresh_left (compacted t s) s.mode ∙ tabled_term (compacted t s) (renamed ρ P) tabled

  -- with as many ACT rows
  renamed_acts : (Q : Process) → acts_of (renamed ρ Q) ≡ acts_of Q
  unfolding renamed acts_of
  renamed_acts (nil r) = refl
  renamed_acts (prefix r (act a) Q) = omega (arith, renamed_acts Q)
  renamed_acts (prefix r (out l b) Q) = renamed_acts Q
  renamed_acts (prefix r (join c) Q) = renamed_acts Q
  renamed_acts (branch r κ Q R) = omega (arith, renamed_acts Q, renamed_acts R)

  -- THE STATE IS THE OLD ONE, each row waiting: its counts are right as they are
  pub restarted_is : Fits t s → restarted t s ≡ restart_of s
  restarted_is f =
      let (a, u) = (counts_said t s).0 (f.counts_fit_holds 0 (omega arith) (omega arith)) in
      ap₂ (with_counts (restart_of s)) (ap acts_of compacted_left ∙ (renamed_acts P ∙ sym a)) (sym u)

-- THE COMPACTED TABLE IS ACCEPTED
by_small : (e : ℕ) → leb e 3 ≡ true → leb (compacted_by e) 3 ≡ true
unfolding compacted_by
by_small e h = cond_cases (λ (x : ℕ). leb x 3 ≡ true) (eqb e 0) (λ _. refl) (λ _. cond_cases (λ (x : ℕ). leb x 3 ≡ true) (eqb e 1) (λ _. refl) (λ _. h))

by_compacted : (e : ℕ) → leb e 3 ≡ true → is_compacted (compacted_by e) ≡ true
unfolding compacted_by is_compacted or
by_compacted e h =
    cond_cases (λ (x : ℕ). is_compacted x ≡ true) (eqb e 0) (λ _. refl)
    (λ a. cond_cases (λ (x : ℕ). is_compacted x ≡ true) (eqb e 1) (λ _. refl)
    (λ b. by_cases (ℕ_discrete e 2) (λ z. or_l _ (eq-eqb e 2 z)) (λ z. or_r (eqb e 2) (eq-eqb e 3 (omega (arith, leb-true e 3 h, eqb-false e 0 a, eqb-false e 1 b))))))

module _ (t : Table) (g : Meets t) (s : State) where
  abbrev w : WellFormed t
  w = well_formed t g

  abbrev t' : Table
  t' = compacted t s

  abbrev P' : Process
  P' = renamed (rank t s) (left_in t s)

  abbrev f : Tabled t' P'
  f = tabled t w s

  small : leb t.evaluation 3 ≡ true
  unfolding settled
  small = g.rule_3 16 (omega arith) (omega arith)

  -- what rules 5 and 8 ask of an OUT and of a JOIN
  abbrev Good : Prefix → Type 0
  Good π = PrefixOk t.m t.k π × ((q : ℕ) → π ≡ join q → few_links_rule t.m t.conditions q ≡ true)

  good_row : (i c : ℕ) (π : Prefix) → i < t.n → nodes t i ≡ PREFIX π c → Good π
  unfolding RowOk
  good_row i c π h e = (
    (rw e at (term_row t.terms t.m t.n t.k i (g.rule_5 i (omega arith) h))).0,
    λ q z. (join_ok_law (few_links_rule t.m t.conditions) (nodes t i)).0 (g.rule_8 i (omega arith) h) q c (e ∙ ap (λ (π : Prefix). PREFIX π c) z),
  )

  good : Each Good P'
  good = renamed_each Good (rank t s) (left_in t s) (remainder_each Good (marks_of s) (process_of t) (term_each (nodes t) t.n w.tree.kids Good good_row 0 w.tree.some_row))

  prefixes_ok : Each (PrefixOk t.m t.k) P'
  prefixes_ok = each_map Good (PrefixOk t.m t.k) (λ π x. x.0) P' good

  narrow_row : (j : ℕ) → j < t'.n → (q c : ℕ) → nodes t' j ≡ PREFIX (join q) c → few_links_rule t.m t.conditions q ≡ true
  unfolding HoldsIn
  narrow_row j h q c e = let x : Good (join q) = subst (HoldsIn Good) (sym (tabled_row t' P' f j h) ∙ e) (each_row Good P' good j) in x.1 q refl

  pub compacted_meets : Meets t'
  unfolding sized settled
  compacted_meets = record {
    rule_1 = rw (
      le-leb 1 t'.n (tabled_tree t' P' f).some_row,
      le-leb t'.n 256 (omega (arith, w.few_terms, rank_upto t s)),
      le-leb t.k 256 w.few_conditions,
      le-leb (t'.n * 4) (length (compacted_terms t s)) (omega (arith, compacted_lent t s)),
      le-leb (t.k * 4) (length t.conditions) w.conditions_lent,
    ) refl;
    rule_3 = λ p a b. cond_cases (λ (x : Bool). x ≡ true) (eqb p 16) (λ _. by_small t.evaluation small) (λ _. le-leb t.m 64 w.few_links);
    rule_4 = g.rule_4;
    rule_5 = tabled_rule_5 t' P' f prefixes_ok;
    rule_6 = tabled_rule_6 t' P' f;
    rule_7 = tabled_rule_7 t' P' f prefixes_ok (renamed_single (rank t s) (left_in t s) (left_single t w (single_source t g) s));
    rule_13 = compacted_sourced t' (by_compacted t.evaluation small);
    rule_8 = λ j _ h. (join_ok_law (few_links_rule t.m t.conditions) (nodes t' j)).1 (narrow_row j h);
  }

  -- AND THE STATE FITS
  same_sets : (l : ℕ) → sets (left_in t' (restarted t s)) l ≡ sets (left_in t s) l
  same_sets l = ap (λ (Q : Process). sets Q l) (compacted_left t w s) ∙ renamed_sets (rank t s) (left_in t s) l

  pub compacted_fits : Fits t s → Fits t' (restarted t s)
  compacted_fits fits =
      let tree = tabled_tree t' P' f in
      record {
        marks_fit_holds = (fresh_fits t' s.mode).marks_fit_holds;
        links_fit_holds = fits.links_fit_holds;
        waits_fit_holds = (fresh_fits t' s.mode).waits_fit_holds;
        clear_fit_holds = (clear_said t'.terms t'.n tree.kids tree.once (marks_of (restarted t s)) tree.some_row s.links).1
            (λ l e. (clear_said t.terms t.n w.tree.kids w.tree.once (marks_of s) w.tree.some_row s.links).0 fits.clear_fit_holds l (sym (same_sets l) ∙ e));
        counts_fit_holds = λ _ _ _. (counts_said t' (restarted t s)).1 (refl, refl);
      }
