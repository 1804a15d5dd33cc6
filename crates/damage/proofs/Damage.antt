-- THE DAMAGE SHEET IS ACCEPTED; activities 1, 2 can run with cleaning, and no plain run has them. Assumes nothing.
use Prim.Native.Nat.{ℕ, ◌+◌, ◌*◌, ◌<◌, ◌≤◌}
use mathlib.Core.Path.{◌≡◌, refl, sym, ◌∙◌, ap, subst}
use mathlib.Core.Bool.{Bool, true, false, not, true≢false}
use mathlib.Core.List.{List, [], ◌∷◌, Memᴰ}
use mathlib.Core.Logic.{◌⊎◌, inl, inr, ⊎_elim}
use native.Mathlib.Omega.{arith}
use lib.Dec.{eqb, ltb}
use lib.ListN.{length}
use borrow.Author.Tests.{leb-true, le-leb, ltb-true}
use Rattle.laws.specs.Tests.{bit}
use Rattle.laws.specs.Checks.{Holds}
use Rattle.laws.proofs.Tests.{bit_small, cond_all, and_l, and_r}
use Rattle.laws.proofs.Listed.{listed_has}
use Rattle.laws.proofs.Sums.{count_none}
use Rattle.laws.proofs.Ranked.{listed_all}
use Rattle.calculus.specs.Process.{Process, Prefix, act, out, join}
use Rattle.calculus.specs.Status.{Value, Unset, False, True, Links, all_unset, with_unset}
use Rattle.calculus.specs.Places.{sets, Single, plain}
use Rattle.calculus.specs.Runs.{trail}
use Rattle.conditions.specs.Conditions.{Condition, constant, condition, reached, Evaluation, Strict, Lazy, value, strict, lazy, all_set}
use Rattle.conditions.specs.Numbers.{links_of, Offends}
use Rattle.conditions.proofs.Numbers.{links_inside}
use Rattle.conditions.proofs.Failure.{assign_among}
use Rattle.steps.specs.Rows.{PREFIX, is_join}
use Rattle.steps.proofs.Rows.{join_of}
use Rattle.steps.proofs.Sources.{sets_source}
use Rattle.sheet.specs.Table.{Table, row_at, condition_row_at, lazy_of, is_compacted, evaluation_of, eval_in, process_of}
use Rattle.sheet.specs.Rules.{sized, settled, wants, few_links_rule, terms}
use Rattle.sheet.specs.Accepted.{WellFormed, HasOut}
use Rattle.sheet.proofs.Rows.{PrefixOk, join_ok_law}
use Rattle.sheet.proofs.Accepted.{Meets, links_below, all_sourced, single_source, well_formed, narrow_joins}
use Rattle.layout.specs.InOrder.{size, numbered}
use Rattle.layout.proofs.Renamed.{renamed, same_run}
use Rattle.layout.proofs.Left.{Each, each_map, HoldsIn, each_row}
use Rattle.layout.proofs.Tabled.{Tabled, tabled_row, tabled_tree, tabled_term, tabled_rule_5, tabled_rule_6, tabled_rule_7}
use Rattle.layout.proofs.InOrder.{unnumbered, numbered_same, numbered_sets, numbered_single, numbered_each, order_tabled}
use Rattle.moves.specs.Steps.{start_of}
use Rattle.moves.specs.Runs.{Run, taken}
use Rattle.moves.proofs.Runs.{from_moves}
use Rattle.moves.proofs.Fits.{fresh_sized}
use Rattle.moves.proofs.Demand.{plain_mode, cleaning_mode, fresh_left, fresh_links, begun}
use Rattle.failure.specs.Failure.{number_at}
use Rattle.verdict.specs.Verdict.{fails_in}
use Rattle.verdict.proofs.Exactly.{number_offends}
use Rattle.damage.specs.Damage.{its_links, offending, named, leaves_unset, rank, damage_process, damage_head, damage_table, condition_at, shown_table, showable}
use Rattle.damage.specs.Activities.{activities_of}
use Rattle.damage.proofs.Reached.{rule_lower, rank_last}
use Rattle.damage.proofs.Runs.{activities, same_activities, scene_cleaning, scene_plain}
use Rattle.damage.proofs.Scene.{links_differ, scene_single, scene_sets, scene_each, scene_size}
use Rattle.damage.proofs.Kept.{terms_length, conditions_length, kept_condition_law, same_value, false_condition, conditions_hold}

-- a condition that is FALSE: its value, and it has no links
constant_false : (e : Evaluation) (v : Links) → value e (constant false) v ≡ False
unfolding value strict lazy all_set
constant_false Strict v = refl
constant_false Lazy v = refl

no_links : (m : ℕ) → length (links_of m (constant false)) ≡ 0
unfolding links_of reached
no_links m = listed_all (reached (constant false)) m ∙ (count_none (reached (constant false)) m).1 (λ k h. refl)

-- what is asked of a JOIN's condition row, and nothing of an ACT or OUT
unfoldable OfJoin : (ℕ → Type 0) → Prefix → Type 0
OfJoin T (act a) = Unit {0}
OfJoin T (out l b) = Unit {0}
OfJoin T (join q) = T q

-- what makes the damage of a condition row be shown
record HasDamage (t : Table) (c : ℕ) : Type 0 where
  inside : c < t.k
  narrow : length (its_links t c) ≤ 8
  fails : fails_in t c ≡ true
  room : (damage_head t c).k ≤ 256

module _ (t : Table) (g : Meets t) (c : ℕ) (s : HasDamage t c) where
  abbrev w : WellFormed t
  w = well_formed t g

  abbrev t' : Table
  t' = damage_table t c

  abbrev ls : List ℕ
  ls = its_links t c

  abbrev v : Links
  v = offending t c

  abbrev l : ℕ
  l = named t c

  abbrev D : Process
  D = damage_process t c

  -- ITS NUMBER MAKES THE CONDITION TRUE, and its named link, false there and made unset, leaves it not true
  offends : Offends (eval_in t c) ls (number_at t.evaluation t.m t.conditions c) l
  unfolding named
  offends = number_offends t c s.fails

  off : v l ≡ False
  unfolding offending
  off = offends.false_there

  holds : eval_in t' (rank t c c) v ≡ True
  unfolding offending
  holds = ap (λ (f : Links → Value). f v) (same_value t g c s.inside) ∙ offends.true_there

  lost : eval_in t' (rank t c c) (with_unset v l) ≡ True → ⊥
  unfolding offending
  lost e = offends.not_true (sym (ap (λ (f : Links → Value). f (with_unset v l)) (same_value t g c s.inside)) ∙ e)

  covers : (k : ℕ) → (v k ≡ Unset) ⊎ Memᴰ k ls
  unfolding offending
  covers = assign_among ls (number_at t.evaluation t.m t.conditions c)

  never : leaves_unset t c ≡ true → (u : Links) → eval_in t' (rank t c t.k) u ≡ False
  never e u = ap (λ (C : Condition). value (evaluation_of t'.evaluation) C u) (false_condition t g c s.inside e) ∙ constant_false (evaluation_of t'.evaluation) u

  below_m : (k : ℕ) → Memᴰ k ls → k < t.m
  below_m = links_inside t.m (condition (condition_row_at t.conditions) c)

  -- THE ROWS OF THE TABLE ARE THOSE OF THE PROCESS, IN ORDER
  tabled : Tabled t' (numbered 0 D)
  unfolding damage_head
  tabled = order_tabled t' D refl refl

  -- a JOIN's condition is the same one, or FALSE
  abbrev SameOrFalse : ℕ → Type 0
  SameOrFalse q = (condition (condition_row_at t'.conditions) q ≡ condition (condition_row_at t.conditions) c) ⊎ (condition (condition_row_at t'.conditions) q ≡ constant false)

  abbrev Good : Prefix → Type 0
  Good π = PrefixOk t.m t'.k π × OfJoin SameOrFalse π

  good : Each Good (numbered 0 D)
  unfolding damage_process leaves_unset damage_head PrefixOk OfJoin
  good = numbered_each Good D 0 (scene_each Good _ _ _ _ _ (λ k m b. (below_m k m, tt)) offends.among (λ a. (tt, tt)) own_join false_join)
    where
      own_join : Good (join (rank t c c))
      own_join = (omega (arith, rank_last t c (rule_lower t.m t.k t.conditions g.rule_4) s.inside), inl (kept_condition_law t g c s.inside))

      false_join : leaves_unset t c ≡ true → Good (join (rank t c t.k))
      false_join e = (rw e (omega arith), inr (false_condition t g c s.inside e))

  good_5 : Each (PrefixOk t.m t'.k) (numbered 0 D)
  good_5 = each_map Good (PrefixOk t.m t'.k) (λ π x. x.0) (numbered 0 D) good

  good_join : (j : ℕ) → j < t'.n → (q d : ℕ) → row_at t'.terms j ≡ PREFIX (join q) d → SameOrFalse q
  unfolding HoldsIn OfJoin
  good_join j h q d e = let x : Good (join q) = subst (HoldsIn Good) (sym (tabled_row t' (numbered 0 D) tabled j h) ∙ e) (each_row Good (numbered 0 D) good j) in x.1

  its_process : process_of t' ≡ numbered 0 D
  its_process = tabled_term t' (numbered 0 D) tabled

  -- rule 8: it has at most 8 links ...
  few_links : (q : ℕ) → SameOrFalse q → few_links_rule t.m t'.conditions q ≡ true
  unfolding few_links_rule
  few_links q = ⊎_elim (λ e. rw e (le-leb (length ls) 8 s.narrow)) (λ e. rw e (le-leb (length (links_of t.m (constant false))) 8 (omega (arith, no_links t.m))))

  -- rule 13: ... and each has its OUT row
  has_out : (k : ℕ) → Memᴰ k ls → HasOut t' k
  unfolding damage_process
  has_out k m =
      let f = tabled_tree t' (numbered 0 D) tabled in
      let e : sets (process_of t') k ≡ true = ap (λ (P : Process). sets P k) its_process ∙ (numbered_sets D 0 k ∙ scene_sets _ _ _ _ _ off k m) in
      let (j, _, h, o) = sets_source (row_at t'.terms) t'.n f.kids f.once k 0 f.some_row e in
      (j, h, o)

  wanted : (q k : ℕ) → SameOrFalse q → wants t' q k ≡ true → Memᴰ k ls
  unfolding wants links_of reached
  wanted q k o h =
      let r : reached (condition (condition_row_at t'.conditions) q) k ≡ true = and_r (not (is_compacted t'.evaluation)) _ h in
      ⊎_elim
      (λ e. let r' : reached (condition (condition_row_at t.conditions) c) k ≡ true = sym (ap (λ (C : Condition). reached C k) e) ∙ r in
      listed_has (reached (condition (condition_row_at t.conditions) c)) 0 t.m k (omega arith) (omega (arith, links_below t.m t.k t.conditions g.rule_4 c k s.inside r')) r')
      (λ e. absurd (true≢false (sym (sym (ap (λ (C : Condition). reached C k) e) ∙ r))))
      o

  five : Holds (terms t.m t'.n t'.k t'.terms)
  unfolding damage_head
  five = tabled_rule_5 t' (numbered 0 D) tabled good_5

  few_rows : size D ≤ 256
  unfolding damage_process
  few_rows = let few : size D ≤ 2 * length ls + 10 = scene_size _ _ _ _ _ in omega (arith, s.narrow)

  one_each : Single (numbered 0 D)
  unfolding damage_process
  one_each = numbered_single D 0 (scene_single _ _ _ _ _ off (links_differ t.m (condition (condition_row_at t.conditions) c)))

  accepted : Meets t'
  unfolding damage_head sized settled
  accepted = record {
    rule_1 = rw (
      le-leb 1 (size D) (tabled_tree t' (numbered 0 D) tabled).some_row,
      le-leb (size D) 256 few_rows,
      le-leb t'.k 256 s.room,
      le-leb (t'.n * 4) (length t'.terms) (omega (arith, terms_length t c)),
      le-leb (t'.k * 4) (length t'.conditions) (omega (arith, conditions_length t c)),
    ) refl;
    rule_3 = λ p a b. cond_all (λ (x : Bool). x ≡ true) (eqb p 16) (le-leb (bit (lazy_of t.evaluation)) 3 (omega (arith, bit_small (lazy_of t.evaluation)))) (le-leb t.m 64 w.few_links);
    rule_4 = conditions_hold t g c s.inside;
    rule_5 = five;
    rule_6 = tabled_rule_6 t' (numbered 0 D) tabled;
    rule_7 = tabled_rule_7 t' (numbered 0 D) tabled good_5 one_each;
    rule_13 = (all_sourced t' five (conditions_hold t g c s.inside)).1 (λ i q d k h e o. has_out k (wanted q k (good_join i h q d e) o));
    rule_8 = λ j _ h. (join_ok_law (few_links_rule t.m t'.conditions) (row_at t'.terms j)).1 (λ q d e. few_links q (good_join j h q d e));
  }

  -- A RUN OF THE TABLE IS ONE OF THE PROCESS, but for its rows
  abbrev w' : WellFormed t'
  w' = well_formed t' accepted

  same_process : renamed unnumbered (process_of t') ≡ renamed unnumbered D
  same_process = ap (renamed unnumbered) its_process ∙ numbered_same D 0

  with_cleaning : (H : Run t' (start_of t' 1)) × (activities_of (taken H) ≡ 1 ∷ 2 ∷ [])
  unfolding damage_process leaves_unset
  with_cleaning =
      let (R, e) = scene_cleaning (eval_in t') _ _ _ _ _ covers off holds lost never in
      let (S, p) = same_run unnumbered (eval_in t') R (process_of t') all_unset (sym same_process) refl in
      let (H, a, _, _) = from_moves t' w' (single_source t' accepted) S (start_of t' 1) (fresh_sized t' 1) cleaning_mode (fresh_left t' 1) (fresh_links t' 1) in
      (H, ap activities_of a ∙ (same_activities unnumbered (trail (eval_in t') S) (trail (eval_in t') R) p ∙ e))

  without : (G : Run t' (start_of t' 0)) → (activities_of (taken G) ≡ []) ⊎ (activities_of (taken G) ≡ 1 ∷ [])
  unfolding damage_process leaves_unset
  without G =
      let (S, a, _, _) = begun t' w' (single_source t' accepted) 0 plain plain_mode G in
      let (R, p) = same_run unnumbered (eval_in t') S D all_unset same_process refl in
      let q : activities_of (taken G) ≡ activities (trail (eval_in t') R) = ap activities_of (sym a) ∙ sym (same_activities unnumbered (trail (eval_in t') R) (trail (eval_in t') S) p) in
      ⊎_elim (λ e. inl (q ∙ e)) (λ e. inr (q ∙ e)) (scene_plain (eval_in t') _ _ _ _ _ covers off holds lost never R)

-- the condition of a JOIN row is one of the table's
pub join_inside : (t : Table) → WellFormed t → (row : ℕ) → row < t.n → is_join (row_at t.terms row) ≡ true → condition_at t row < t.k
join_inside t w row h is = let (d, e) = join_of (row_at t.terms row) is in w.joins row (condition_at t row) d h e

-- "FOR A FAILING JOIN ROW", of an accepted table
module _ (t : Table) (g : Meets t) (row : ℕ) (row_fails : showable t row ≡ true) where
  abbrev q : ℕ
  q = condition_at t row

  abbrev z : Table
  z = shown_table t row

  shown : HasDamage t q
  unfolding showable
  shown =
      let a = and_r (ltb row t.n) _ row_fails in
      let b = and_r (is_join (row_at t.terms row)) _ a in
      let h : row < t.n = ltb-true row t.n (and_l _ _ row_fails) in
      let (d, e) = join_of (row_at t.terms row) (and_l _ _ a) in
      record { inside = join_inside t (well_formed t g) row h (and_l _ _ a); narrow = narrow_joins t g row q d h e; fails = and_l _ _ b; room = leb-true (damage_head t q).k 256 (and_r (fails_in t q) _ b) }

  pub shown_inside : q < t.k
  shown_inside = shown.inside

  -- "Prove that the sheet is accepted, ...
  pub shown_meets : Meets z
  shown_meets = accepted t g q shown

  -- ... that activities 1, 2 in that order can run with cleaning, ...
  pub runs_with_cleaning : (H : Run z (start_of z 1)) × (activities_of (taken H) ≡ 1 ∷ 2 ∷ [])
  runs_with_cleaning = with_cleaning t g q shown

  -- ... and that no plain run has them": a plain run has none, or 1
  pub never_plain : (G : Run z (start_of z 0)) → (activities_of (taken G) ≡ []) ⊎ (activities_of (taken G) ≡ 1 ∷ [])
  never_plain = without t g q shown
