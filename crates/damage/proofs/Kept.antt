-- THE HEAD AND THE CONDITION ROWS OF THE DAMAGE SHEET: it is evaluated as the sheet judged; the rows that are kept are the same condition, FALSE stands behind them, and rule 4 holds. Assumes nothing.
use Prim.Native.Nat.{ℕ, ◌+◌, ◌*◌, ◌<◌, ◌≤◌}
use mathlib.Core.Path.{◌≡◌, refl, sym, ◌∙◌, ap, ap₂, subst}
use mathlib.Core.Bool.{Bool, true, false, cond}
use mathlib.Core.List.{List, [], ◌++◌}
use mathlib.Core.Logic.{by_cases}
use native.Mathlib.Omega.{arith}
use native.Mathlib.Decide.{dec_lt}
use lib.ListN.{length, length-append}
use lib.Seq.{take_all}
use Rattle.laws.specs.Tests.{or, bit}
use Rattle.laws.specs.Listed.{listed}
use Rattle.laws.specs.Up.{below}
use Rattle.laws.specs.Checks.{Holds}
use Rattle.laws.proofs.Ranked.{rank_rises, rank_of, listed_all}
use Rattle.conditions.specs.Conditions.{Condition, constant, ConditionRow, FALSE, TRUE, LINK, OP, condition_by, condition, Strict, Lazy, value}
use Rattle.conditions.proofs.Evaluation.{condition_at_law}
use Rattle.sheet.specs.Table.{Table, cut, condition_row_at, lazy_of, is_compacted, evaluation_of, eval_in}
use Rattle.sheet.specs.Rules.{condition_ok, conditions}
use Rattle.sheet.proofs.Rows.{ConditionRowOk, condition_row}
use Rattle.sheet.proofs.Accepted.{Meets}
use Rattle.layout.specs.Bytes.{condition_bytes}
use Rattle.layout.specs.InOrder.{in_order}
use Rattle.layout.proofs.Bytes.{AtCondition, at_condition, at_condition_ok, four_each_condition, four_left, four_right, row_ranked, laid_length}
use Rattle.layout.proofs.InOrder.{order_length}
use Rattle.damage.specs.Reached.{reaches_row, renumbered_condition, LowerTo}
use Rattle.damage.specs.Damage.{leaves_unset, is_reached, rank, kept_condition, kept_conditions, damage_conditions, damage_process, damage_head, damage_table}
use Rattle.damage.proofs.Reached.{reaches_itself, reaches_left, reaches_right, reaches_trans, same_condition, rule_lower, reached_under}

module _ (t : Table) (c : ℕ) where
  -- "Evaluation is strict or lazy as in the sheet judged, never compacted"; "The link count stays"
  pub as_judged : (lazy_of (damage_head t c).evaluation ≡ lazy_of t.evaluation) × (is_compacted (damage_head t c).evaluation ≡ false) × ((damage_head t c).m ≡ t.m)
  unfolding damage_head lazy_of is_compacted or
  as_judged = at (lazy_of t.evaluation)
    where
      at : (b : Bool) → (lazy_of (bit b) ≡ b) × (is_compacted (bit b) ≡ false) × (t.m ≡ t.m)
      at true = (refl, refl, refl)
      at false = (refl, refl, refl)

  -- four bytes for each condition row
  kept_length : length (kept_conditions t c) ≡ rank t c t.k * 4
  unfolding kept_conditions rank
  kept_length =
      laid_length (λ i. condition_bytes (kept_condition t c i)) (λ i. four_each_condition (kept_condition t c i)) (listed (is_reached t c) 0 t.k) ∙
      ap (λ (x : ℕ). x * 4) (listed_all (is_reached t c) t.k)

  added_length : (N : ConditionRow) (b : Bool) → length (cond b (condition_bytes N) []) ≡ bit b * 4
  added_length N true = four_each_condition N
  added_length N false = refl

  pub conditions_length : length (damage_conditions t c) ≡ (damage_head t c).k * 4
  unfolding damage_conditions damage_head
  conditions_length = length-append (kept_conditions t c) _ ∙ (ap₂ ◌+◌ kept_length (added_length _ (leaves_unset t c)) ∙ omega arith)

  -- ... and for each term row; so nothing lies beyond them
  pub terms_length : length (in_order 0 (damage_process t c)) ≡ (damage_head t c).n * 4
  unfolding damage_head
  terms_length = order_length (damage_process t c) 0

  pub damage_whole : cut (damage_table t c) ≡ damage_table t c
  damage_whole = rw (
    take_all (4 * (damage_head t c).n) (in_order 0 (damage_process t c)) (omega (arith, terms_length)),
    take_all (4 * (damage_head t c).k) (damage_conditions t c) (omega (arith, conditions_length)),
  ) refl

module _ (t : Table) (g : Meets t) (c : ℕ) (inside : c < t.k) where
  abbrev node : ℕ → ConditionRow
  node = condition_row_at t.conditions

  abbrev ρ : ℕ → ℕ
  ρ = rank t c

  abbrev cs : List ℕ
  cs = damage_conditions t c

  lower : LowerTo t.conditions t.k
  lower = rule_lower t.m t.k t.conditions g.rule_4

  -- THE ROWS THAT ARE KEPT, and those that they reach, which are kept too
  below_k : (i : ℕ) → is_reached t c i ≡ true → i < t.k
  below_k i e = omega (arith, reached_under t c lower inside i e)

  onwards : (k : ℕ) → is_reached t c k ≡ true → (j : ℕ) → reaches_row node k j ≡ true → is_reached t c j ≡ true
  unfolding is_reached
  onwards k e j r = reaches_trans node t.k lower j k c inside e r

  rises : (i j : ℕ) → is_reached t c i ≡ true → i < j → ρ i < ρ j
  unfolding rank
  rises = rank_rises (is_reached t c)

  ranked : (j : ℕ) → j < ρ t.k → (i : ℕ) × (i < t.k) × (is_reached t c i ≡ true) × (ρ i ≡ j)
  unfolding rank
  ranked = rank_of (is_reached t c) t.k

  -- their bytes, and FALSE's behind them
  kept_at : (i : ℕ) → is_reached t c i ≡ true → AtCondition cs (ρ i) (kept_condition t c i)
  unfolding damage_conditions kept_conditions rank
  kept_at i e =
      four_left (kept_conditions t c) _ (condition_bytes (kept_condition t c i)) (ρ i)
      (omega (arith, kept_length t c, rises i t.k e (below_k i e)))
      (row_ranked (λ i. condition_bytes (kept_condition t c i)) (λ i. four_each_condition (kept_condition t c i)) (is_reached t c) t.k i (below_k i e) e)

  false_at : leaves_unset t c ≡ true → AtCondition cs (ρ t.k) FALSE
  unfolding damage_conditions
  false_at e =
      let z : ρ t.k + 0 ≡ ρ t.k = omega arith in
      rw e (subst (λ (j : ℕ). AtCondition (kept_conditions t c ++ condition_bytes FALSE) j FALSE) z
      (four_right (kept_conditions t c) (condition_bytes FALSE) (condition_bytes FALSE) (ρ t.k) 0 (kept_length t c) (refl, refl, refl, refl)))

  -- THE SAME CONDITION
  pub kept_condition_law : condition (condition_row_at cs) (ρ c) ≡ condition node c
  unfolding is_reached kept_condition
  kept_condition_law =
      same_condition node t.k lower c ρ (condition_row_at cs) rises
      (λ i e. at_condition cs (ρ i) (kept_condition t c i) (kept_at i e)) inside

  pub same_value : eval_in (damage_table t c) (ρ c) ≡ eval_in t c
  unfolding evaluation_of
  same_value = ap₂ (λ (b : Bool) (C : Condition). value (cond b Lazy Strict) C) (as_judged t c).0 kept_condition_law

  pub false_condition : leaves_unset t c ≡ true → condition (condition_row_at cs) (ρ t.k) ≡ constant false
  unfolding condition_by
  false_condition e =
      condition_at_law (condition_row_at cs) (ρ t.k) ∙
      ap (λ (N : ConditionRow). condition_by N (below (constant false) (condition (condition_row_at cs)) (ρ t.k))) (at_condition cs (ρ t.k) FALSE (false_at e))

  -- rule 4: each row is a kept one, or FALSE
  row_renumbered : (k : ℕ) → is_reached t c k ≡ true → (N : ConditionRow) → node k ≡ N → ConditionRowOk t.m k N → ConditionRowOk t.m (ρ k) (renumbered_condition ρ N)
  unfolding ConditionRowOk renumbered_condition
  row_renumbered k e FALSE p h = tt
  row_renumbered k e TRUE p h = tt
  row_renumbered k e (LINK l) p h = h
  row_renumbered k e (OP o a b) p h = (
    rises a k (onwards k e a (reaches_left node k a b o p h a (reaches_itself node a))) h.0,
    rises b k (onwards k e b (reaches_right node k a b o p h b (reaches_itself node b))) h.1,
  )

  kept_ok : (k : ℕ) → is_reached t c k ≡ true → condition_ok cs t.m (ρ k) ≡ true
  unfolding kept_condition
  kept_ok k e = at_condition_ok cs t.m (ρ k) (kept_condition t c k) (kept_at k e) (row_renumbered k e (node k) refl (condition_row t.conditions t.m k (g.rule_4 k (omega arith) (below_k k e))))

  false_ok : leaves_unset t c ≡ true → condition_ok cs t.m (ρ t.k) ≡ true
  unfolding ConditionRowOk
  false_ok e = at_condition_ok cs t.m (ρ t.k) FALSE (false_at e) tt

  last_row : (i : ℕ) → i < (damage_head t c).k → ρ t.k ≤ i → (leaves_unset t c ≡ true) × (i ≡ ρ t.k)
  unfolding damage_head
  last_row i = at (leaves_unset t c)
    where
      at : (b : Bool) → i < ρ t.k + bit b → ρ t.k ≤ i → (b ≡ true) × (i ≡ ρ t.k)
      at true h a = (refl, omega arith)
      at false h a = absurd (let z : ⊥ = omega arith in z)

  pub conditions_hold : Holds (conditions t.m (damage_head t c).k cs)
  conditions_hold i _ h =
      by_cases (dec_lt i (ρ t.k))
      (λ a. let (k, _, e, z) = ranked i a in subst (λ (i : ℕ). condition_ok cs t.m i ≡ true) z (kept_ok k e))
      (λ a. let (u, z) = last_row i h (omega arith) in subst (λ (i : ℕ). condition_ok cs t.m i ≡ true) (sym z) (false_ok u))
