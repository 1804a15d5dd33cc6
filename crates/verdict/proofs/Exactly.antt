-- The verdict is pass exactly if the condition of every JOIN row meets R's condition (2), and a failure is of a JOIN row whose condition does not. Assumes nothing.
use Prim.Native.Nat.{ℕ, ◌+◌, ◌<◌, ◌≤◌}
use mathlib.Core.Path.{◌≡◌, refl, sym, ◌∙◌, ap}
use mathlib.Core.Bool.{true, not}
use mathlib.Core.Logic.{by_cases, ◌↔◌}
use native.Mathlib.Omega.{arith}
use native.Mathlib.Decide.{dec_lt, ℕ_discrete}
use borrow.Author.Tests.{lt-ltb, ne_eqb, not-true, not-false}
use Rattle.laws.proofs.Lowest.{lowest_below, lowest_at, lowest_none}
use Rattle.laws.proofs.Tests.{and_l, and_r, refuted}
use Rattle.calculus.specs.Process.{join}
use Rattle.calculus.specs.Order.{Condition2}
use Rattle.conditions.specs.Conditions.{condition}
use Rattle.conditions.specs.Numbers.{Offends}
use Rattle.conditions.proofs.Failure.{fails_offends, number_smallest, link_lowest, condition_fails, condition_holds}
use Rattle.conditions.proofs.Numbers.{links_inside}
use Rattle.steps.specs.Rows.{PREFIX, is_join, condition_of}
use Rattle.steps.specs.Verdict.{SheetPasses}
use Rattle.steps.proofs.Rows.{join_of}
use Rattle.sheet.specs.Table.{Table, row_at, condition_row_at, evaluation_of, eval_in}
use Rattle.sheet.proofs.Rows.{row_join, join_row}
use Rattle.failure.specs.Failure.{links_at, fails_at, number_at, link_at}
use Rattle.verdict.specs.declared.Verdict.TheVariants.{Pass, Fail}
use Rattle.verdict.specs.Verdict.{fails_in, sound, failing, fail_at, verdict_of, Judged}
use Rattle.verdict.proofs.Joins.{kind_at, second_at, sound_other, sound_join, verdict_fail, verdict_pass}

-- NUMBER AND LINK of a condition row that fails offend; no smaller number does, and at it no lower link
module _ (t : Table) (row : ℕ) where
  pub number_offends : fails_in t row ≡ true → Offends (eval_in t row) (links_at t.m t.conditions row) (number_at t.evaluation t.m t.conditions row) (link_at t.evaluation t.m t.conditions row)
  unfolding fails_at number_at link_at
  number_offends = fails_offends (eval_in t row) t.m (links_at t.m t.conditions row) (links_inside t.m (condition (condition_row_at t.conditions) row))

  pub none_smaller : (x l : ℕ) → Offends (eval_in t row) (links_at t.m t.conditions row) x l → number_at t.evaluation t.m t.conditions row ≤ x
  unfolding number_at
  none_smaller = number_smallest (eval_in t row) t.m (links_at t.m t.conditions row) (links_inside t.m (condition (condition_row_at t.conditions) row))

  pub none_lower : (l : ℕ) → Offends (eval_in t row) (links_at t.m t.conditions row) (number_at t.evaluation t.m t.conditions row) l → link_at t.evaluation t.m t.conditions row ≤ l
  unfolding link_at
  none_lower = link_lowest (eval_in t row) t.m (links_at t.m t.conditions row) (links_inside t.m (condition (condition_row_at t.conditions) row)) (number_at t.evaluation t.m t.conditions row)

module _ (t : Table) (g : Judged t) where
  meets : (j q d : ℕ) → j < t.n → row_at t.terms j ≡ PREFIX (join q) d → sound t j ≡ true → Condition2 (eval_in t q)
  unfolding fails_at
  meets j q d h e s = condition_holds (evaluation_of t.evaluation) t.m (condition (condition_row_at t.conditions) q) (λ l r. g.link_below_m q l (g.join_below_k j q d h e) r) (not-true _ (sym (sound_join t j q d e) ∙ s))

  none_fails : verdict_of t ≡ Pass → t.n ≤ failing t
  unfolding verdict_of fail_at
  none_fails v =
      by_cases (dec_lt (failing t) t.n)
      (λ h. absurd (let f = rw (lt-ltb _ _ h) at v in let z : ◌≡◌ {A = ℕ} 0 1 = cc in omega arith))
      (λ h. omega arith)

  passes : verdict_of t ≡ Pass → SheetPasses (eval_in t) (row_at t.terms) t.n
  unfolding failing
  passes v j q d h e = meets j q d h e (lowest_below (sound t) 0 t.n j (omega arith) (omega (arith, none_fails v)))

  -- where every JOIN's condition meets (2), every row is sound
  row_sound : SheetPasses (eval_in t) (row_at t.terms) t.n → (j : ℕ) → j < t.n → sound t j ≡ true
  unfolding fails_at
  row_sound s j h =
      by_cases (ℕ_discrete (kind_at t.terms j) 3)
      (λ k.
      let q : ℕ = second_at t.terms j in
      let e = join_row t.terms j k in
      sound_join t j q _ e ∙ ap not (refuted (fails_in t q) (λ f. (condition_fails (evaluation_of t.evaluation) t.m (condition (condition_row_at t.conditions) q) (λ l r. g.link_below_m q l (g.join_below_k j q _ h e) r)).0 f (s j q _ h e))))
      (λ k. sound_other t j (row_join t.terms j ∙ ne_eqb _ 3 k))

  -- THE VERDICT IS PASS exactly if the condition of every JOIN row meets R's condition (2), under either evaluation.
  pub pass_exactly : (verdict_of t ≡ Pass) ↔ SheetPasses (eval_in t) (row_at t.terms) t.n
  unfolding failing
  pass_exactly = (
    passes,
    (λ s. let z : failing t ≡ 0 + t.n = lowest_none (sound t) 0 t.n (λ j a b. row_sound s j (omega arith)) in sym (verdict_pass t (failing t) (omega arith) refl)),
  )

  -- A failure is given of the lowest JOIN row that fails.
  module _ (h : failing t < t.n) where
    abbrev row : ℕ
    row = condition_of (row_at t.terms (failing t))

    pub fail_is_given : verdict_of t ≡ Fail (failing t) (number_at t.evaluation t.m t.conditions row) (link_at t.evaluation t.m t.conditions row)
    unfolding fail_at
    fail_is_given = sym (verdict_fail t (failing t) h refl)

    -- it is a JOIN row, and every JOIN row below it meets (2)
    pub fail_is_join : (d : ℕ) × (row_at t.terms (failing t) ≡ PREFIX (join row) d)
    unfolding failing sound
    fail_is_join = join_of (row_at t.terms (failing t)) (and_l _ _ (not-false _ (lowest_at (sound t) 0 t.n (omega arith))))

    pub fail_lowest_row : (i q d : ℕ) → i < failing t → row_at t.terms i ≡ PREFIX (join q) d → Condition2 (eval_in t q)
    unfolding failing
    fail_lowest_row i q d below e = meets i q d (omega arith) e (lowest_below (sound t) 0 t.n i (omega arith) below)

    pub row_fails : fails_in t row ≡ true
    unfolding failing sound
    row_fails = and_r (is_join (row_at t.terms (failing t))) _ (not-false _ (lowest_at (sound t) 0 t.n (omega arith)))
