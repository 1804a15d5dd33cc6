-- Document 01, "The verdict": "A failure names the lowest JOIN row that fails, a number and a link."
use Rattle.std.specs.Prelude.{ℕ, ◌*◌, ◌<◌, ◌≤◌, ◌≡◌, Bool, true, cond, not, ◌&&◌, length, ltb}
use Rattle.laws.specs.Lowest.{lowest}
use Rattle.calculus.specs.Process.{join}
use Rattle.conditions.specs.Conditions.{condition, reached}
use Rattle.steps.specs.Rows.{PREFIX, is_join, condition_of}
use Rattle.sheet.specs.Table.{Table, row_at, condition_row_at}
use Rattle.failure.specs.Failure.{links_at, fails_at, number_at, link_at}
use Rattle.verdict.specs.declared.Verdict.{Verdict}
use Rattle.verdict.specs.declared.Verdict.TheVariants.{Pass, Fail}

module _ (t : Table) where
  -- the condition at a row fails
  abbrev pub fails_in : ℕ → Bool
  fails_in = fails_at t.evaluation t.m t.conditions

  -- row j is no JOIN whose condition fails
  unfoldable pub sound : ℕ → Bool
  sound j = not (is_join (row_at t.terms j) && fails_in (condition_of (row_at t.terms j)))

  -- "the lowest JOIN row that fails"; n where there is none
  unfoldable pub failing : ℕ
  failing = lowest sound 0 t.n

  -- "a number and a link": those of its condition
  unfoldable pub fail_at : ℕ → Verdict
  fail_at j = Fail j (number_at t.evaluation t.m t.conditions (condition_of (row_at t.terms j))) (link_at t.evaluation t.m t.conditions (condition_of (row_at t.terms j)))

  -- "The sheet passes if the condition of every JOIN row passes."
  unfoldable pub verdict_of : Verdict
  verdict_of = cond (ltb failing t.n) (fail_at failing) Pass

-- what judging gives, of that the verdict needs
pub record Judged (t : Table) : Type 0 where
  pub lent_terms : t.n * 4 ≤ length t.terms
  pub lent_conditions : t.k * 4 ≤ length t.conditions
  pub few_terms : t.n ≤ 256
  pub few_conditions : t.k ≤ 256
  pub few_links : t.m ≤ 64
  pub join_below_k : (j c d : ℕ) → j < t.n → row_at t.terms j ≡ PREFIX (join c) d → c < t.k
  pub link_below_m : (c l : ℕ) → c < t.k → reached (condition (condition_row_at t.conditions) c) l ≡ true → l < t.m
  pub eight_links : (j c d : ℕ) → j < t.n → row_at t.terms j ≡ PREFIX (join c) d → length (links_at t.m t.conditions c) ≤ 8
