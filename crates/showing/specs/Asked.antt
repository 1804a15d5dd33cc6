-- What is known where a row is a JOIN whose condition fails: the table is accepted, and the links, the number and the link are those of its condition.
use Rattle.std.specs.Prelude.{ℕ, ◌<◌, ◌≡◌, true}
use Rattle.steps.specs.Rows.{is_join}
use Rattle.sheet.specs.Table.{Table, row_at}
use Rattle.sheet.specs.Rules.{refusal_of}
use Rattle.failure.specs.Failure.{number_at, link_at, Narrow}
use Rattle.verdict.specs.Verdict.{fails_in}
use Rattle.damage.specs.Damage.{condition_at}

pub record Asked (t : Table) (row mask x l : ℕ) : Type 0 where
  pub accepted : (refusal_of t).number ≡ 0
  pub inside : row < t.n
  pub row_is_join : is_join (row_at t.terms row) ≡ true
  pub fails : fails_in t (condition_at t row) ≡ true
  pub narrow : Narrow t.m t.conditions (condition_at t row) mask
  pub its_number : x ≡ number_at t.evaluation t.m t.conditions (condition_at t row)
  pub its_link : l ≡ link_at t.evaluation t.m t.conditions (condition_at t row)
