use native.Mathlib.Omega.{arith}
use native.Mathlib.Decide.{ℕ_discrete}
use mathlib.Core.Logic.{by_cases}
use mathlib.Core.Path.{◌≡◌, refl}
use borrow.Author.Tests.{ne_eqb}
use Rattle.sheet.specs.Rules.{condition_rule}
use Rattle.judge.proofs.condition_row.Goals as goal

pub returns-then-kind-gt2 : goal.returns-then-kind-gt2
unfolding condition_rule
returns-then-kind-gt2 c = let k = c.args.kind in
    rw (ne_eqb k 0 (λ e. omega arith), ne_eqb k 1 (λ e. omega arith), ne_eqb k 2 (λ e. omega arith)) refl

pub returns-then-kind-eq2 : goal.returns-then-kind-eq2
unfolding condition_rule
returns-then-kind-eq2 c = rw c.if-kind-eq2.true refl

pub returns : goal.returns
unfolding condition_rule
returns c = by_cases (ℕ_discrete c.args.kind 0) (λ e. rw e refl) (λ e. let q : c.args.kind ≡ 1 = omega arith in rw q refl)
