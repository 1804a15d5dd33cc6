use native.Mathlib.Omega.{arith}
use mathlib.Core.Path.{◌≡◌, sym, ◌∙◌}
use Rattle.laws.proofs.Checks.{place_end}
use Rattle.laws.proofs.Lowest.{searched_none, searched_more, searched_stop, searched_end}
use Rattle.sheet.specs.Rules.{sourced}
use Rattle.sheet.proofs.Accepted.{compacted_sourced}
use Rattle.judge.specs.Judge.{row_within}
use Rattle.judge.proofs.Wanted.{wanted_sourced, searched_sourced}
use Rattle.judge.proofs.unsourced_join.Goals as goal

pub returns-then-is_compacted : goal.returns-then-is_compacted
returns-then-is_compacted c = place_end (sourced _) (omega arith) (compacted_sourced _ (sym c.is_compacted.ensures ∙ c.if-is_compacted.true))

pub returns-then-within : goal.returns-then-within
returns-then-within c = wanted_sourced _ (sym c.is_compacted.ensures ∙ c.if-is_compacted.false) _ _ c.requires (sym c.within.ensures ∙ c.if-within.true)

pub loop-row-init : goal.loop-row-init
loop-row-init c = searched_none _ _

pub returns-then-not-wants_within : goal.returns-then-not-wants_within
unfolding row_within
returns-then-not-wants_within c =
    let l = c.loop-row in
    let p = c.requires in
    let f = sym c.is_compacted.ensures ∙ c.if-is_compacted.false in
    let e = sym c.wants_within.ensures ∙ c.if-not-wants_within.true in
    searched_stop _ _ l.row l.invariant c.loop-row-test.true e ∙ searched_sourced _ f _ _ p

pub loop-row-preserved : goal.loop-row-preserved
unfolding row_within
loop-row-preserved c = let l = c.loop-row in
    searched_more _ _ l.row l.invariant c.loop-row-test.true (sym c.wants_within.ensures ∙ c.if-not-wants_within.false)

pub returns : goal.returns
returns c = let e : c.args.t.now.head.n ≡ c.loop-row.row = omega arith in e ∙ searched_end _ _ _ c.loop-row.invariant (omega arith) ∙ searched_sourced _ (sym c.is_compacted.ensures ∙ c.if-is_compacted.false) _ _ c.requires
