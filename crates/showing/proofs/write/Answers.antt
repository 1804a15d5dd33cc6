use mathlib.Core.Path.{refl, ap}
use native.Mathlib.Omega.{arith}
use borrow.Author.Rules.{rules}
use Rattle.laws.specs.Tests.{bit}
use Rattle.laws.proofs.Tests.{bit_small}
use Rattle.failure.proofs.Search.{narrow_few}
use Rattle.showing.proofs.Answers.{not_shown}
use Rattle.showing.proofs.Parts.{row_small, row_lent, to_excerpt, kept_few, link_small, too_many, in_range, wrote}
use Rattle.showing.proofs.write.Goals as goal

pub overflow_mul-row : goal.overflow_mul-row
overflow_mul-row c = omega (arith, row_small _ _ _ _ _ c.requires)

pub overflow_add-row : goal.overflow_add-row
overflow_add-row c = omega (arith, row_small _ _ _ _ _ c.requires)

pub bounds-t-row : goal.bounds-t-row
bounds-t-row c = omega (arith, row_lent _ _ _ _ _ c.requires)

pub lay-kept-requires : goal.lay-kept-requires
lay-kept-requires c = to_excerpt _ _ _ _ _ c.requires

pub overflow_mul-kept : goal.overflow_mul-kept
overflow_mul-kept c = omega (arith, (kept_few _ _ _ _ _ c.requires _ _ c.lay-kept.ensures).1)

pub put-requires : goal.put-requires
put-requires c = (refl, omega (arith, (kept_few _ _ _ _ _ c.requires _ _ c.lay-kept.ensures).1, c.conditions-2-1.given))

pub overflow_add-k : goal.overflow_add-k
overflow_add-k c = omega (arith, (kept_few _ _ _ _ _ c.requires _ _ c.lay-kept.ensures).1, bit_small c.any_unset-unset.result)

pub returns-then-k-gt256 : goal.returns-then-k-gt256
returns-then-k-gt256 c =
    not_shown _ _ _ (too_many _ _ _ _ _ c.requires _ _ c.lay-kept.ensures _ c.values-values.ensures _ c.any_unset-unset.ensures c.if-k-gt256.true)

pub overflow_sub-kept : goal.overflow_sub-kept
overflow_sub-kept c = (kept_few _ _ _ _ _ c.requires _ _ c.lay-kept.ensures).0

pub overflow_cast-kept : goal.overflow_cast-kept
overflow_cast-kept c = omega (arith, (kept_few _ _ _ _ _ c.requires _ _ c.lay-kept.ensures).1)

pub overflow_sub-k : goal.overflow_sub-k
overflow_sub-k c = omega (arith, (kept_few _ _ _ _ _ c.requires _ _ c.lay-kept.ensures).0)

pub lay-n-requires : goal.lay-n-requires
lay-n-requires c = let d = c.requires in (((search rules, link_small _ _ _ _ _ d), (narrow_few _ _ _ _ d.narrow, omega arith)), c.any_unset-unset.ensures)

pub lay-size-requires : goal.lay-size-requires
lay-size-requires c =
    in_range _ _ _ _ _ c.requires _ _ c.lay-kept.ensures _ c.values-values.ensures _ c.any_unset-unset.ensures c.if-k-gt256.false c.conditions-2-1.given _ c.put.ensures _ _ c.lay-n.ensures _ (ap bit c.is_lazy.ensures) c.terms-2-1.given

pub returns-then-room-size : goal.returns-then-room-size
returns-then-room-size c =
    (wrote _ _ _ _ _ c.requires _ _ c.lay-kept.ensures _ c.values-values.ensures _ c.any_unset-unset.ensures c.if-k-gt256.false c.conditions-2-1.given _ c.put.ensures _ _ c.lay-n.ensures _ (ap bit c.is_lazy.ensures) c.terms-2-1.given _ _ _ c.lay-size.ensures.0 c.lay-size.ensures.1).0 c.if-room-size.true

pub returns : goal.returns
returns c =
    (wrote _ _ _ _ _ c.requires _ _ c.lay-kept.ensures _ c.values-values.ensures _ c.any_unset-unset.ensures c.if-k-gt256.false c.conditions-2-1.given _ c.put.ensures _ _ c.lay-n.ensures _ (ap bit c.is_lazy.ensures) c.terms-2-1.given _ _ _ c.lay-size.ensures.0 c.lay-size.ensures.1).1 c.if-room-size.false
