use Prim.Native.Nat.{ℕ, ◌^◌}
use mathlib.Core.Path.{◌∙◌, ap}
use native.Mathlib.Omega.{arith}
use Rattle.words.specs.Words.{base_of}
use Rattle.failure.proofs.Search.{narrow_width, narrow_few, narrow_numbers}
use Rattle.failure.proofs.Blocks.{below_none, below_more, lowest_end, lowest_past, lowest_here}
use Rattle.failure.proofs.Lanes.{show_given, failing}
use Rattle.failure.proofs.first_unsteady.Goals as goal

pub power-all-requires : goal.power-all-requires
power-all-requires c = omega (arith, c.requires.narrow, narrow_width _ _ _ _ c.requires _ c.width.ensures)

pub loop-x-init : goal.loop-x-init
loop-x-init c = record {
  digit = c.true_digit-digit.ensures.digit;
  size = c.power-all.ensures ∙ ap (λ (q : ℕ). base_of c.args.base ^ q) (narrow_width _ _ _ _ c.requires _ c.width.ensures);
  aligned = omega arith;
  steady = below_none _;
}

pub words-trues-requires : goal.words-trues-requires
words-trues-requires c = let i = c.loop-x.invariant in
    let few = narrow_numbers _ _ _ _ c.requires c.args.base in
    (omega (arith, i.digit), (c.requires.few_links, (narrow_few _ _ _ _ c.requires, (i.aligned, omega (arith, i.size, few)))))

pub words-falses-requires : goal.words-falses-requires
words-falses-requires c = let i = c.loop-x.invariant in
    let few = narrow_numbers _ _ _ _ c.requires c.args.base in
    (omega (arith, i.digit), (c.requires.few_links, (narrow_few _ _ _ _ c.requires, (i.aligned, omega (arith, i.size, few)))))

pub loop-x-preserved : goal.loop-x-preserved
loop-x-preserved c = let i = c.loop-x.invariant in record {
  digit = i.digit;
  size = i.size;
  aligned = omega (arith, i.aligned);
  steady = below_more _ c.loop-x.x _ (failing _ _ _ _ c.requires _ _ _ _ _ _ c.unsteady-word.ensures (show_given _ _ _ c.requires.few_links _ _ _ _ i.digit c.words-trues.ensures c.words-falses.ensures)) i.steady c.if-word-ne0.false;
}

pub returns-then-all-s : goal.returns-then-all-s
returns-then-all-s c = let i = c.loop-x.invariant in
    rw (← i.size) (lowest_past _ c.loop-x.x _ (failing _ _ _ _ c.requires _ _ _ _ _ _ c.unsteady-word.ensures (show_given _ _ _ c.requires.few_links _ _ _ _ i.digit c.words-trues.ensures c.words-falses.ensures)) (omega arith) c.if-word-ne0.true i.steady c.power-all.result c.if-all-s.true)

pub returns-then-word-ne0 : goal.returns-then-word-ne0
returns-then-word-ne0 c = let i = c.loop-x.invariant in
    rw (← i.size) (c.if-all-s.false, lowest_here _ c.loop-x.x _ (failing _ _ _ _ c.requires _ _ _ _ _ _ c.unsteady-word.ensures (show_given _ _ _ c.requires.few_links _ _ _ _ i.digit c.words-trues.ensures c.words-falses.ensures)) (omega arith) c.if-word-ne0.true i.steady c.power-all.result c.if-all-s.false)

pub returns-else-word-ne0 : goal.returns-else-word-ne0
returns-else-word-ne0 c = let i = c.loop-x.invariant in
    rw (← i.size) (lowest_end _ c.power-all.result _ (omega arith) (below_more _ c.loop-x.x _ (failing _ _ _ _ c.requires _ _ _ _ _ _ c.unsteady-word.ensures (show_given _ _ _ c.requires.few_links _ _ _ _ i.digit c.words-trues.ensures c.words-falses.ensures)) i.steady c.if-word-ne0.false))

pub returns : goal.returns
returns c = let i = c.loop-x.invariant in rw (← i.size) (lowest_end _ c.power-all.result c.loop-x.x c.loop-x-test.false i.steady)
