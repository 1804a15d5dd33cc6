use Prim.Native.Nat.{◌+◌, ◌≤◌}
use mathlib.Core.Path.{◌≡◌, sym, ◌∙◌}
use native.Mathlib.Omega.{arith}
use lib.ListN.{get_or}
use Rattle.laws.specs.Tests.{bit}
use Rattle.laws.proofs.Sums.{count_zero, count_more}
use Rattle.flags.specs.Flags.{flagged}
use Rattle.counts.proofs.Rows.{acts_fit, acts_read}
use Rattle.counts.proofs.acts.Goals as goal

pub loop-row-init : goal.loop-row-init
loop-row-init c = sym (count_zero _)

pub overflow_add-found : goal.overflow_add-found
overflow_add-found c =
    let l = c.loop-row in
    let p = c.requires.0 in
    let fit : l.found + bit c.act.result ≤ 255 = rw (l.invariant, c.act.ensures) (acts_fit _ _ p.1.1 (λ k. get_or c.args.marks.now k 0) p.0 (flagged c.args.live.now) l.row c.loop-row-test.true) in
    omega (arith, fit)

pub loop-row-preserved : goal.loop-row-preserved
loop-row-preserved c = let l = c.loop-row in rw (l.invariant, c.act.ensures) (sym (count_more _ l.row))

pub returns : goal.returns
returns c = let p = c.requires in let e : c.loop-row.row ≡ c.args.n = omega arith in c.loop-row.invariant ∙ rw e (sym (acts_read _ _ p.0.1.1 _ _ p.1))
