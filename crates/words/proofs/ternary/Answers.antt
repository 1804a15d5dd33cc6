use Prim.Native.Nat.{◌*◌, ◌^◌, ◌%◌}
use mathlib.Core.Path.{◌≡◌, ◌∙◌}
use native.Mathlib.Nat.{one-mul}
use lib.Pow.{shl_exact}
use Rattle.words.specs.Words.{base_of}
use Rattle.words.proofs.Patterns.{laned_none, laned_hit, laned_miss, digit_hit, digit_miss, laned_end, three_positive}
use native.Mathlib.Omega.{arith}
use Rattle.words.proofs.ternary.Goals as goal
use Rattle.words.proofs.ternary.Goals.{then-x-j, else-x-j}

pub loop-j-init : goal.loop-j-init
unfolding base_of
loop-j-init c = (c.power-power.ensures, laned_none _)

pub nonzero_div-x : goal.nonzero_div-x
nonzero_div-x c = omega (arith, c.loop-j.invariant.0, three_positive c.args.i)

pub loop-j-preserved : goal.loop-j-preserved
loop-j-preserved c =
    let l = c.loop-j in
    let i = l.invariant in
    let bit : 1 * 2 ^ l.j % 2 ^ 64 ≡ 2 ^ l.j = shl_exact 1 l.j 64 (omega arith) (omega arith) ∙ one-mul (2 ^ l.j) in (
      i.0,
      elim c.if-x-j.branch [
        | then-x-j w ↦ rw (w.word-is, bit) (laned_hit _ l.j l.word i.1 (digit_hit _ _ _ _ l.j _ i.0 w.if-x-j.true))
        | else-x-j w ↦ rw w.word-is (laned_miss _ l.j l.word i.1 (digit_miss _ _ _ _ l.j _ i.0 w.if-x-j.false))
      ],
    )

pub returns : goal.returns
returns c = let l = c.loop-j in laned_end _ _ _ _ l.j l.word c.loop-j-test.false l.invariant.1
