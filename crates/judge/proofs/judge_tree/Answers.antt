use Rattle.judge.proofs.Chain.{fails}
use Rattle.judge.proofs.Pass.{misnamed_fails}
use native.Mathlib.Omega.{arith}
use Rattle.judge.proofs.judge_tree.Goals as goal

pub bad_term-place-requires : goal.bad_term-place-requires
bad_term-place-requires c = let p = c.requires in (p.lent.terms_lent, (omega (arith, p.high), p.sound))

pub returns-then-place-end : goal.returns-then-place-end
returns-then-place-end c = fails _ _ _ c.bad_term-place.ensures c.if-place-end.true

pub returns : goal.returns
returns c = misnamed_fails _ _ c.requires _ c.bad_term-place.ensures c.if-place-end.false
