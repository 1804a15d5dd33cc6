use mathlib.Core.Path.{refl}
use native.Mathlib.Omega.{arith}
use Rattle.laws.proofs.Listed.{listed_under}
use Rattle.scene.proofs.Rows.{outs_upto, beside_laid}
use Rattle.scene.proofs.beside.Goals as goal

pub overflow_mul-next : goal.overflow_mul-next
overflow_mul-next c = omega (arith, outs_upto _ _ _ _ _ _ c.outs-next.ensures)

pub put-requires-2 : goal.put-requires-2
put-requires-2 c = (refl, omega (arith, outs_upto _ _ _ _ _ _ c.outs-next.ensures))

pub overflow_add-result : goal.overflow_add-result
overflow_add-result c = omega (arith, outs_upto _ _ _ _ _ _ c.outs-next.ensures)

pub returns : goal.returns
returns c =
    beside_laid c.args.values.now _ c.args.f c.args.n _ _ c.args.out.now _ _ _ c.true_where_unset-rest.ensures (λ k i. omega (arith, listed_under _ 0 c.args.m k i)) c.requires.1.1
    c.put.ensures c.outs-next.ensures c.put-2.ensures
