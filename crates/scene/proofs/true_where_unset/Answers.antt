use mathlib.Core.Path.{refl, ◌∙◌}
use native.Mathlib.Omega.{arith}
use lib.Dec.{eqb}
use lib.ListN.{get_or, length-set}
use Rattle.laws.proofs.Tests.{bit_small}
use Rattle.laws.proofs.Up.{filled_none, filled_more, filled_at}
use Rattle.scene.proofs.Bytes.{true_where_unset_told}
use Rattle.scene.proofs.true_where_unset.Goals as goal

pub loop-l-init : goal.loop-l-init
loop-l-init c = (refl, filled_none 0 _ 64)

pub overflow_mul-table : goal.overflow_mul-table
overflow_mul-table c = omega (arith, bit_small (eqb (get_or c.args.values.now c.loop-l.l 0) 0))

pub loop-l-preserved : goal.loop-l-preserved
loop-l-preserved c = let l = c.loop-l in (length-set l.table l.l _ ∙ l.invariant.0, filled_more 0 _ l.l l.table _ (omega arith) refl l.invariant.1)

pub returns : goal.returns
returns c = let l = c.loop-l in true_where_unset_told _ l.table (λ k h. filled_at 0 _ l.l l.table k l.invariant.1 (omega arith))
