use mathlib.Core.Path.{◌∙◌}
use native.Mathlib.Omega.{arith}
use lib.Bits.{xor_lt}
use lib.ListN.{length-set}
use Rattle.evaluate.proofs.Packed.{turned_other, turned_same, one_turned}
use Rattle.evaluate.proofs.put.Goals as goal

pub returns : goal.returns
returns c = let a = c.args in
    let p = c.requires in (
      length-set a.vals.now _ _ ∙ p.0,
      (
        turned_other a.vals.now a.row _ (omega arith) (xor_lt 2 a.x _ (omega arith) (omega arith)),
        turned_same a.vals.now a.row _ (omega arith) (xor_lt 2 a.x _ (omega arith) (omega arith)) ∙ rw p.1.1.0 (one_turned a.x (omega arith)),
      ),
    )
