use Prim.Native.Nat.{◌/◌, ◌^◌}
use lib.Count.{trailing_le}
use Rattle.worth.proofs.Places.{first_none, first_inside, first_some}
use native.Mathlib.Omega.{arith}
use Rattle.worth.proofs.first_bit.Goals as goal

pub returns-then-rest-eq0 : goal.returns-then-rest-eq0
returns-then-rest-eq0 c = first_none _ _ c.requires c.if-rest-eq0.true

pub overflow_add-result : goal.overflow_add-result
overflow_add-result c = omega (arith, trailing_le 64 (c.args.word / 2 ^ c.args.from))

pub returns : goal.returns
returns c = (first_inside _ _ c.requires (omega arith) c.if-rest-eq0.false, first_some _ _ c.requires (omega arith) c.if-rest-eq0.false)
