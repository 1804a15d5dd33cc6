use Rattle.printing.proofs.Room.{printed_whole}
use native.Mathlib.Omega.{arith}
use borrow.Author.Rules.{rules}
use Rattle.printing.proofs.print.Goals as goal

pub returns : goal.returns
returns c =
    let (v, u) = printed_whole c.args.input.now _ _ _ (λ i. omega (arith, c.type_inv.input i)) (search rules) c.lines_of.ensures in
    record { value = v; upper_bound = u }
