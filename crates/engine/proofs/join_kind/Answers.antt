use mathlib.Core.Path.{◌≡◌, ap}
use Rattle.std.specs.Prelude.{Err}
use mathlib.Core.Bool.{true, false, ◌&&◌}
use lib.Dec.{eqb}
use borrow.Author.Tests.{ne_eqb}
use Rattle.engine.specs.ByValue.{join_kind}
use Rattle.engine.proofs.join_kind.Goals as goal

pub returns-then-value-eq2 : goal.returns-then-value-eq2
unfolding join_kind
returns-then-value-eq2 c = rw c.if-value-eq2.true

pub returns-then-value-cleans : goal.returns-then-value-cleans
unfolding join_kind
returns-then-value-cleans c =
    let test : (eqb c.args.value 1 && c.cleans.result) ≡ true = c.if-value-cleans.true in
    rw (ne_eqb _ 2 c.if-value-eq2.false, ← c.cleans.ensures, test)

pub returns : goal.returns
unfolding join_kind
returns c =
    let test : (eqb c.args.value 1 && c.cleans.result) ≡ false = c.if-value-cleans.false in
    rw (ne_eqb _ 2 c.if-value-eq2.false, ← c.cleans.ensures, test) (ap Err c.no_step.ensures)
