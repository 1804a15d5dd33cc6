use mathlib.Core.Path.{refl}
use Rattle.codec.proofs.Writing.{copied_by, lay_short}
use Rattle.codec.proofs.lay.Goals as goal

pub returns-then-out-size : goal.returns-then-out-size
returns-then-out-size c = (refl, lay_short c.args.t.now.head c.args.t.now.terms.now c.args.t.now.conditions.now c.requires.terms_lent c.requires.conditions_lent c.args.out.now c.if-out-size.true)

pub returns : goal.returns
returns c = (refl, copied_by c.args.t.now.head c.args.t.now.terms.now c.args.t.now.conditions.now c.requires.terms_lent c.requires.conditions_lent c.args.out.now c.if-out-size.false _ _ _ _ c.front-first.ensures c.copy.ensures c.copy-2.ensures c.copy-3.ensures)
