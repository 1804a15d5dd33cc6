use borrow.Author.Tests.{ne_eqb}
use Rattle.sheet.specs.Rules.{term_rule}
use Rattle.judge.proofs.term_row.Goals as goal

pub returns-in-0 : goal.returns-in-0
unfolding term_rule
returns-in-0 c = rw c.in-0.is

pub returns-in-1 : goal.returns-in-1
unfolding term_rule
returns-in-1 c = rw (c.in-1.is, c.child.ensures)

pub returns-in-2 : goal.returns-in-2
unfolding term_rule
returns-in-2 c = rw (c.in-2.is, c.child-in-2.ensures)

pub returns-in-3 : goal.returns-in-3
unfolding term_rule
returns-in-3 c = rw (c.in-3.is, c.child-in-3.ensures)

pub returns-in-4 : goal.returns-in-4
unfolding term_rule
returns-in-4 c = rw (c.in-4.is, c.child-in-4.ensures, c.child-in-4-2.ensures)

pub returns-in-5 : goal.returns-in-5
unfolding term_rule
returns-in-5 c = rw (c.in-5.is, c.child-in-5.ensures, c.child-in-5-2.ensures)

pub returns-in_default : goal.returns-in_default
unfolding term_rule
returns-in_default c = let m = c.in_default.in_default-own.rest in
    rw (ne_eqb _ 0 m.0.0.0.0.0.1, ne_eqb _ 1 m.0.0.0.0.1, ne_eqb _ 2 m.0.0.0.1, ne_eqb _ 3 m.0.0.1, ne_eqb _ 4 m.0.1, ne_eqb _ 5 m.1)
