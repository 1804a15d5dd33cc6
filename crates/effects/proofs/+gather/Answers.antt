use native.Mathlib.Omega.{arith}
use lib.ListN.{get_or}
use Rattle.sheet.specs.Table.{row_at}
use Rattle.effects.proofs.Gathering.{sets_past, first_above, second_above, gathers_none, gathers_row}
use Rattle.effects.proofs.+gather.Goals as goal

pub returns-then-n-row : goal.returns-then-n-row
returns-then-n-row t c = gathers_none _ (λ l. sets_past _ _ c.requires.1.1.kids _ l _ c.if-n-row.true)

pub gather-a-requires : goal.gather-a-requires
gather-a-requires t c =
    let z = first_above c.args.row c.args.n (get_or c.args.marks.now c.args.row 0) (row_at c.args.ts.now c.args.row) c.if-n-row.false (c.requires.1.1.kids _ c.if-n-row.false) in
    (omega (arith, z, rw c.term_row-node.ensures at c.kept_first.ensures), c.requires)

pub gather-b-requires : goal.gather-b-requires
gather-b-requires t c =
    let z = second_above c.args.row c.args.n (get_or c.args.marks.now c.args.row 0) (row_at c.args.ts.now c.args.row) c.if-n-row.false (c.requires.1.1.kids _ c.if-n-row.false) in
    (omega (arith, z, rw c.term_row-node.ensures at c.kept_second.ensures), c.requires)

pub returns : goal.returns
returns t c =
    let node = c.term_row-node.ensures in
    gathers_row c.args.ts.now c.args.n c.requires.1.1.kids (λ k. get_or c.args.marks.now k 0) c.args.row c.if-n-row.false _ _ _ _ _ (rw node at c.own_bit.ensures) (rw node at c.kept_first.ensures) c.gather-a.ensures (rw node at c.kept_second.ensures) c.gather-b.ensures
