use Rattle.collect.proofs.Writing.{in_range, wrote}
use Rattle.sheet.specs.Table.{lent_table}
use Rattle.collect.proofs.write.Goals as goal

pub lay-requires : goal.lay-requires
lay-requires c =
    let a = c.args in
    in_range (lent_table a.t.now) c.requires a.s _ _ c.kept_rows-count.auto.out (c.kept_rows-count.ensures a.t.now.conditions.now) _ c.compacted_by.ensures

pub returns : goal.returns
returns c =
    let a = c.args in
    wrote (lent_table a.t.now) c.requires a.s _ _ c.kept_rows-count.auto.out (c.kept_rows-count.ensures a.t.now.conditions.now) _ c.compacted_by.ensures a.out.now _ _ c.lay.ensures.0 c.lay.ensures.1
