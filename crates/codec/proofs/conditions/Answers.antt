use mathlib.Core.Path.{◌∙◌}
use Rattle.codec.proofs.Parts.{part_whole, part_empty, read_framed}
use Rattle.codec.proofs.conditions.Goals as goal

pub conditions_in-requires : goal.conditions_in-requires
conditions_in-requires c = read_framed c.args.s.now _ c.read.ensures _ c.in-Ok.is

pub returns-in-Ok : goal.returns-in-Ok
returns-in-Ok c = c.conditions_in.ensures ∙ part_whole c.args.s.now _ _ c.read.ensures _ c.in-Ok.is

pub returns-in-Err : goal.returns-in-Err
returns-in-Err c = part_empty c.args.s.now _ _ c.read.ensures _ c.in-Err.is
