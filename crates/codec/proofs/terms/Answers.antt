use mathlib.Core.Path.{◌∙◌}
use Rattle.codec.proofs.Parts.{part_whole, part_empty, read_framed}
use Rattle.codec.proofs.terms.Goals as goal

pub terms_in-requires : goal.terms_in-requires
terms_in-requires c = read_framed c.args.s.now _ c.read.ensures _ c.in-Ok.is

pub returns-in-Ok : goal.returns-in-Ok
returns-in-Ok c = c.terms_in.ensures ∙ part_whole c.args.s.now _ _ c.read.ensures _ c.in-Ok.is

pub returns-in-Err : goal.returns-in-Err
returns-in-Err c = part_empty c.args.s.now _ _ c.read.ensures _ c.in-Err.is
