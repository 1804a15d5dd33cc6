use Rattle.sheet.specs.Sheet.{settings_of}
use Rattle.codec.proofs.Parts.{part_whole, part_empty, read_framed}
use native.Mathlib.Omega.{arith}
use Rattle.codec.proofs.settings.Goals as goal

pub slice_bounds-result-end : goal.slice_bounds-result-end
slice_bounds-result-end c = let f = read_framed c.args.s.now _ c.read.ensures _ c.in-Ok.is in omega (arith, f.long)

pub returns-in-Ok : goal.returns-in-Ok
unfolding settings_of
returns-in-Ok c = part_whole c.args.s.now _ _ c.read.ensures _ c.in-Ok.is

pub returns-in-Err : goal.returns-in-Err
returns-in-Err c = part_empty c.args.s.now _ _ c.read.ensures _ c.in-Err.is
