use Rattle.codec.proofs.Reading.{bodies, conditions_part}
use native.Mathlib.Omega.{arith}
use Rattle.codec.proofs.conditions_in.Goals as goal

pub two-start-requires : goal.two-start-requires
two-start-requires c = let w = c.requires.long in omega arith

pub two-requires : goal.two-requires
two-requires c = let w = c.requires.long in omega arith

pub slice_bounds-result-end : goal.slice_bounds-result-end
slice_bounds-result-end c = let b = bodies _ c.requires.sound in omega (arith, b.ends, c.two-start.ensures.0, c.two.ensures.0)

pub returns : goal.returns
returns c = conditions_part _ _ _ c.two-start.ensures.0 c.two.ensures.0
