use Rattle.codec.proofs.Reading.{bodies, terms_part}
use native.Mathlib.Omega.{arith}
use Rattle.codec.proofs.terms_in.Goals as goal

pub two-end-requires : goal.two-end-requires
two-end-requires c = let w = c.requires.long in omega arith

pub slice_bounds-result-end : goal.slice_bounds-result-end
slice_bounds-result-end c = let b = bodies _ c.requires.sound in omega (arith, b.ends, c.two-end.ensures.0)

pub returns : goal.returns
returns c = terms_part _ _ c.two-end.ensures.0
