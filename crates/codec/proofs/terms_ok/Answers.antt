use Rattle.codec.proofs.Reading.{terms_by}
use Rattle.codec.proofs.terms_ok.Goals as goal

pub returns : goal.returns
returns c = terms_by _ _ _ _ c.entry_ok.ensures c.two.ensures.0 c.in_fours.ensures
