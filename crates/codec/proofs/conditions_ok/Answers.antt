use Rattle.codec.proofs.Reading.{conditions_by}
use Rattle.codec.proofs.conditions_ok.Goals as goal

pub returns : goal.returns
returns c = conditions_by _ _ _ _ _ c.two-t.ensures.0 c.two-c.ensures.0 c.entry_ok.ensures c.in_fours.ensures
