use Rattle.codec.proofs.Reading.{entry_by}
use Rattle.codec.proofs.entry_ok.Goals as goal

pub returns : goal.returns
returns c = entry_by _ _ _ _ _ c.two.ensures.0
