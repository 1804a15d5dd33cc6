use Rattle.codec.proofs.Reading.{settings_by}
use Rattle.codec.proofs.settings_ok.Goals as goal

pub returns : goal.returns
returns c = settings_by _ _ _ c.entry_ok.ensures c.two.ensures.0
