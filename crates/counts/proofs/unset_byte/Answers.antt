use Rattle.conditions.proofs.Numbers.{undigit_unset}
use Rattle.counts.proofs.unset_byte.Goals as goal

pub returns : goal.returns
returns c = undigit_unset _
