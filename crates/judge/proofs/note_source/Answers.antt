use Rattle.judge.specs.Judge.{source_noted}
use Rattle.judge.proofs.note_source.Goals as goal

pub returns : goal.returns
unfolding source_noted
returns c = rw c.bit-bit.ensures
