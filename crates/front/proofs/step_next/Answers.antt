use Rattle.front.proofs.ByKind.{passed_mark, keeps_mark}
use Rattle.front.proofs.step_next.Goals as goal

pub returns : goal.returns
returns c = rw (passed_mark c.args.mark, keeps_mark c.args.mark, ← c.waits.ensures) c.next_by.ensures
