use Rattle.judge.proofs.Counts.{children_none}
use Rattle.judge.proofs.judge_terms.Goals as goal

pub judge_rows-requires : goal.judge_rows-requires
judge_rows-requires c = (c.requires, children_none _)
