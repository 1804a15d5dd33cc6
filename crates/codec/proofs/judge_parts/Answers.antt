use Rattle.codec.proofs.Reading.{parts_judged}
use Rattle.codec.proofs.judge_parts.Goals as goal

pub returns : goal.returns
returns c = parts_judged _ _ _ _ _ c.head_of.ensures c.terms_in.ensures c.conditions_in.ensures c.judge.ensures
