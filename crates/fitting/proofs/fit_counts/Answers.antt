use Rattle.fitting.proofs.Places.{counts_right, counts_wrong}
use Rattle.fitting.proofs.fit_counts.Goals as goal

pub returns-then-not-s-acts : goal.returns-then-not-s-acts
returns-then-not-s-acts c = counts_wrong _ _ _ c.args.s.now _ _ c.acts-acts.ensures c.unset-unset.ensures c.if-not-s-acts.true

pub returns : goal.returns
returns c = counts_right _ _ _ c.args.s.now _ _ c.acts-acts.ensures c.unset-unset.ensures c.if-not-s-acts.false
