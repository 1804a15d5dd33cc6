use Rattle.lanes.proofs.Rows.{Held}
use Rattle.lanes.proofs.value.Given as goal

abbrev pub invariant-loop-i : goal.invariant-loop-i
invariant-loop-i l = Held l.evaluation l.cs l.links.trues.now l.links.falses.now l.i l.trues l.falses l.kept
