use mathlib.Core.Path.{refl, ap}
use Rattle.rows.specs.Term.{row_of}
use Rattle.rows.proofs.Terms.{step_row}
use Rattle.front.proofs.ByKind.{hand_step, hand_pick, hand_flow, hand_none}
use Rattle.front.proofs.hand.Goals as goal

pub returns-in-Nil : goal.returns-in-Nil
returns-in-Nil c = hand_none _ _ _ _ _ _ (ap row_of c.in-Nil.is) refl

pub returns-in-Act : goal.returns-in-Act
returns-in-Act c = hand_step _ _ _ _ _ _ (step_row _ _ c.in-Act.is).1 _ c.step_next.ensures c.mark_child.ensures

pub returns-in-Pick : goal.returns-in-Pick
returns-in-Pick c = hand_pick _ _ _ _ _ _ (ap row_of c.in-Pick.is) _ _ c.pick_next.ensures c.pick_next-in-Pick.ensures c.mark_both.ensures

pub returns-in-Flow : goal.returns-in-Flow
returns-in-Flow c = hand_flow _ _ _ _ _ _ (ap row_of c.in-Flow.is) c.mark_both-in-Flow.ensures
