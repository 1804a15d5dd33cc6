use mathlib.Core.Path.{refl, ap}
use Rattle.rows.specs.Term.{row_of}
use Rattle.layout.specs.Bytes.{row_bytes}
use Rattle.collect.proofs.NewRows.{new_step, new_branch, new_nil}
use Rattle.collect.proofs.new_row.Goals as goal

pub returns-in-Nil : goal.returns-in-Nil
returns-in-Nil c = new_nil _ _ _ _ _ (ap row_of c.in-Nil.is) refl

pub returns-in-Act : goal.returns-in-Act
unfolding row_bytes
returns-in-Act c = new_step _ _ _ _ _ (ap row_of c.in-Act.is) (rw (← c.rank_of.ensures) c.step_row.ensures)

pub returns-in-Out : goal.returns-in-Out
unfolding row_bytes
returns-in-Out c = new_step _ _ _ _ _ (ap row_of c.in-Out.is) (rw (← c.rank_of-in-Out.ensures) c.step_row-in-Out.ensures)

pub returns-in-Join : goal.returns-in-Join
unfolding row_bytes
returns-in-Join c = new_step _ _ _ _ _ (ap row_of c.in-Join.is) (rw (← c.rank_of-in-Join.ensures) c.step_row-in-Join.ensures)

pub returns-in-Pick : goal.returns-in-Pick
unfolding row_bytes
returns-in-Pick c = new_branch _ _ _ _ _ (ap row_of c.in-Pick.is) c.branch_row.ensures

pub returns-in-Flow : goal.returns-in-Flow
unfolding row_bytes
returns-in-Flow c = new_branch _ _ _ _ _ (ap row_of c.in-Flow.is) c.branch_row-in-Flow.ensures
