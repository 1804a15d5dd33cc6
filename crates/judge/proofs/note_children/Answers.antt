use native.Mathlib.Omega.{arith}
use borrow.Author.Tests.{ne_eqb}
use Rattle.sheet.proofs.Rows.{row_one_child}
use Rattle.judge.specs.Judge.{Few}
use Rattle.judge.proofs.Counts.{bumped_few, one_child, two_children}
use Rattle.judge.proofs.note_children.Goals as goal

pub bump-requires : goal.bump-requires
unfolding Few
bump-requires c = omega (arith, c.requires.1 c.first_by.result)

pub bump-requires-then-kind-gt3 : goal.bump-requires-then-kind-gt3
unfolding Few
bump-requires-then-kind-gt3 c = let g : Few c.bump.new.counts 512 = rw c.bump.ensures (bumped_few c.args.named.now c.first_by.result 511 (omega (arith, c.requires.0)) c.requires.1) in
    omega (arith, g c.second_by.result)

pub returns-then-kind-gt3 : goal.returns-then-kind-gt3
returns-then-kind-gt3 c = rw (c.bump-then-kind-gt3.ensures, c.bump.ensures, c.second_by.ensures, c.first_by.ensures) (two_children c.args.named.now _ (omega (arith, c.requires.0, c.first_by.ensures)) (omega (arith, c.requires.0, c.second_by.ensures)))

pub returns-else-kind-gt3 : goal.returns-else-kind-gt3
returns-else-kind-gt3 c = let k = c.args.kind in
    rw (c.bump.ensures, c.first_by.ensures) (one_child c.args.named.now _ (omega (arith, c.requires.0, c.first_by.ensures)) (row_one_child k _ _ _ (ne_eqb k 4 (λ e. omega arith)) (ne_eqb k 5 (λ e. omega arith))))
