use borrow.Author.Tests.{le-leb, lt-leb}
use Rattle.sheet.specs.Rules.{sized}
use Rattle.judge.proofs.sized_ok.Goals as goal

pub returns-then-n-lt1 : goal.returns-then-n-lt1
unfolding sized
returns-then-n-lt1 c = rw (lt-leb 1 _ c.if-n-lt1.true)

pub returns-then-n-gt256 : goal.returns-then-n-gt256
unfolding sized
returns-then-n-gt256 c = rw (le-leb 1 _ c.if-n-lt1.false, lt-leb _ 256 c.if-n-gt256.true)

pub returns-then-k-gt256 : goal.returns-then-k-gt256
unfolding sized
returns-then-k-gt256 c = rw (le-leb 1 _ c.if-n-lt1.false, le-leb _ 256 c.if-n-gt256.false, lt-leb _ 256 c.if-k-gt256.true)

pub returns-then-lt-n : goal.returns-then-lt-n
unfolding sized
returns-then-lt-n c = rw (le-leb 1 _ c.if-n-lt1.false, le-leb _ 256 c.if-n-gt256.false, le-leb _ 256 c.if-k-gt256.false, lt-leb _ _ c.if-lt-n.true)

pub returns : goal.returns
unfolding sized
returns c = rw (le-leb 1 _ c.if-n-lt1.false, le-leb _ 256 c.if-n-gt256.false, le-leb _ 256 c.if-k-gt256.false, le-leb _ _ c.if-lt-n.false)
