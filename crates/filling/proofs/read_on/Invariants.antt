use Rattle.std.proofs.Common.{◌-◌, ◌≤◌, length}
use Rattle.filling.proofs.read_on.Given as goal

-- what was read lies in the buffer
abbrev pub invariant-loop-size : goal.invariant-loop-size
invariant-loop-size g l = l.size ≤ length l.buffer

-- the bytes that are still to be read
abbrev pub decreases-loop-size : goal.decreases-loop-size
decreases-loop-size g l = length l.initial.buffer - l.size
