use mathlib.Core.Path.{◌≡◌}
use lib.ListN.{length}
use Rattle.worth.specs.Pass.{byte_of}
use Rattle.worth.proofs.Telling.{Telling}
use Rattle.worth.proofs.tell.Given as goal

abbrev pub invariant-loop-i : goal.invariant-loop-i
invariant-loop-i l = (length l.asked ≡ 4) × Telling (byte_of l.ts l.cs l.links l.vals) l.joins l.i l.out l.initial.out
