use mathlib.Core.Path.{◌≡◌}
use lib.ListN.{length}
use Rattle.laws.specs.Up.{Filled}
use Rattle.laws.proofs.Checks.{Scanned}
use Rattle.reach.specs.Masks.{mask_at}
use Rattle.sheet.specs.Rules.{conditions}
use Rattle.judge.proofs.bad_condition.Given as goal

abbrev pub invariant-loop-i : goal.invariant-loop-i
invariant-loop-i l = (length l.masks ≡ 256) × (Filled 0 (mask_at l.cs) l.i l.masks × Scanned (conditions l.m l.k l.cs) l.i)
