use mathlib.Core.Path.{◌≡◌}
use Prim.Native.Nat.{◌^◌}
use Rattle.words.proofs.Patterns.{Laned, digit_at}
use Rattle.words.proofs.ternary.Given as goal

abbrev pub invariant-loop-j : goal.invariant-loop-j
invariant-loop-j l = (l.power ≡ 3 ^ l.i) × Laned (digit_at 3 l.d l.i l.x) l.j l.word
