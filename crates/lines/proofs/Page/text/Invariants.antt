use lib.ListN.{drop}
use Rattle.lines.proofs.Pages.{Putting}
use Rattle.lines.proofs.Page.text.Given as goal

abbrev pub invariant-loop-byte : goal.invariant-loop-byte
invariant-loop-byte l = Putting l.initial.self l.bytes l.self (drop l.byte-index l.bytes)
