-- WHAT IS PROMISED OF `print`, as of every call: it ends, takes any input, and no second output fits its contract. Assumes nothing.
use mathlib.Core.Path.{◌≡◌, sym, ◌∙◌}
use seplogic.Ra.Ura.{Ura}
use base.Logic.{SProp}
use prog.Memory.{Memory}
use prog.Routine.{Routine}
use types.Logic.{Logic}
use contract.Monad.{Fun, top}
use borrow.Fn.World.{ArgsD, ResD}
use borrow.Fn.Kinds.{ended_of}
use contract.Lifetimes.{Lfts}
use denote.Triple.Clauses.{AtExit}
use Rattle.promises.specs.Asks.{AsksNothing}
use Rattle.printing.proofs.print as print_call
use Rattle.printing.specs.contracts.print as print_contract
use Rattle.printing.proofs.print.Reads as reads
use Rattle.printing.proofs.print.Kinds as kinds

-- "Every public call ends": it meets its contract, and a contract is met only by code that ends.
pub print_ends : {M : Type 1} → print_call.Statement.statement M
print_ends = print_call.Met.met

-- "and takes any bytes": its contract asks nothing of what is handed in.
module _ {M : Type 1} {𝓤 : Ura M} (𝓛 : Logic 𝓤) (at_mem : Memory → SProp 𝓤) (run : Routine → Fun 𝓤) where
  pub print_takes_any : AsksNothing 𝓤 print_contract.ended (print_contract.clauses 𝓛 at_mem run)
  print_takes_any κs a g P = top 𝓤 P

-- No second output fits: neither another number of bytes nor another content of the lent buffer.
pub print_one : (κs : Lfts 2) (a : ArgsD print_contract.signature κs) (z z' : AtExit (ended_of 2 kinds.ps kinds.r) κs) (r r' : ResD print_contract.signature κs) → reads.Post κs a r z → reads.Post κs a r' z' → (r ≡ r') × (z.1.0.now ≡ z'.1.0.now)
print_one κs a z z' r r' p q = (p.0.0 ∙ sym q.0.0, p.0.1 ∙ sym q.0.1)
