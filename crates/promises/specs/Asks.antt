-- What it is for a contract to ask nothing of its caller.
use seplogic.Ra.Ura.{Ura}
use base.Logic.{SProp, ent}
use contract.Lifetimes.{Lfts}
use denote.Triple.Entry.{Args}
use denote.Triple.Clauses.{Ended, Clauses}

-- what its clauses require holds for all arguments, whatever else holds
abbrev pub AsksNothing : {M : Type 1} (𝓤 : Ura M) (T : Ended) → Clauses 𝓤 T → Type 2
AsksNothing 𝓤 T clauses = (κs : Lfts T.signature.lifetimes) (a : Args T.signature κs) (g : (clauses κs a).ghost) (P : SProp 𝓤) → ent 𝓤 P ((clauses κs a).requires g)
