-- Document 02, request 9, "activities 1, 2 in that order": the activities of a run.
use Rattle.std.specs.Prelude.{ℕ, List, [], ◌∷◌, Ok, Err}
use Rattle.state.specs.declared.StepKind.TheVariants.{Act, Set, Open, Clean}
use Rattle.moves.specs.Steps.{Kind}
use Rattle.moves.specs.Runs.{Taken}

-- a step's activity, before others; no other kind has one
abbrev pub act_then : Kind → List ℕ → List ℕ
act_then (Ok (Act a)) l = a ∷ l
act_then (Ok (Set k v)) l = l
act_then (Ok Open) l = l
act_then (Ok Clean) l = l
act_then (Err e) l = l

unfoldable pub activities_of : List Taken → List ℕ
activities_of [] = []
activities_of (x ∷ l) = act_then x.kind (activities_of l)
