-- Runs of an accepted table: rows, each listed in the state before. Demand 3 over them.
use Rattle.std.specs.Prelude.{◌≡◌, true, List, [], ◌∷◌, map, ◌↔◌, Result, Ok, Err, ℕ}
use Rattle.calculus.specs.Order.{◌⊑◌}
use Rattle.calculus.specs.Places.{Grows}
use Rattle.sheet.specs.Table.{Table}
use Rattle.state.specs.declared.State.{State}
use Rattle.state.specs.declared.StepKind.TheVariants.{Act, Set, Open, Clean}
use Rattle.moves.specs.Steps.{Kind, links_of, kind_at, has_step, stepped_of, start_of}

pub data Run (t : Table) : State → Type 0 where
  done : {s : State} → Run t s
  take : {s : State} (r : ℕ) → has_step t s r ≡ true → Run t (stepped_of t s r) → Run t s

-- a step taken: its row and its kind
pub record Taken : Type 0 where
  pub row : ℕ
  pub kind : Kind

unfoldable pub taken : {t : Table} {s : State} → Run t s → List Taken
taken done = []
taken {t} {s} (take r e R) = record { row = r; kind = kind_at t s r } ∷ taken R

unfoldable pub last : {t : Table} {s : State} → Run t s → State
last {s = s} done = s
last (take r e R) = last R

-- the steps but the cleaning steps
abbrev pub unless_clean : Taken → Kind → List Taken → List Taken
unless_clean x (Ok (Act a)) l = x ∷ l
unless_clean x (Ok (Set a v)) l = x ∷ l
unless_clean x (Ok Open) l = x ∷ l
unless_clean x (Ok Clean) l = l
unless_clean x (Err e) l = x ∷ l

unfoldable pub struck : List Taken → List Taken
struck [] = []
struck (x ∷ l) = unless_clean x x.kind (struck l)

abbrev pub rows_of : List Taken → List ℕ
rows_of = map (λ x. x.row)

-- "both list the same steps, cleaning steps apart, and their links differ only where the run without cleaning says unset and the cleaned one false"
pub record Alike (t : Table) (s z : State) : Type 0 where
  pub same_steps : (r : ℕ) → ((has_step t s r ≡ true) ↔ ((has_step t z r ≡ true) × (kind_at t z r ≡ Ok Clean → ⊥)))
  pub same_kinds : (r : ℕ) → has_step t s r ≡ true → kind_at t s r ≡ kind_at t z r
  pub below : links_of s ⊑ links_of z

-- Demand 3: started fresh, without cleaning (mode 0) and with it (mode 1).
pub record Demand3 (t : Table) : Type 0 where
  pub forth : (G : Run t (start_of t 0)) → (H : Run t (start_of t 1)) × (taken H ≡ taken G) × Alike t (last G) (last H)
  pub back : (H : Run t (start_of t 1)) → (G : Run t (start_of t 0)) × (taken G ≡ struck (taken H)) × Alike t (last G) (last H)
  pub pair : (G : Run t (start_of t 0)) (H : Run t (start_of t 1)) → rows_of (taken G) ≡ rows_of (struck (taken H)) → Alike t (last G) (last H)
  pub stay : (mode : ℕ) (G : Run t (start_of t mode)) (K : Run t (last G)) → Grows (links_of (last G)) (links_of (last K))
