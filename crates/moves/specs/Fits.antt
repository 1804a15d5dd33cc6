-- Document 01: "A state fits a sheet if: (a) marks suit their rows and mode, and are 0 from row n on; (b) link values are 0 to 2, and 0 from link m on; (c) every row below a waiting ACT, OUT or JOIN waits; (d) each link set by the remainder is unset." Document 02, request 6: "10 gets a fifth part (e), a wrong count, place 0, checked last." As checks, with their places.
use Rattle.std.specs.Prelude.{Bool, true, false, cond, ◌&&◌, not, List, [], ◌∷◌, ℕ, suc, eqb, ltb, leb, get_or}
use Rattle.laws.specs.Tests.{or}
use Rattle.laws.specs.Checks.{Check, Holds}
use Rattle.calculus.specs.Process.{Prefix, act, out, join, Branching, pick, flow}
use Rattle.calculus.specs.Places.{Mode, cleans}
use Rattle.steps.specs.Rows.{Row, NIL, PREFIX, BRANCH}
use Rattle.steps.specs.Marks.{Marks, Stand, waits, passed, dropped, stand, open_branches}
use Rattle.steps.specs.InFront.{waits_by, waiting, waiting_step, opens, inherited}
use Rattle.sheet.specs.Table.{Table, row_at}
use Rattle.state.specs.declared.State.{State}
use Rattle.moves.specs.Steps.{mode_of, marks_of, links_of, remainder_in, acts_of, unset_of}

-- (a) "0 waiting; 1 passed (ACT, OUT, JOIN); 2 left taken, 3 right taken (PICK); 4 dropped (JOIN, cleaning only). NIL and FLOW stay 0."
unfoldable pub suits_prefix : Mode → Prefix → ℕ → Bool
suits_prefix m (act a) x = leb x 1
suits_prefix m (out l b) x = leb x 1
suits_prefix m (join c) x = or (leb x 1) (eqb x 4 && cleans m)

unfoldable pub suits_branch : Branching → ℕ → Bool
suits_branch pick x = or (eqb x 0) (or (eqb x 2) (eqb x 3))
suits_branch flow x = eqb x 0

unfoldable pub suits : Mode → Row → ℕ → Bool
suits m NIL x = eqb x 0
suits m (PREFIX π c) x = suits_prefix m π x
suits m (BRANCH κ p q) x = suits_branch κ x

unfoldable pub mark_ok : List ℕ → ℕ → Mode → Marks → ℕ → Bool
mark_ok ts n m μ i = cond (ltb i n) (suits m (row_at ts i) (μ i)) (eqb (μ i) 0)

-- (b) "link values are 0 to 2, and 0 from link m on"
unfoldable pub link_ok : ℕ → List ℕ → ℕ → Bool
link_ok m links l = cond (ltb l m) (leb (get_or links l 0) 2) (eqb (get_or links l 0) 0)

-- (c) a row is held if one above it is a waiting ACT, OUT or JOIN
unfoldable pub held : List ℕ → Marks → ℕ → Bool
held ts μ = inherited (row_at ts) false false (λ p s b. or b (waiting_step (row_at ts p) (μ p)))

unfoldable pub wait_ok : List ℕ → Marks → ℕ → Bool
wait_ok ts μ i = or (not (held ts μ i)) (waiting (row_at ts i) (μ i))

-- (d) a row is in the remainder if each row above it keeps the branch: a dropped JOIN keeps nothing, a decided PICK one branch
unfoldable pub keeps_by : Stand → Bool
keeps_by waits = true
keeps_by passed = true
keeps_by dropped = false

unfoldable pub keeps : Row → ℕ → Bool → Bool
keeps NIL m s = false
keeps (PREFIX π c) m s = keeps_by (stand m)
keeps (BRANCH κ p q) m s = opens (open_branches κ m) s

unfoldable pub live : List ℕ → Marks → ℕ → Bool
live ts μ = inherited (row_at ts) false true (λ p s b. b && keeps (row_at ts p) (μ p) s)

unfoldable pub clear_prefix : Prefix → List ℕ → Bool
clear_prefix (act a) links = true
clear_prefix (out l b) links = eqb (get_or links l 0) 0
clear_prefix (join c) links = true

unfoldable pub clear_row : Row → ℕ → List ℕ → Bool
clear_row NIL m links = true
clear_row (PREFIX π c) m links = or (not (waits_by (stand m))) (clear_prefix π links)
clear_row (BRANCH κ p q) m links = true

unfoldable pub clear_ok : List ℕ → Marks → List ℕ → ℕ → Bool
clear_ok ts μ links i = or (not (live ts μ i)) (clear_row (row_at ts i) (μ i) links)

-- The checks of a state, 9 and 10: "(a) lowest such row; (b) lowest link; (c) lowest row that should wait and does not; (d) lowest OUT row".
abbrev pub mode_check : ℕ → Check
mode_check mode = record { number = 9; from = mode; upto = suc mode; rule = λ x. leb x 1 }

abbrev pub marks_fit : List ℕ → ℕ → Mode → Marks → Check
marks_fit ts n m μ = record { number = 10; from = 0; upto = 256; rule = mark_ok ts n m μ }

abbrev pub links_fit : ℕ → List ℕ → Check
links_fit m links = record { number = 10; from = 0; upto = 64; rule = link_ok m links }

abbrev pub waits_fit : List ℕ → ℕ → Marks → Check
waits_fit ts n μ = record { number = 10; from = 0; upto = n; rule = wait_ok ts μ }

abbrev pub clear_fit : List ℕ → ℕ → Marks → List ℕ → Check
clear_fit ts n μ links = record { number = 10; from = 0; upto = n; rule = clear_ok ts μ links }

-- (e) both counts are right: it has one place, 0
unfoldable pub counts_ok : ℕ → List ℕ → ℕ → State → Bool
counts_ok m ts n s = eqb s.acts (acts_of (remainder_in ts n (marks_of s) 0)) && eqb s.unset (unset_of m (links_of s))

abbrev pub counts_fit : ℕ → List ℕ → ℕ → State → Check
counts_fit m ts n s = record { number = 10; from = 0; upto = 1; rule = λ _. counts_ok m ts n s }

abbrev pub fit_checks : Table → State → List Check
fit_checks t s =
    marks_fit t.terms t.n (mode_of s.mode) (marks_of s)
    ∷ (links_fit t.m s.links
    ∷ (waits_fit t.terms t.n (marks_of s)
    ∷ (clear_fit t.terms t.n (marks_of s) s.links
    ∷ (counts_fit t.m t.terms t.n s
    ∷ []))))

-- the state fits
pub record Fits (t : Table) (s : State) : Type 0 where
  pub marks_fit_holds : Holds (marks_fit t.terms t.n (mode_of s.mode) (marks_of s))
  pub links_fit_holds : Holds (links_fit t.m s.links)
  pub waits_fit_holds : Holds (waits_fit t.terms t.n (marks_of s))
  pub clear_fit_holds : Holds (clear_fit t.terms t.n (marks_of s) s.links)
  pub counts_fit_holds : Holds (counts_fit t.m t.terms t.n s)
