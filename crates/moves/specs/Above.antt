-- Rows above and below each other, at any depth.
use Rattle.std.specs.Prelude.{◌≡◌, Bool, true, List, ℕ, ◌<◌}
use Rattle.calculus.specs.Process.{flow}
use Rattle.calculus.specs.Rows.{rows}
use Rattle.steps.specs.Rows.{BRANCH, term, Child}
use Rattle.steps.specs.InFront.{reached}
use Rattle.sheet.specs.Table.{Table, row_at}
use Rattle.state.specs.declared.State.{State}
use Rattle.moves.specs.Steps.{marks_of, nodes, is_waiting_pick}

-- row k stands below row i: in the process of one of its children
pub record Below (ts : List ℕ) (n i k : ℕ) : Type 0 where
  pub in_sheet : i < n
  pub side : Bool
  pub child : ℕ
  pub at_side : Child (row_at ts i) side child
  pub holds : rows (term (row_at ts) n child) k ≡ true

-- row k is a waiting PICK that one reaches, and r stands below it on the side
pub record PickAbove (t : Table) (s : State) (r k : ℕ) (side : Bool) : Type 0 where
  pub in_sheet : k < t.n
  pub undecided : is_waiting_pick (nodes t k) (marks_of s k) ≡ true
  pub comes_to : reached (nodes t) (marks_of s) k ≡ true
  pub child : ℕ
  pub at_side : Child (nodes t k) side child
  pub holds : rows (term (nodes t) t.n child) r ≡ true

-- Document 02, request 7: rows i and j "lie on the two sides of one waiting FLOW", row f. Each stands below it, on sides that differ; a FLOW always waits.
pub record OnTwoSides (t : Table) (f i j : ℕ) : Type 0 where
  pub left : ℕ
  pub right : ℕ
  pub is_flow : nodes t f ≡ BRANCH flow left right
  pub one : Below t.terms t.n f i
  pub other : Below t.terms t.n f j
  pub two_sides : one.side ≡ other.side → ⊥
