-- DEMAND 2, the steps: a listed step is one that R's rules allow, each allowed step is listed, and the state after it is what the rule says. In every state of the right size, fitting or not, in both modes, under both evaluations. Assumes nothing.
use mathlib.Core.Path.{◌≡◌, subst, subst₂}
use mathlib.Core.Bool.{true}
use mathlib.Core.List.{Memᴰ}
use mathlib.Core.Logic.{◌↔◌}
use Prim.Native.Nat.{ℕ}
use native.Mathlib.Omega.{arith}
use Rattle.laws.proofs.Listed.{listed_has, listed_holds}
use Rattle.calculus.specs.Process.{Process}
use Rattle.calculus.specs.Status.{Links}
use Rattle.calculus.specs.Plain.{Label}
use Rattle.calculus.specs.Places.{Single, label}
use Rattle.calculus.specs.Rules.{Rule}
use Rattle.calculus.specs.Rows.{row_of}
use Rattle.calculus.proofs.Rules.{to_rules, from_rules}
use Rattle.steps.specs.Rows.{term}
use Rattle.steps.proofs.Sources.{term_single}
use Rattle.steps.proofs.Marks.{remainder_single}
use Rattle.sheet.specs.Table.{Table, eval_in}
use Rattle.sheet.specs.Accepted.{WellFormed, SingleSource}
use Rattle.state.specs.declared.State.{State}
use Rattle.moves.specs.Steps.{mode_of, marks_of, links_of, Sized, nodes, left_in, kind_in, kind_at, has_step, listed_of, stepped_of, Listed}
use Rattle.moves.proofs.Moves.{has_turn, turn_parts, step_move, move_step}

-- one source in what is left, in any state
pub left_single : (t : Table) → WellFormed t → SingleSource t → (s : State) → Single (left_in t s)
left_single t w source s = remainder_single (marks_of s) (term (nodes t) t.n 0) (term_single (nodes t) t.n w.tree.kids w.tree.once source 0 w.tree.some_row)

-- the list holds exactly the rows that have a step
pub listed_rows_law : (t : Table) (s : State) (r : ℕ) → Memᴰ r (listed_of t s) ↔ (has_step t s r ≡ true)
unfolding listed_of
listed_rows_law t s r = (
  listed_holds (has_step t s) 0 t.n r,
  λ e.
      let (u, q) = has_turn t s r e in
      let (h, _, _) = turn_parts t s r u q in
      listed_has (has_step t s) 0 t.n r (omega arith) (omega arith) e,
)

-- A LISTED STEP IS ALLOWED: by a rule whose label shows its row and its kind.
pub listed_allowed : (t : Table) → WellFormed t → SingleSource t → (s : State) → Sized s → (r : ℕ) → has_step t s r ≡ true → (α : Label) × (row_of α ≡ r) × (kind_in α ≡ kind_at t s r) × Rule (eval_in t) (mode_of s.mode) (left_in t s) (links_of s) α (left_in t (stepped_of t s r)) (links_of (stepped_of t s r))
listed_allowed t w source s size r e =
    let (α, p, q, (y, a, b, c)) = step_move t w s size r e in (
      α,
      p,
      q,
      subst (λ (α : Label). Rule (eval_in t) (mode_of s.mode) (left_in t s) (links_of s) α (left_in t (stepped_of t s r)) (links_of (stepped_of t s r))) a
          (subst₂ (Rule (eval_in t) (mode_of s.mode) (left_in t s) (links_of s) (label (eval_in t) y)) b c (to_rules (eval_in t) (left_single t w source s) y)),
    )

-- AN ALLOWED STEP IS LISTED: at its row, with its kind, and it leads where the rule says.
pub allowed_listed : (t : Table) → WellFormed t → (s : State) → Sized s → (α : Label) (P : Process) (v : Links) → Rule (eval_in t) (mode_of s.mode) (left_in t s) (links_of s) α P v → Listed t s α P v
allowed_listed t w s size α P v h =
    let (y, a, b, c) = from_rules (eval_in t) h in
    subst (λ (α : Label). Listed t s α P v) a (subst₂ (Listed t s (label (eval_in t) y)) b c (move_step t w s size y))
