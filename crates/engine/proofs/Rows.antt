-- The rows that have a step and the JOINs in front, from the tables, and the rows that a state waits for. Assumes nothing.
use Prim.Native.Nat.{ℕ, ◌*◌}
use mathlib.Core.Path.{◌≡◌, refl, sym, ap, ap₂, ◌∙◌}
use mathlib.Core.Bool.{Bool, true, false, ◌&&◌, and-true}
use mathlib.Core.List.{List, [], ◌∷◌}
use native.Mathlib.Omega.{arith}
use lib.Dec.{eqb}
use lib.ListN.{get_or, length}
use borrow.Author.Tests.{lt-ltb, eq-eqb}
use Rattle.laws.specs.Listed.{listed, written}
use Rattle.laws.proofs.Tests.{and_false}
use Rattle.laws.proofs.Listed.{listed_same, written_fits}
use Rattle.calculus.specs.Process.{act, out, join}
use Rattle.steps.specs.Rows.{Row, NIL, PREFIX, BRANCH, is_join_prefix, is_join}
use Rattle.steps.specs.Marks.{stand}
use Rattle.steps.specs.InFront.{waits_by, waiting, reached, in_front}
use Rattle.sheet.specs.Table.{Table}
use Rattle.sheet.specs.Accepted.{WellFormed}
use Rattle.sheet.proofs.Rows.{row_join}
use Rattle.state.specs.declared.State.{State}
use Rattle.moves.specs.Steps.{marks_of, nodes, has_step, listed_of}
use Rattle.moves.specs.Standing.{join_in_front, joins_of, waiting_by, waiting_of}
use Rattle.flags.specs.Flags.{flagged}
use Rattle.flags.proofs.Shown.{shown}
use Rattle.front.proofs.Asking.{asked_reached}
use Rattle.std.specs.Result.{is_ok}
use Rattle.engine.specs.ByValue.{step_from, join_from, steps_from, waiting_from}
use Rattle.engine.proofs.Known.{Knows, kind_known, kind_step}

-- a JOIN in front, by the kind of the row
module _ (ts marks seen : List ℕ) (r : ℕ) where
  pub join_other : eqb (get_or ts (r * 4) 0) 3 ≡ false → false ≡ join_from ts marks seen r
  unfolding join_from
  join_other e = rw (row_join ts r ∙ e) (sym (and_false (flagged seen r)))

  pub join_there : get_or ts (r * 4) 0 ≡ 3 → (waits : Bool) → waits ≡ waits_by (stand (get_or marks r 0)) → (flagged seen r && waits) ≡ join_from ts marks seen r
  unfolding join_from
  join_there e waits f = rw (row_join ts r ∙ eq-eqb _ 3 e, f) refl

front_join : (N : Row) (m : ℕ) (b : Bool) → (b && (is_join N && waits_by (stand m))) ≡ (b && waiting N m && is_join N)
unfolding waiting is_join is_join_prefix
front_join N m false = refl
front_join NIL m true = refl
front_join (PREFIX (act a) c) m true = sym (and_false (waits_by (stand m)))
front_join (PREFIX (out l v) c) m true = sym (and_false (waits_by (stand m)))
front_join (PREFIX (join q) c) m true = sym (and-true (waits_by (stand m)))
front_join (BRANCH κ p q) m true = sym (and_false (waiting (BRANCH κ p q) m))

-- from the tables, the rows are document 01's
module _ (t : Table) (s : State) (seen vals : List ℕ) (k : Knows t s seen vals) where
  joins_from : listed (join_from t.terms s.marks seen) 0 t.n ≡ joins_of t s
  unfolding join_from joins_of join_in_front in_front
  joins_from =
      listed_same _ (join_in_front t s) 0 t.n (λ r a h.
      ap (λ (b : Bool). b && (is_join (nodes t r) && waits_by (stand (marks_of s r)))) (shown _ t.n seen k.seen_shows r (omega arith) ∙ asked_reached (nodes t) (marks_of s) r)
      ∙ (front_join (nodes t r) (marks_of s r) (reached (nodes t) (marks_of s) r) ∙ rw (lt-ltb r t.n (omega arith)) refl))

  module _ (w : WellFormed t) where
    pub steps_from_law : steps_from t.terms t.n s.mode s.marks seen vals ≡ listed_of t s
    unfolding steps_from step_from listed_of
    steps_from_law = listed_same _ (has_step t s) 0 t.n (λ r a h. ap is_ok (kind_known t w s seen vals k r) ∙ kind_step t s r)

    pub waiting_from_law : waiting_from t.terms t.n s.mode s.marks seen vals ≡ waiting_of t s
    unfolding waiting_from waiting_of
    waiting_from_law = ap₂ waiting_by steps_from_law joins_from

-- how many rows have a step tells what the state waits for; where it is nothing, nothing is written
pub nothing_waits : (steps joins : List ℕ) (k : ℕ) → k ≡ length steps → (k ≡ 0 → ⊥) → (lent : List ℕ) → (0 ≡ length (waiting_by steps joins)) × (lent ≡ written (waiting_by steps joins) lent)
unfolding waiting_by
nothing_waits [] joins k e h lent = absurd (h e)
nothing_waits (x ∷ steps) joins k e h lent = (refl, written_fits [] lent lent (omega arith) refl)

pub waits_joins : (steps joins : List ℕ) (k : ℕ) → k ≡ length steps → k ≡ 0 → waiting_by steps joins ≡ joins
unfolding waiting_by
waits_joins [] joins k e h = refl
waits_joins (x ∷ steps) joins k e h = absurd (omega arith)
