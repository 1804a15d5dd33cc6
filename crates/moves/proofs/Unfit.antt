-- A FITTING STATE IS NEEDED for what `AtOnce` says: in a state that breaks (d) one of two steps on the two sides of a FLOW may alter the kind of the other. By computing. Assumes nothing.
use Rattle.std.specs.Prelude.{Ok}
use mathlib.Core.Path.{◌≡◌, refl, sym, ◌∙◌}
use mathlib.Core.Bool.{true, false, true≢false}
use mathlib.Core.List.{[], ◌∷◌}
use Prim.Native.Nat.{ℕ, ◌≤◌}
use native.Mathlib.Omega.{arith}
use Rattle.laws.specs.Tests.{or}
use Rattle.laws.specs.Down.{seen, down_by, down}
use Rattle.laws.specs.Up.{below, up_by, up}
use Rattle.laws.specs.Lowest.{lowest}
use Rattle.laws.specs.Sums.{sum, count}
use Rattle.laws.specs.Checks.{place_of, checked}
use Rattle.laws.specs.Listed.{listed}
use Rattle.calculus.specs.Process.{join}
use Rattle.calculus.specs.Places.{own, cleans}
use Rattle.calculus.specs.Rows.{rows}
use Rattle.calculus.specs.Steps.{join_turn, turn_of}
use Rattle.conditions.specs.Conditions.{condition_by, condition, reached as reachedFrom, lazy, value}
use Rattle.conditions.specs.Numbers.{digit, undigit, links_of}
use Rattle.steps.specs.Rows.{term_by, term, first_of, second_of, Child, is_join_prefix, is_join, condition_of_prefix, condition_of, is_source}
use Rattle.steps.specs.Marks.{stand, open_branches}
use Rattle.steps.specs.InFront.{names, parent_of, waits_by, waiting, waiting_step, opens, leads, inherited_by, inherited, reached, in_front}
use Rattle.sheet.specs.Table.{Table, row_by, row_at, condition_row_by, condition_row_at, lazy_of, is_compacted, evaluation_of}
use Rattle.sheet.specs.Rules.{refuse, refusal_of, sized, settled, condition_rule, condition_ok, child_ok, term_rule, term_ok, same, namings, times_named, sources, join_ok, wants, unsourced, few_links_rule}
use Rattle.evaluate.specs.Values.{links_in}
use Rattle.state.specs.declared.State.{State}
use Rattle.state.specs.declared.StepKind.TheVariants.{Open, Clean}
use Rattle.state.specs.State.{fresh_of, set_of}
use Rattle.moves.specs.Steps.{mode_of, marks_of, Sized, turn_by, turn_at, kind_of, kind_by, kind_turned, kind_at, has_step, is_waiting_pick, decided_of, climb_by, climbed, own_link, own_of, taken_of, counted, stepped_by, stepped_of}
use Rattle.moves.specs.Above.{OnTwoSides}
use Rattle.moves.specs.Fits.{suits_prefix, suits_branch, suits, mark_ok, link_ok, held, wait_ok, keeps, live, clear_prefix, clear_row, clear_ok, marks_fit, links_fit, waits_fit}
use Rattle.moves.proofs.Moves.{not_clean}
use Rattle.moves.proofs.AtOnce.{Still}

-- 0 FLOW of 1 OUT of link 0, false, 2 NIL, and of 3 JOIN on link 0, 4 NIL
abbrev pub flow_table : Table
flow_table = record { evaluation = 1; m = 1; n = 5; k = 1; terms = 5 ∷ 1 ∷ 3 ∷ 0 ∷ 2 ∷ 0 ∷ 0 ∷ 2 ∷ 0 ∷ 0 ∷ 0 ∷ 0 ∷ 3 ∷ 0 ∷ 4 ∷ 0 ∷ 0 ∷ 0 ∷ 0 ∷ 0 ∷ []; conditions = 2 ∷ 0 ∷ 0 ∷ 0 ∷ [] }

-- cleaning, fresh but for link 0, which is true though its OUT waits
abbrev pub set_before : State
set_before = counted flow_table (set_of (fresh_of 1) 0 2)

sides : OnTwoSides flow_table 0 1 3
unfolding or seen down_by down rows term_by term Child row_by row_at
sides = record {
  left = 1;
  right = 3;
  is_flow = refl;
  one = record { in_sheet = omega arith; side = false; child = 1; at_side = refl; holds = refl };
  other = record { in_sheet = omega arith; side = true; child = 3; at_side = refl; holds = refl };
  two_sides = λ e. true≢false (sym e);
}

-- the table is accepted; (a), (b) and (c) hold, and (d) does not, at row 1, while the counts are right by `counted`; both rows have a step, and the JOIN is open before the OUT, and clean after it
pub unfit_alters : ((refusal_of flow_table).number ≡ 0)
    × (checked refuse (refuse 0 0) (marks_fit flow_table.terms 5 (mode_of 1) (marks_of set_before) ∷ (links_fit 1 set_before.links ∷ (waits_fit flow_table.terms 5 (marks_of set_before) ∷ []))) ≡ refuse 0 0)
    × (clear_ok flow_table.terms (marks_of set_before) set_before.links 1 ≡ false)
    × (has_step flow_table set_before 1 ≡ true) × (has_step flow_table set_before 3 ≡ true) × (kind_at flow_table set_before 3 ≡ Ok Open) × (kind_at flow_table (stepped_of flow_table set_before 1) 3 ≡ Ok Clean)
unfolding or below up_by up lowest sum count place_of checked listed own cleans join_turn turn_of condition_by condition reachedFrom lazy value digit undigit links_of
    first_of second_of is_join_prefix is_join condition_of_prefix condition_of is_source stand open_branches names parent_of waits_by waiting waiting_step opens leads inherited_by inherited reached in_front
    row_by row_at condition_row_by condition_row_at lazy_of is_compacted evaluation_of sized settled condition_rule condition_ok child_ok term_rule term_ok same namings times_named sources join_ok wants unsourced few_links_rule refusal_of links_in
    mode_of turn_by turn_at kind_of kind_by kind_turned kind_at has_step is_waiting_pick decided_of climb_by climbed own_link own_of taken_of stepped_by stepped_of suits_prefix suits_branch suits mark_ok link_ok held wait_ok keeps live clear_prefix clear_row clear_ok
unfit_alters = (refl, refl, refl, refl, refl, refl, refl)

-- so what `still_there` says of fitting states does not hold of all
pub fitting_needed : ((t : Table) → (refusal_of t).number ≡ 0 → (s : State) → s.mode ≤ 1 → Sized s → (f i j : ℕ) → OnTwoSides t f i j → has_step t s i ≡ true → has_step t s j ≡ true → Still t s i j) → ⊥
unfolding kind_of
fitting_needed all =
    let (accepted, _, _, one, other, before, after) = unfit_alters in
    not_clean (join 0) (sym before ∙ (sym (all flow_table accepted set_before (omega arith) (record { all_marks = refl; all_links = refl }) 0 1 3 sides one other).1 ∙ after))
