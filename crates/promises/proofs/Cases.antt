-- THE CASES MARKED P, together: every row of the table holds. By computing both sides. Assumes nothing.
use mathlib.Core.Path.{◌≡◌, refl, sym, ◌∙◌, ap}
use mathlib.Core.List.Memᴰ
use mathlib.Core.List.{List, [], ◌∷◌, map, Memᴰ}
use mathlib.Core.Logic.{⊎_elim}
use Rattle.laws.specs.Tests.{or}
use Rattle.laws.specs.Down.{seen, down_by, down}
use Rattle.laws.specs.Up.{below, up_by, up}
use Rattle.laws.specs.Lowest.{lowest}
use Rattle.laws.specs.Sums.{sum, count}
use Rattle.laws.specs.Checks.{place_of, checked}
use Rattle.laws.specs.Listed.{listed, written}
use Rattle.calculus.specs.Places.{own, sets, falsifies, cleans}
use Rattle.calculus.specs.Rows.{rows}
use Rattle.calculus.specs.Steps.{join_turn, turn_of}
use Rattle.conditions.specs.Awaited.{lacks, awaited}
use Rattle.conditions.specs.Operators.{table}
use Rattle.conditions.specs.Conditions.{condition_by, condition, reached as reached_from, lazy, all_set, strict, value}
use Rattle.conditions.specs.Numbers.{digit, undigit, links_of, assign}
use Rattle.conditions.specs.Failure.{flips, offender, quiet, number, fails}
use Rattle.steps.specs.Rows.{term_by, term, first_of, second_of, is_join_prefix, is_join, condition_of_prefix, condition_of, is_source}
use Rattle.steps.specs.Marks.{stand, open_branches, remainder}
use Rattle.steps.specs.InFront.{names, parent_of, right_of, waits_by, undecided, waiting, waiting_step, passed_by, opens, leads, inherited_by, inherited, reached, in_front}
use Rattle.sheet.specs.Table.{row_by, row_at, operator_of, condition_row_by, condition_row_at, lazy_of, is_compacted, evaluation_of}
use Rattle.sheet.specs.Rules.{sized, settled, condition_rule, condition_ok, child_ok, term_rule, term_ok, same, namings, times_named, sources, join_ok, wants, unsourced, few_links_rule}
use Rattle.sheet.specs.Sheet.{number_at, front, sheet_of, head_of, terms_of, conditions_of, entry_ok, in_fours, contents_ok}
use Rattle.codec.specs.Answers.{read_of, part_of}
use Rattle.evaluate.specs.Values.{links_in}
use Rattle.moves.specs.Steps.{mode_of, turn_by, turn_at, kind_of, kind_by, kind_turned, kind_at, has_step, listed_of, falsify_from, falsified, is_waiting_pick, decided_of, climb_by, climbed, own_link, own_of, taken_of, dropped_of, acts_of, unset_of, stepped_by, stepped_of}
use Rattle.worth.specs.Worth.{awaited_at, worth_of}
use Rattle.moves.specs.Standing.{join_in_front, joins_of, waiting_by, waiting_of, awaited_of, awaits_of}
use Rattle.moves.specs.Fits.{suits_prefix, suits_branch, suits, mark_ok, link_ok, held, wait_ok, keeps_by, keeps, live, clear_prefix, clear_row, clear_ok, counts_ok}
use Rattle.engine.specs.ByValue.{taken_answer}
use Rattle.failure.specs.Failure.{fails_at, number_at as failure_at, link_at}
use Rattle.verdict.specs.Verdict.{sound, failing, fail_at, verdict_of}
use Rattle.layout.specs.Rows.{root, row_in, renumbered}
use Rattle.layout.specs.Bytes.{row_bytes, condition_bytes, laid}
use Rattle.layout.specs.InOrder.{size, in_order}
use Rattle.compacted.specs.Compacted.{is_kept, rank, kept_row, compacted_terms, compacted_by}
use Rattle.damage.specs.Scene.{out_by, setting, choice, any_unset, chain, beside, scene}
use Rattle.damage.specs.Reached.{reaches_by, reaches_row, renumbered_condition}
use Rattle.damage.specs.Damage.{offending, named, leaves_unset, is_reached, rank as condition_rank, kept_condition, kept_conditions, damage_conditions, damage_process, damage_head, damage_sheet, showable}
use Rattle.sheet_engine.specs.Answers.{verdict_answer, start_answer, list_answer, list_buffer, standing_by, standing_of, standing_answer, standing_buffer, waits_answer, waits_buffer, kind_answer, step_answer, compact_answer, compact_buffer, damage_answer, damage_buffer}
use Rattle.promises.specs.Calls.{listed_in, waiting_in, awaited_in}
use Rattle.promises.specs.Cases.{Case, table_read, answer_to, cases}

-- two lists of values that agree do so at every row
at_each : {A B : Type 0} (f g : A → B) (l : List A) → map f l ≡ map g l → (x : A) → Memᴰ x l → f x ≡ g x
at_each f g [] e x m = absurd (Memᴰ.not-nil m)
at_each f g (y ∷ l) e x m = ⊎_elim (λ q. ap f q ∙ ((let h : f y ≡ g y = cc in h) ∙ ap g (sym q))) (at_each f g l (cc) x) (Memᴰ.cases_cons m)

computed : map (λ c. answer_to (table_read c.sheet) c.question) cases ≡ map (λ c. c.answer) cases
unfolding or seen down_by down below up_by up lowest sum count place_of checked listed written own sets falsifies cleans join_turn turn_of table condition_by condition reached_from lazy all_set strict value digit undigit links_of assign flips offender quiet number fails term_by term first_of second_of is_source stand open_branches remainder names parent_of right_of waits_by undecided waiting waiting_step passed_by opens leads inherited_by inherited reached in_front row_by row_at operator_of condition_row_by condition_row_at lazy_of is_compacted evaluation_of sized settled condition_rule condition_ok child_ok term_rule term_ok same namings times_named sources join_ok wants unsourced few_links_rule number_at front sheet_of head_of terms_of conditions_of entry_ok in_fours contents_ok read_of part_of links_in mode_of turn_by turn_at kind_of kind_by kind_turned kind_at has_step listed_of falsify_from falsified is_waiting_pick decided_of climb_by climbed own_link own_of taken_of dropped_of acts_of unset_of stepped_by stepped_of suits_prefix suits_branch suits mark_ok link_ok held wait_ok keeps_by keeps live clear_prefix clear_row clear_ok counts_ok taken_answer fails_at failure_at link_at is_join_prefix is_join condition_of_prefix condition_of sound failing fail_at verdict_of verdict_answer start_answer join_in_front joins_of waiting_by waiting_of lacks awaited awaited_at worth_of awaited_of awaits_of standing_by standing_of list_answer list_buffer standing_answer standing_buffer waits_answer waits_buffer kind_answer step_answer rows root row_in renumbered row_bytes laid is_kept rank kept_row compacted_terms compacted_by compact_answer compact_buffer listed_in waiting_in awaited_in table_read answer_to out_by setting choice any_unset chain beside scene reaches_by reaches_row renumbered_condition offending named leaves_unset is_reached condition_rank kept_condition kept_conditions damage_conditions damage_process damage_head damage_sheet showable damage_answer damage_buffer condition_bytes size in_order
computed = refl

pub every_case : (c : Case) → Memᴰ c cases → answer_to (table_read c.sheet) c.question ≡ c.answer
every_case = at_each (λ c. answer_to (table_read c.sheet) c.question) (λ c. c.answer) cases computed
