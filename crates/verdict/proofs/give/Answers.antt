use mathlib.Core.Path.{sym, ap, ◌∙◌}
use Rattle.laws.proofs.Lowest.{searched_none, searched_more, searched_stop, searched_end}
use Rattle.steps.specs.Rows.{is_join}
use Rattle.verdict.specs.Verdict.{failing}
use Rattle.verdict.proofs.Joins.{narrow_join, no_join_row, sound_other, sound_seen, sound_none, unsound_some, verdict_fail, verdict_pass, tried_none, tried_more}
use Rattle.verdict.proofs.give.Goals as goal

pub loop-j-init : goal.loop-j-init
loop-j-init c = record { tried = tried_none _; searched = searched_none _ _ }

pub loop-j-preserved-in_default : goal.loop-j-preserved-in_default
loop-j-preserved-in_default c =
    let i = c.loop-j.invariant in
    let o = sound_other _ c.loop-j.j (ap is_join (sym c.term_row.ensures) ∙ no_join_row _ c.in_default.not-Join) in
    record { tried = i.tried; searched = searched_more _ _ _ i.searched c.loop-j-test.true o }

pub loop-j-preserved-then-seen-condition : goal.loop-j-preserved-then-seen-condition
loop-j-preserved-then-seen-condition c =
    let i = c.loop-j.invariant in
    record { tried = i.tried; searched = searched_more _ _ _ i.searched c.loop-j-test.true (sound_seen _ c.loop-j.j _ _ (sym c.in-Join.ensures) _ i.tried c.if-seen-condition.true) }

pub of_condition-tried-requires : goal.of_condition-tried-requires
of_condition-tried-requires c = narrow_join _ c.requires _ c.masks-masks.ensures c.loop-j.j c.loop-j-test.true _ _ _ (sym c.in-Join.ensures) c.mask_of-mask.ensures

pub returns-in-Some : goal.returns-in-Some
unfolding failing
returns-in-Some c =
    let i = c.loop-j.invariant in
    let f = unsound_some _ c.loop-j.j _ _ (sym c.in-Join.ensures) _ (sym c.of_condition-tried.ensures ∙ c.in-Some.is) in
    f.1 ∙ verdict_fail _ c.loop-j.j c.loop-j-test.true (searched_stop _ _ _ i.searched c.loop-j-test.true f.0)

pub loop-j-preserved : goal.loop-j-preserved
loop-j-preserved c =
    let i = c.loop-j.invariant in
    let f = sound_none _ c.loop-j.j _ _ (sym c.in-Join.ensures) (sym c.of_condition-tried.ensures ∙ c.in_default-tried.is) in
    record { tried = tried_more _ _ _ i.tried f.0; searched = searched_more _ _ _ i.searched c.loop-j-test.true f.1 }

pub returns : goal.returns
unfolding failing
returns c = let l = c.loop-j in verdict_pass _ l.j c.loop-j-test.false (searched_end _ _ _ l.invariant.searched c.loop-j-test.false)
