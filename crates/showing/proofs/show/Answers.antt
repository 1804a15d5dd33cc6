use mathlib.Core.Path.{refl, sym, ◌∙◌}
use native.Mathlib.Omega.{arith}
use Rattle.verdict.proofs.Judged.{accepted_judged}
use Rattle.verdict.proofs.Joins.{narrow}
use Rattle.showing.proofs.Answers.{not_shown}
use Rattle.showing.proofs.Asking.{not_inside, not_join, not_failing, asked_at_law}
use Rattle.showing.proofs.show.Goals as goal

pub returns-then-t-row : goal.returns-then-t-row
returns-then-t-row c = not_shown _ _ _ (not_inside _ _ c.if-t-row.true)

pub overflow_mul-row : goal.overflow_mul-row
overflow_mul-row c = omega (arith, (accepted_judged _ c.requires).few_terms)

pub bounds-t-row : goal.bounds-t-row
bounds-t-row c = omega (arith, (accepted_judged _ c.requires).lent_terms)

pub returns-then-t-row-ne3 : goal.returns-then-t-row-ne3
returns-then-t-row-ne3 c = not_shown _ _ _ (not_join _ _ c.if-t-row-ne3.true)

pub overflow_mul-c : goal.overflow_mul-c
overflow_mul-c c = omega (arith, (accepted_judged _ c.requires).few_terms)

pub overflow_add-c : goal.overflow_add-c
overflow_add-c c = omega (arith, (accepted_judged _ c.requires).few_terms)

pub bounds-t-row-2 : goal.bounds-t-row-2
bounds-t-row-2 c = omega (arith, (accepted_judged _ c.requires).lent_terms)

pub masks-masks-requires : goal.masks-masks-requires
masks-masks-requires c = let g = accepted_judged _ c.requires in (g.lent_conditions, g.few_conditions)

pub overflow_cast-c : goal.overflow_cast-c
overflow_cast-c c =
    omega (arith, (narrow _ (accepted_judged _ c.requires) _ c.masks-masks.ensures _ (omega arith) c.if-t-row-ne3.false _ _ refl c.mask_of-mask.ensures).few_rows)

pub of_condition-requires : goal.of_condition-requires
of_condition-requires c =
    narrow _ (accepted_judged _ c.requires) _ c.masks-masks.ensures _ (omega arith) c.if-t-row-ne3.false _ _ refl c.mask_of-mask.ensures

pub write-requires : goal.write-requires
write-requires c =
    asked_at_law _ _ c.if-t-row-ne3.false _ refl c.requires (omega arith) _ c.masks-masks.ensures _ c.mask_of-mask.ensures _ (sym c.of_condition.ensures ∙ c.in-Some.is)

pub returns-in-None : goal.returns-in-None
returns-in-None c = not_shown _ _ _ (not_failing _ _ c.if-t-row-ne3.false _ refl (sym c.of_condition.ensures ∙ c.in-None.is))
