use mathlib.Core.Path.{refl, sym, ◌∙◌}
use native.Mathlib.Omega.{arith}
use Rattle.sheet.proofs.Accepted.{accepted_form}
use Rattle.sheet.proofs.Refusals.{passed_on, judged_refused, judged_accepted}
use Rattle.codec.proofs.Writing.{wrote_refused, wrote_short, wrote_whole}
use Rattle.codec.proofs.write.Goals as goal

pub returns-in_err-judge : goal.returns-in_err-judge
returns-in_err-judge c =
    let r = judged_refused _ _ (sym c.judge.ensures ∙ c.in_err-judge.was) in
    rw (passed_on _ c.from_residual.ensures.1) (wrote_refused _ _ _ _ _ r.0 r.1)

pub lay-size-requires : goal.lay-size-requires
lay-size-requires c = let w = accepted_form _ _ refl (judged_accepted _ _ (sym c.judge.ensures ∙ c.in_ok-judge.was)) in
    record { few_links = w.few_links; few_terms = w.few_terms; few_conditions = w.few_conditions; terms_lent = omega (arith, w.terms_lent); conditions_lent = omega (arith, w.conditions_lent) }

pub returns-then-room-size : goal.returns-then-room-size
returns-then-room-size c = wrote_short _ _ _ _ _ refl (judged_accepted _ _ (sym c.judge.ensures ∙ c.in_ok-judge.was)) _ _ c.lay-size.ensures.0 c.lay-size.ensures.1 c.if-room-size.true

pub returns : goal.returns
returns c = wrote_whole _ _ _ _ _ refl (judged_accepted _ _ (sym c.judge.ensures ∙ c.in_ok-judge.was)) _ _ c.lay-size.ensures.0 c.lay-size.ensures.1 c.if-room-size.false
