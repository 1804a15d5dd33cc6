use mathlib.Core.Path.{ap, refl, sym, ◌∙◌}
use Rattle.sheet.proofs.Refusals.{passed_on, judged_refused, judged_accepted}
use Rattle.codec.specs.Answers.{read_of}
use Rattle.std.specs.Prelude.{Ok}
use Rattle.sheet.specs.Rules.{no}
use Rattle.sheet.specs.declared.Head.{Head}
use Rattle.codec.proofs.Reading.{too_short, too_long, contents_refused, framed, parts_refused, parts_accepted}
use Rattle.codec.proofs.read.Goals as goal

pub returns-then-size-lt22 : goal.returns-then-size-lt22
unfolding read_of
returns-then-size-lt22 c = too_short no _ c.args.s.now c.if-size-lt22.true

pub returns-then-size-gt2066 : goal.returns-then-size-gt2066
unfolding read_of
returns-then-size-gt2066 c = too_long no _ c.args.s.now c.if-size-lt22.false c.if-size-gt2066.true

pub returns-then-fault-lt12 : goal.returns-then-fault-lt12
unfolding read_of
returns-then-fault-lt12 c = contents_refused no _ c.args.s.now c.if-size-lt22.false c.if-size-gt2066.false _ c.bad_contents-fault.ensures c.if-fault-lt12.true

pub judge_parts-requires : goal.judge_parts-requires
judge_parts-requires c = framed no (no {A = Head} 0 0) c.args.s.now c.if-size-lt22.false c.if-size-gt2066.false _ c.bad_contents-fault.ensures c.if-fault-lt12.false

pub returns-in_err-judge_parts : goal.returns-in_err-judge_parts
unfolding read_of
returns-in_err-judge_parts c =
    let r = judged_refused _ _ (sym c.judge_parts.ensures ∙ c.in_err-judge_parts.was) in
    rw (passed_on _ c.from_residual.ensures.1) (parts_refused no _ c.args.s.now c.if-size-lt22.false c.if-size-gt2066.false _ c.bad_contents-fault.ensures c.if-fault-lt12.false _ r.0 r.1)

pub returns : goal.returns
unfolding read_of
returns c =
    let e = judged_accepted _ _ (sym c.judge_parts.ensures ∙ c.in_ok-judge_parts.was) in
    ap Ok c.head_of.ensures ∙ parts_accepted no _ c.args.s.now c.if-size-lt22.false c.if-size-gt2066.false _ c.bad_contents-fault.ensures c.if-fault-lt12.false _ refl e
