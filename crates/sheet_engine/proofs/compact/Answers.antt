use mathlib.Core.Path.{refl, sym, ◌∙◌}
use borrow.Author.Rules.{rules}
use Rattle.sheet_engine.proofs.Steps.{compact_refused, compact_short, compact_given, call_formed, call_refused, call_accepted, call_restarts}
use Rattle.sheet_engine.proofs.compact.Goals as goal

pub returns-in-Err : goal.returns-in-Err
returns-in-Err c =
    let d = call_refused _ c.args.s _ (sym c.judge_state.ensures ∙ c.in-Err.is) in
    record { value = compact_refused _ _ _ d.0 _ d.1; sized = search rules }

pub write-size-requires : goal.write-size-requires
write-size-requires c = call_formed _ c.args.s _ refl (call_accepted _ _ _ (sym c.judge_state.ensures ∙ c.in-Ok.is))

pub returns-then-room-size : goal.returns-then-room-size
returns-then-room-size c = record { value = (compact_short _ _ _ refl _ _ _ (call_accepted _ _ _ (sym c.judge_state.ensures ∙ c.in-Ok.is)) c.write-size.ensures.0 c.write-size.ensures.1 c.if-room-size.true); sized = search rules }

pub returns-else-room-size : goal.returns-else-room-size
returns-else-room-size c = let e = call_accepted _ _ _ (sym c.judge_state.ensures ∙ c.in-Ok.is) in
    record { value = compact_given _ _ _ refl _ _ _ e c.write-size.ensures.0 c.write-size.ensures.1 c.if-room-size.false _ (c.restart.ensures ∙ call_restarts _ _ _ refl e); sized = search (rules, c.well_formed) }
