use mathlib.Core.Path.{◌≡◌}
use native.Mathlib.Omega.{arith}
use Rattle.engine.proofs.Known.{knows}
use Rattle.engine.proofs.Waits.{waits_counted, wait_short, rows_room, rows_counted, rows_lent, wait_told}
use Rattle.engine.proofs.wait.Goals as goal

pub returns-then-out-size : goal.returns-then-out-size
returns-then-out-size c =
    let (e, g) = c.stand_by-found.ensures.1 in
    (waits_counted _ c.requires c.args.s _ _ (knows c.ask-reached.ensures c.values-vals.ensures) _ e, wait_short _ c.requires c.args.s _ _ (knows c.ask-reached.ensures c.values-vals.ensures) _ e c.args.out.now c.if-out-size.true)

pub slice_bounds-rows-end : goal.slice_bounds-rows-end
slice_bounds-rows-end c =
    let (e, g) = c.stand_by-found.ensures.1 in
    rows_room _ c.requires c.args.s _ _ (knows c.ask-reached.ensures c.values-vals.ensures) _ e _ _ (omega arith) g

pub slice_bounds-tell-end : goal.slice_bounds-tell-end
slice_bounds-tell-end c =
    let (e, g) = c.stand_by-found.ensures.1 in
    rows_counted _ c.requires c.args.s _ _ (knows c.ask-reached.ensures c.values-vals.ensures) _ e _ _ (omega arith) g

pub tell-requires : goal.tell-requires
tell-requires c =
    let (e, g) = c.stand_by-found.ensures.1 in
    let counted : c.stand_by-found.result.waiting ≡ _ = rows_counted _ c.requires c.args.s _ _ (knows c.ask-reached.ensures c.values-vals.ensures) _ e _ _ (omega arith) g in
    (omega (arith, counted, c.if-out-size.false), rows_lent _ c.requires c.args.s _ _ (knows c.ask-reached.ensures c.values-vals.ensures) _ e _ _ (omega arith) g)

pub returns : goal.returns
returns c =
    let (e, g) = c.stand_by-found.ensures.1 in (
      waits_counted _ c.requires c.args.s _ _ (knows c.ask-reached.ensures c.values-vals.ensures) _ e,
      wait_told _ c.requires c.args.s _ _ (knows c.ask-reached.ensures c.values-vals.ensures) _ e _ _ (omega arith) g c.args.out.now _ c.if-out-size.false c.tell.ensures,
    )
