use mathlib.Core.Path.{sym, ◌∙◌}
use native.Mathlib.Omega.{arith}
use Rattle.scene.proofs.Rows.{chain_upto, scene_chain, scene_both}
use Rattle.scene.proofs.lay.Goals as goal

pub returns-then-not-unset : goal.returns-then-not-unset
returns-then-not-unset c = scene_chain _ _ _ _ _ _ _ _ (sym c.requires.1 ∙ c.if-not-unset.true) c.chain.ensures

pub overflow_cast-right : goal.overflow_cast-right
overflow_cast-right c = omega (arith, chain_upto _ _ _ _ 0 _ _ _ _ c.chain-right.ensures)

pub beside-requires : goal.beside-requires
beside-requires c =
    let few = chain_upto _ _ _ _ 0 _ _ _ _ c.chain-right.ensures in
    (omega arith, (omega (arith, few), omega (arith, few)))

pub returns : goal.returns
returns c =
    scene_both _ _ _ _ _ _ _ c.args.out.now _ _ _ (sym c.requires.1 ∙ c.if-not-unset.false) (omega arith) c.chain-right.ensures c.put.ensures c.beside.ensures
