use native.Mathlib.Omega.{arith}
use Rattle.scene.proofs.Rows.{outs_upto, chain_laid}
use Rattle.scene.proofs.chain.Goals as goal

pub choice-requires : goal.choice-requires
choice-requires c = (omega (arith, outs_upto _ _ _ _ _ _ c.outs-next.ensures), omega (arith, outs_upto _ _ _ _ _ _ c.outs-next.ensures))

pub returns : goal.returns
returns c =
    chain_laid c.args.values.now _ c.args.l c.args.c c.args.n _ _ c.args.out.now _ _ c.requires.0.1 c.outs-next.ensures c.choice.ensures
