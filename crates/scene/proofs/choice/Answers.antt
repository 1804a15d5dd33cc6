use Rattle.scene.proofs.Rows.{choice_laid}
use Rattle.scene.proofs.choice.Goals as goal

pub returns : goal.returns
returns c =
    choice_laid c.args.n c.args.c c.args.l c.args.out.now _ _ _ _ _ _ _ c.requires.1
    c.put.ensures c.put-2.ensures c.put-3.ensures c.put-4.ensures c.put-5.ensures c.put-6.ensures c.put-7.ensures
