use mathlib.Core.Path.{sym, ◌∙◌}
use native.Mathlib.Omega.{arith}
use Rattle.laws.proofs.Checks.{scanned_none, scanned_more}
use Rattle.moves.specs.Fits.{mode_check}
use Rattle.fitting.proofs.Alone.{alone_fails, alone_holds}
use Rattle.fitting.proofs.fit_mode.Goals as goal

pub returns-then-not-mode_ok : goal.returns-then-not-mode_ok
returns-then-not-mode_ok c = alone_fails _ _ (scanned_none (mode_check c.args.mode)) (omega arith) (sym c.mode_ok.ensures ∙ c.if-not-mode_ok.true)

pub returns : goal.returns
returns c = alone_holds _ _ (scanned_more _ _ (scanned_none (mode_check c.args.mode)) (omega arith) (sym c.mode_ok.ensures ∙ c.if-not-mode_ok.false)) (omega arith)
