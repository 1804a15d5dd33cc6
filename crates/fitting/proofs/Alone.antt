-- The answer to one check, from a scan; and whether the checks behind it are asked. Assumes nothing.
use Prim.Native.Nat.{ℕ, ◌<◌, ◌≤◌}
use mathlib.Core.Path.{◌≡◌, refl, sym, ◌∙◌}
use Rattle.std.specs.Prelude.{Result, Ok, Err}
use Rattle.std.specs.Result.{IsErrAnd}
use Rattle.std.proofs.lemmas.Result.{err_from_is_err_and}
use mathlib.Core.Bool.{Bool, true, false, cond}
use mathlib.Core.List.{List, [], ◌∷◌}
use lib.Dec.{ltb}
use Rattle.laws.specs.Checks.{Check, place_of, checked}
use Rattle.laws.proofs.Checks.{Scanned, scanned_stop, scanned_end, checked_fails, checked_holds}
use Rattle.sheet.specs.declared.Refusal.{Refusal}
use Rattle.sheet.specs.Rules.{no}
use Rattle.fitting.specs.Checks.{alone}

module _ (c : Check) (i : ℕ) (s : Scanned c i) where
  pub alone_fails : i < c.upto → c.rule i ≡ false → no c.number i ≡ alone c
  alone_fails h e = checked_fails no (Ok (tt {0})) c [] i (scanned_stop c i s h e) h

  pub alone_holds : c.upto ≤ i → Ok tt ≡ alone c
  unfolding checked
  alone_holds h = checked_holds no (Ok (tt {0})) c [] i (scanned_end c i s h) h

-- what was answered to a check says whether the checks behind it are asked
module _ (c : Check) (cs : List Check) (r : Result (Unit {0}) Refusal) (told : r ≡ alone c) where
  pub stops : (e : Refusal) → r ≡ Err e → (s : Result (Unit {0}) Refusal) → IsErrAnd s (λ x. x ≡ e) → s ≡ checked no (Ok (tt {0})) (c ∷ cs)
  unfolding checked
  stops e h s g = let p = err_from_is_err_and s g in rw (p.1, p.2) (at (ltb (place_of c) c.upto) (sym told ∙ h))
    where
      at : (b : Bool) → cond b (no c.number (place_of c)) (Ok (tt {0})) ≡ Err e → Err e ≡ cond b (no c.number (place_of c)) (checked no (Ok (tt {0})) cs)
      at true h = sym h
      at false h = cc

  pub goes_on : (u : Unit {0}) → r ≡ Ok u → checked no (Ok (tt {0})) cs ≡ checked no (Ok (tt {0})) (c ∷ cs)
  unfolding checked
  goes_on u h = at (ltb (place_of c) c.upto) (sym told ∙ h)
    where
      at : (b : Bool) → cond b (no c.number (place_of c)) (Ok (tt {0})) ≡ Ok u → checked no (Ok (tt {0})) cs ≡ cond b (no c.number (place_of c)) (checked no (Ok (tt {0})) cs)
      at true h = cc
      at false h = refl
