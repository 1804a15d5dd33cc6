-- What a table of flags shows. Assumes nothing.
use Prim.Native.Nat.{ℕ, ◌+◌, ◌<◌}
use mathlib.Core.Path.{◌≡◌, ap, ◌∙◌}
use mathlib.Core.Bool.{Bool}
use mathlib.Core.List.{List}
use mathlib.Core.Logic.{by_cases}
use native.Mathlib.Omega.{arith}
use native.Mathlib.Decide.{ℕ_discrete}
use lib.Dec.{eqb}
use lib.ListN.{length, set, length-set}
use lib.Seq.{get_or-set_same, get_or-set_other}
use Rattle.laws.specs.Tests.{bit}
use Rattle.laws.specs.Listed.{listed}
use Rattle.laws.proofs.Tests.{bit_one}
use Rattle.laws.proofs.Listed.{listed_same}
use Rattle.flags.specs.Flags.{flagged, Shows}

module _ (v : ℕ → Bool) where
  -- a table that is filled row by row
  pub shows_none : (t : List ℕ) → length t ≡ 256 → Shows v 0 t
  shows_none t e = record { size = e; at = λ j h. absurd (omega arith) }

  pub shows_more : (i x : ℕ) (t : List ℕ) → Shows v i t → i < 256 → x ≡ bit (v i) → Shows v (i + 1) (set t i x)
  shows_more i x t g h e = record {
    size = length-set t i x ∙ g.size;
    at = λ j k.
        by_cases (ℕ_discrete j i)
        (λ (q : j ≡ i). rw q (get_or-set_same t i x 0 (omega (arith, g.size)) ∙ e))
        (λ q. get_or-set_other t i j x 0 q ∙ g.at j (omega arith));
  }

  module _ (n : ℕ) (t : List ℕ) (g : Shows v n t) where
    pub shown : (i : ℕ) → i < n → flagged t i ≡ v i
    shown i h = ap (λ (x : ℕ). eqb x 1) (g.at i h) ∙ bit_one (v i)

    -- the flagged rows are those at which the test holds
    pub shown_listed : listed (flagged t) 0 n ≡ listed v 0 n
    shown_listed = listed_same (flagged t) v 0 n (λ i a b. shown i (omega arith))
