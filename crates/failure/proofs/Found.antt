-- What the searches find, of a row that is narrow: whether the condition passes, and the number. Assumes nothing.
use Prim.Native.Nat.{ℕ, ◌<◌}
use mathlib.Core.Path.{◌≡◌, sym, ◌∙◌}
use mathlib.Core.Bool.{true, not}
use mathlib.Core.List.{List}
use native.Mathlib.Omega.{arith}
use borrow.Author.Tests.{le-leb, ltb-true}
use Rattle.laws.proofs.Lowest.{lowest_at}
use Rattle.conditions.specs.Failure.{fails}
use Rattle.conditions.specs.Total.{total, passes}
use Rattle.words.specs.declared.Base.TheVariants.{Two, Three}
use Rattle.words.specs.Words.{base_of}
use Rattle.failure.specs.Blocks.{given, numbers, steady_at, first_at}
use Rattle.failure.specs.Failure.{links_at, fails_at, number_at, Narrow}
use Rattle.failure.proofs.Search.{narrow_passes, narrow_unsteady, narrow_number}

module _ (m : ℕ) (cs : List ℕ) (row mask : ℕ) (g : Narrow m cs row mask) (e : ℕ) where
  -- the condition passes where it is steady at every total assignment
  pub totals_pass : numbers Two m cs row ≡ first_at Two e m cs row → not (fails_at e m cs row) ≡ true
  unfolding passes given base_of
  totals_pass z = sym (narrow_passes m cs row mask g e) ∙ le-leb _ _ (omega arith)

  pub totals_fail : (x : ℕ) → x < numbers Two m cs row → x ≡ first_at Two e m cs row → fails_at e m cs row ≡ true
  unfolding given base_of
  totals_fail x h z = narrow_unsteady m cs row mask g e (total (links_at m cs row) x) (rw z (lowest_at (steady_at Two e m cs row) 0 (numbers Two m cs row) (omega arith)))

  -- the number is the first in base 3
  pub number_is : first_at Three e m cs row ≡ number_at e m cs row
  unfolding given base_of
  number_is = sym (narrow_number m cs row mask g e)

  pub number_there : fails_at e m cs row ≡ true → numbers Three m cs row ≡ first_at Three e m cs row → ⊥
  unfolding given base_of fails_at number_at fails
  number_there f z = let h = ltb-true _ _ f in omega (arith, h, number_is)
