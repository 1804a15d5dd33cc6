-- What is asked of 64 numbers at once, or of 64 link values: lane j is the number x + j, or the link values v j.
use Rattle.std.specs.Prelude.{ℕ, ◌+◌, ◌^◌, ◌<◌, ◌≡◌, Bool, not, List, length}
use Rattle.laws.specs.Lowest.{lowest}
use Rattle.calculus.specs.Status.{Links}
use Rattle.conditions.specs.Numbers.{assign}
use Rattle.conditions.specs.Total.{total, steady}
use Rattle.sheet.specs.Table.{eval_of}
use Rattle.reach.specs.Masks.{has_bit}
use Rattle.lanes.specs.Lanes.{LinksShow}
use Rattle.words.specs.declared.Base.{Base}
use Rattle.words.specs.declared.Base.TheVariants.{Two, Three}
use Rattle.words.specs.Words.{base_of}
use Rattle.failure.specs.Failure.{links_at}

-- the lanes at which a test fails
unfoldable pub Failing : (ℕ → Bool) → ℕ → ℕ → Type 0
Failing p x r = (j : ℕ) → j < 64 → has_bit r j ≡ not (p (x + j))

-- the link values of a number: total ones, or ones that may be unset
unfoldable pub given : Base → List ℕ → ℕ → Links
given Two = total
given Three = assign

-- so many numbers are tried
abbrev pub numbers : Base → ℕ → List ℕ → ℕ → ℕ
numbers b m cs row = base_of b ^ length (links_at m cs row)

module _ (b : Base) (e m : ℕ) (cs : List ℕ) (row : ℕ) where
  -- the condition is steady at a number
  abbrev pub steady_at : ℕ → Bool
  steady_at x = steady (eval_of e cs row) (given b (links_at m cs row) x)

  -- the smallest number at which it is not; how many there are where there is none
  abbrev pub first_at : ℕ
  first_at = lowest steady_at 0 (numbers b m cs row)

-- the lanes at which it is not
unfoldable pub Unsteady : ℕ → List ℕ → ℕ → List ℕ → List ℕ → ℕ → Type 0
Unsteady e cs row trues falses r = (v : ℕ → Links) → LinksShow trues falses v → (j : ℕ) → j < 64 → has_bit r j ≡ not (steady (eval_of e cs row) (v j))
