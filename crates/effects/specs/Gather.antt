-- "all links set by the remainder", gathered by recursion over the rows: the links below 64 as the bits of a word.
use Rattle.std.specs.Prelude.{ℕ, ◌<◌, ◌≡◌, Bool, true, false, cond, ◌&&◌, not, List, eqb, ltb}
use Rattle.calculus.specs.Places.{sets}
use Rattle.steps.specs.Rows.{Row, first_of, second_of, is_source, Kids}
use Rattle.steps.specs.Marks.{Marks}
use Rattle.steps.specs.InFront.{waiting_step}
use Rattle.sheet.specs.Table.{row_at}
use Rattle.reach.specs.Masks.{has_bit}
use Rattle.moves.specs.Steps.{remainder_in}
use Rattle.moves.specs.Fits.{keeps}

abbrev pub Gathers : ℕ → (ℕ → Bool) → Type 0
Gathers x f = (l : ℕ) → l < 64 → has_bit x l ≡ f l

-- the link that a row sets itself
unfoldable pub own_sets : Row → ℕ → ℕ → Bool
own_sets N m l = waiting_step N m && is_source N l

-- the children in a row's remainder; n where there is none
unfoldable pub kept_first : ℕ → Row → ℕ → ℕ
kept_first n N m = cond (keeps N m false) (first_of N) n

unfoldable pub kept_second : ℕ → Row → ℕ → ℕ
kept_second n N m = cond (keeps N m true && not (eqb (second_of N) 0)) (second_of N) n

-- the links that the remainder of a row sets; none from row n on
unfoldable pub sets_at : List ℕ → ℕ → Marks → ℕ → ℕ → Bool
sets_at ts n μ i l = ltb i n && sets (remainder_in ts n μ i) l

abbrev pub AllKids : List ℕ → ℕ → Type 0
AllKids ts n = (i : ℕ) → i < n → Kids i n (row_at ts i)

-- an OUT row's link is below 64
unfoldable pub OwnBelow : Row → Type 0
OwnBelow N = (l : ℕ) → is_source N l ≡ true → l < 64
