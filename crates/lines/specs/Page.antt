-- A lent buffer that is filled from a place on, and where it is filled up to. A byte that finds no room is left out.
use Rattle.std.specs.Prelude.{◌≡◌, cond, List, [], ◌∷◌, ℕ, ◌+◌, ltb, length, set}
use Rattle.lines.specs.declared.Page as lent

pub record Page : Type 0 where
  pub bytes : List ℕ
  pub end : ℕ

abbrev pub page : List ℕ → ℕ → Page
page b e = record { bytes = b; end = e }

unfoldable pub more : Page → ℕ → Page
more p x = cond (ltb p.end (length p.bytes)) (page (set p.bytes p.end x) (p.end + 1)) p

unfoldable pub added : Page → List ℕ → Page
added p [] = p
added p (x ∷ xs) = added (more p x) xs

-- what a page of the code holds
abbrev pub page_of : lent.Page → Page
page_of p = page p.out.now p.at

-- the bytes are put, and the buffer is still the one that was lent
pub record Puts (p q : lent.Page) (xs : List ℕ) : Type 0 where
  pub same : q.out.ghost_name ≡ p.out.ghost_name
  pub put : page_of q ≡ added (page_of p) xs
