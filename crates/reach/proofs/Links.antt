-- A mask's digits are the links reached, and the law of a table of masks that is filled in rising order. Assumes nothing.
use Prim.Native.Nat.{ℕ, ◌<◌, ◌≤◌, ◌^◌}
use mathlib.Core.Path.{◌≡◌, refl, sym, ◌∙◌, ap, ap₂, fun_ext}
use mathlib.Core.Bool.{Bool, true, false, cond}
use mathlib.Core.List.{List}
use native.Mathlib.Omega.{arith}
use native.Mathlib.Decide.{dec_lt}
use lib.Dec.{eqb, ltb}
use lib.ListN.{length, get_or}
use borrow.Author.Tests.{lt-ltb, le-ltb, ne_eqb}
use Rattle.laws.specs.Tests.{or}
use Rattle.laws.specs.Up.{below, Filled}
use Rattle.laws.specs.Listed.{listed}
use Rattle.laws.proofs.Tests.{refuted}
use Rattle.laws.proofs.Listed.{listed_same, listed_cut}
use Rattle.laws.proofs.Up.{filled_seen}
use Rattle.conditions.specs.Conditions.{Condition, constant, link, op, ConditionRow, FALSE, TRUE, LINK, OP, condition_by, condition, reached}
use Rattle.conditions.specs.Numbers.{links_of}
use Rattle.conditions.proofs.Evaluation.{condition_at_law}
use Rattle.sheet.specs.Table.{condition_row_at}
use Rattle.reach.specs.Masks.{has_bit, link_bit, mask_of, mask_by, mask_at}
use Rattle.reach.proofs.Bits.{bit_or_law, bit_power, bit_none}

pub mask_reached : (c : Condition) (l : ℕ) → l < 64 → has_bit (mask_of c) l ≡ reached c l
unfolding mask_of reached link_bit
mask_reached (constant b) l h = bit_none l
mask_reached (link k) l h = at (dec_lt k 64)
  where
    at : Dec (k < 64) → has_bit (cond (ltb k 64) (2 ^ k) 0) l ≡ eqb l k
    at (yes p) = rw (lt-ltb k 64 p) (bit_power k l)
    at (no p) = let q : 64 ≤ k = omega arith in rw (le-ltb k 64 q, ne_eqb l k (λ (e : l ≡ k). omega arith)) (bit_none l)
mask_reached (op o a b) l h = bit_or_law (mask_of a) (mask_of b) l ∙ ap₂ or (mask_reached a l h) (mask_reached b l h)

-- the links of a mask are those of the condition, in the same order
pub mask_links : (cs : List ℕ) (m row : ℕ) → m ≤ 64 → listed (has_bit (mask_at cs row)) 0 m ≡ links_of m (condition (condition_row_at cs) row)
unfolding links_of
mask_links cs m row h = listed_same (has_bit (mask_at cs row)) (reached (condition (condition_row_at cs) row)) 0 m (λ j a b. mask_reached (condition (condition_row_at cs) row) j (omega arith))

mask_by_law : (N : ConditionRow) (C : ℕ → Condition) → mask_of (condition_by N C) ≡ mask_by N (λ j. mask_of (C j))
unfolding mask_of mask_by condition_by
mask_by_law FALSE C = refl
mask_by_law TRUE C = refl
mask_by_law (LINK l) C = refl
mask_by_law (OP o a b) C = refl

sees : (cs : List ℕ) (row j : ℕ) → below 0 (mask_at cs) row j ≡ mask_of (below (constant false) (condition (condition_row_at cs)) row j)
unfolding below mask_of
sees cs row j = at (ltb j row)
  where
    at : (t : Bool) → cond t (mask_at cs j) 0 ≡ mask_of (cond t (condition (condition_row_at cs) j) (constant false))
    at true = refl
    at false = refl

-- the mask at a row, from a table that holds the masks below it
pub mask_at_law : (cs : List ℕ) (row : ℕ) (t : List ℕ) → Filled 0 (mask_at cs) row t → mask_by (condition_row_at cs row) (λ j. get_or t j 0) ≡ mask_at cs row
mask_at_law cs row t f =
    ap (mask_by (condition_row_at cs row)) (filled_seen 0 (mask_at cs) row t f ∙ fun_ext (sees cs row)) ∙
    sym (ap mask_of (condition_at_law (condition_row_at cs) row) ∙ mask_by_law (condition_row_at cs row) (below (constant false) (condition (condition_row_at cs)) row))

-- a mask has as many digits as the condition has links, where these are below m
pub mask_width : (cs : List ℕ) (m row : ℕ) → m ≤ 64 → ((l : ℕ) → reached (condition (condition_row_at cs) row) l ≡ true → l < m) → length (listed (has_bit (mask_at cs row)) 0 64) ≡ length (links_of m (condition (condition_row_at cs) row))
unfolding links_of
mask_width cs m row h small =
    let c : Condition = condition (condition_row_at cs) row in
    ap length (mask_links cs 64 row (omega arith) ∙ listed_cut (reached c) 0 m 64 h (λ j g. refuted (reached c j) (λ e. let z : j < m = small j e in omega arith)))
