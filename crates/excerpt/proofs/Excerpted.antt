-- WHAT IS LAID ARE THE CONDITION ROWS THAT ARE KEPT, from what the passes tell. Assumes nothing.
use Prim.Native.Nat.{ℕ, ◌<◌, ◌≤◌}
use mathlib.Core.Path.{◌≡◌, refl, sym, ◌∙◌, ap}
use mathlib.Core.List.{List}
use native.Mathlib.Omega.{arith}
use lib.ListN.{get_or}
use Rattle.laws.specs.Sums.{count}
use Rattle.laws.specs.Listed.{listed}
use Rattle.laws.proofs.Sums.{count_same}
use Rattle.laws.proofs.Listed.{listed_same, listed_under}
use Rattle.conditions.specs.Conditions.{ConditionRow, FALSE, TRUE, LINK, OP}
use Rattle.sheet.specs.Table.{Table, condition_row_at}
use Rattle.layout.specs.Bytes.{condition_bytes, laid}
use Rattle.layout.proofs.Bytes.{laid_same}
use Rattle.flags.specs.Flags.{flagged, Shows}
use Rattle.flags.proofs.Shown.{shown}
use Rattle.laying.specs.Told.{Tells}
use Rattle.laying.specs.LaidIn.{LaidIn}
use Rattle.damage.specs.Reached.{reaches_row, renumbered_condition, Lower, LowerTo}
use Rattle.damage.specs.Damage.{is_reached, rank, kept_condition, kept_conditions}
use Rattle.excerpt.specs.Excerpt.{new_bytes, new_conditions, Excerpts}

-- only the operands are asked for their new numbers
same_renumbered : (i : ℕ) (f g : ℕ → ℕ) (N : ConditionRow) → Lower i N → ((j : ℕ) → j < i → f j ≡ g j) → renumbered_condition f N ≡ renumbered_condition g N
unfolding Lower renumbered_condition
same_renumbered i f g FALSE l h = refl
same_renumbered i f g TRUE l h = refl
same_renumbered i f g (LINK x) l h = refl
same_renumbered i f g (OP o a b) l h = rw (h a l.0, h b l.1) refl

module _ (cs : List ℕ) (k c : ℕ) (few : k ≤ 256) (lower : LowerTo cs k) (F N : List ℕ) (shows : Shows (reaches_row (condition_row_at cs) c) 256 F) (ranks : Tells (count (flagged F)) 0 k N) where
  module _ (t : Table) (e : t.conditions ≡ cs) where
    -- the rows that are reached ...
    reached_is : (i : ℕ) → i < k → flagged F i ≡ is_reached t c i
    unfolding is_reached
    reached_is i h = shown _ 256 F shows i (omega arith) ∙ ap (λ (cs : List ℕ). reaches_row (condition_row_at cs) c i) (sym e)

    -- ... their new numbers ...
    rank_is : (i : ℕ) → i ≤ k → count (flagged F) i ≡ rank t c i
    unfolding rank
    rank_is i h = count_same (flagged F) (is_reached t c) i (λ j l. reached_is j (omega arith))

    -- ... and their bytes
    row_is : (i : ℕ) → i < k → new_bytes (condition_row_at cs i) N ≡ condition_bytes (kept_condition t c i)
    unfolding new_bytes kept_condition
    row_is i h =
        ap condition_bytes (same_renumbered i (λ j. get_or N j 0) (rank t c) (condition_row_at cs i) (lower i h) (λ j l. ranks.at j (omega arith) (omega arith) ∙ rank_is j (omega arith)) ∙
        ap (λ (cs : List ℕ). renumbered_condition (rank t c) (condition_row_at cs i)) (sym e))

  pub rows_are : (r : ℕ) (out : List ℕ) → LaidIn (count (flagged F) k) (new_conditions cs k F N) r out → Excerpts cs k c r out
  unfolding kept_conditions
  rows_are r out g t e f = record {
    counted = g.counted ∙ rank_is t e k (omega arith);
    begins =
        g.begins ∙
        (ap (laid (λ i. new_bytes (condition_row_at cs i) N)) (listed_same (flagged F) (is_reached t c) 0 k (λ j _ l. reached_is t e j (omega arith))) ∙
        (laid_same (λ i. new_bytes (condition_row_at cs i) N) (λ i. condition_bytes (kept_condition t c i)) (listed (is_reached t c) 0 k)
        (λ i m. row_is t e i (omega (arith, listed_under (is_reached t c) 0 k i m))) ∙
        ap (λ (n : ℕ). laid (λ i. condition_bytes (kept_condition t c i)) (listed (is_reached t c) 0 n)) (sym f)));
  }
