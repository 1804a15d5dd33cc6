-- Places beyond the rows are no part of a table: the damage of a row is shown, or not, as in the table without them, by the same bytes. Assumes nothing.
use Prim.Native.Nat.{ℕ, ◌<◌}
use mathlib.Core.Path.{◌≡◌, refl, sym, ◌∙◌, ap, ap₂}
use mathlib.Core.Bool.{Bool, true, false, cond}
use mathlib.Core.List.{List, [], ◌++◌}
use native.Mathlib.Omega.{arith}
use lib.Dec.{ltb}
use borrow.Author.Tests.{ltb-true}
use Rattle.laws.specs.Sums.{count}
use Rattle.laws.specs.Listed.{listed}
use Rattle.laws.proofs.Tests.{and_l, and_r, and_same}
use Rattle.laws.proofs.Up.{up_same}
use Rattle.laws.proofs.Listed.{listed_inside}
use Rattle.conditions.specs.Conditions.{ConditionRow, FALSE}
use Rattle.conditions.specs.Numbers.{links_of, assign}
use Rattle.steps.specs.Rows.{is_join, condition_of}
use Rattle.sheet.specs.Table.{Table, cut, row_at, condition_row_at}
use Rattle.sheet.specs.Accepted.{WellFormed}
use Rattle.sheet.proofs.Beyond.{row_same, condition_row_same, condition_same}
use Rattle.layout.specs.Bytes.{condition_bytes, laid}
use Rattle.layout.proofs.Bytes.{laid_same}
use Rattle.verdict.proofs.Beyond.{fails_same, number_same, link_same}
use Rattle.damage.specs.Scene.{any_unset}
use Rattle.damage.specs.Reached.{reaches_by, reaches_row, renumbered_condition}
use Rattle.damage.specs.Damage.{its_links, offending, named, leaves_unset, is_reached, rank, kept_condition, kept_conditions, damage_conditions, damage_process, damage_head, damage_sheet, condition_at, shown_sheet, showable}
use Rattle.damage.proofs.Damage.{join_inside}

-- of a condition row below k
module _ (t : Table) (c : ℕ) (h : c < t.k) where
  links_same : its_links (cut t) c ≡ its_links t c
  links_same = ap (links_of t.m) (condition_same t.k t.conditions c h)

  offending_same : offending (cut t) c ≡ offending t c
  unfolding offending
  offending_same = ap₂ assign links_same (number_same t.evaluation t.m t.k t.conditions c h)

  named_same : named (cut t) c ≡ named t c
  unfolding named
  named_same = link_same t.evaluation t.m t.k t.conditions c h

  leaves_same : leaves_unset (cut t) c ≡ leaves_unset t c
  unfolding leaves_unset
  leaves_same = ap₂ any_unset offending_same links_same

  reached_same : is_reached (cut t) c ≡ is_reached t c
  unfolding is_reached reaches_row
  reached_same =
      up_same (λ (k : ℕ). false) (λ i R. reaches_by i (condition_row_at (cut t).conditions i) R) (λ i R. reaches_by i (condition_row_at t.conditions i) R) c
      (λ i l R. ap (λ (N : ConditionRow). reaches_by i N R) (condition_row_same t.k t.conditions i (omega arith)))

  rank_same : rank (cut t) c ≡ rank t c
  unfolding rank
  rank_same = ap count reached_same

  kept_same : kept_conditions (cut t) c ≡ kept_conditions t c
  unfolding kept_conditions kept_condition
  kept_same =
      ap (λ (p : ℕ → Bool). laid (λ i. condition_bytes (kept_condition (cut t) c i)) (listed p 0 t.k)) reached_same ∙
      laid_same (λ i. condition_bytes (kept_condition (cut t) c i)) (λ i. condition_bytes (kept_condition t c i)) (listed (is_reached t c) 0 t.k)
      (λ i m.
      ap₂ (λ (ρ : ℕ → ℕ) (N : ConditionRow). condition_bytes (renumbered_condition ρ N)) rank_same
      (condition_row_same t.k t.conditions i (omega (arith, (listed_inside (is_reached t c) 0 t.k i m).1))))

  conditions_same : damage_conditions (cut t) c ≡ damage_conditions t c
  unfolding damage_conditions
  conditions_same = ap₂ (λ (x : List ℕ) (b : Bool). x ++ cond b (condition_bytes FALSE) []) kept_same leaves_same

  process_same : damage_process (cut t) c ≡ damage_process t c
  unfolding damage_process
  process_same = rw (links_same, offending_same, named_same, rank_same) refl

  head_same : damage_head (cut t) c ≡ damage_head t c
  unfolding damage_head
  head_same = rw (process_same, rank_same, leaves_same) refl

  sheet_same : damage_sheet (cut t) c ≡ damage_sheet t c
  unfolding damage_sheet
  sheet_same = rw (head_same, process_same, conditions_same) refl

-- of the row asked for, in an accepted table
module _ (t : Table) (w : WellFormed t) (row : ℕ) where
  condition_at_same : row < t.n → condition_at (cut t) row ≡ condition_at t row
  condition_at_same h = ap condition_of (row_same t.n t.terms row h)

  pub cut_shows : showable t row ≡ showable (cut t) row
  unfolding showable
  cut_shows = and_same (ltb row t.n) (λ a.
      let h : row < t.n = ltb-true row t.n a in
      rw (row_same t.n t.terms row h) (and_same (is_join (row_at t.terms row)) (λ is.
      let low : condition_at t row < t.k = join_inside t w row h is in
      rw (fails_same t.evaluation t.m t.k t.conditions (condition_at t row) low, head_same t (condition_at t row) low) refl)))

  pub cut_shown : showable t row ≡ true → shown_sheet t row ≡ shown_sheet (cut t) row
  unfolding showable
  cut_shown e =
      let h : row < t.n = ltb-true row t.n (and_l _ _ e) in
      let low : condition_at t row < t.k = join_inside t w row h (and_l _ _ (and_r (ltb row t.n) _ e)) in
      rw (condition_at_same h) (sym (sheet_same t (condition_at t row) low))
