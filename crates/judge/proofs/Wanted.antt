-- The links that JOIN rows want, and check 13 from them. Assumes nothing.
use Prim.Native.Nat.{ℕ, ◌+◌, ◌*◌, ◌<◌}
use mathlib.Core.Path.{◌≡◌, refl, sym, ◌∙◌}
use mathlib.Core.Bool.{Bool, true, false, cond, not}
use mathlib.Core.List.{List}
use mathlib.Core.Logic.{by_cases}
use native.Mathlib.Omega.{arith}
use native.Mathlib.Nat.{sub-zero}
use native.Mathlib.Decide.{ℕ_discrete}
use lib.Bits.{bit_or}
use lib.Dec.{eqb, leb}
use lib.ListN.{get_or}
use borrow.Author.Tests.{eqb-true, le-leb, leb-true}
use Rattle.laws.specs.Lowest.{lowest}
use Rattle.laws.specs.Checks.{place_of}
use Rattle.laws.proofs.Tests.{and_r, both_ways, cond_same}
use Rattle.laws.proofs.Up.{filled_at}
use Rattle.laws.proofs.Lowest.{lowest_same}
use Rattle.laws.proofs.Checks.{place_end}
use Rattle.conditions.specs.Conditions.{condition}
use Rattle.reach.specs.Masks.{has_bit, within, mask_at}
use Rattle.reach.proofs.Subsets.{within_has, within_all, within_first, within_second}
use Rattle.reach.proofs.Links.{mask_reached}
use Rattle.sheet.specs.Table.{Table, condition_row_at, is_compacted}
use Rattle.sheet.specs.Rules.{sources, wants, unsourced, sourced}
use Rattle.sheet.proofs.Rows.{join_below, join_asked}
use Rattle.sheet.proofs.Accepted.{links_below, none_unsourced}
use Rattle.judge.specs.declared.Notes.{Notes}
use Rattle.judge.specs.Judge.{AfterConditions, Sound, wants_within, row_within, Wanted, AfterRows}

-- what a row wants is within more, too
wants_more : (kind a : ℕ) (masks : List ℕ) (links links' : ℕ) → within links links' ≡ true → wants_within kind a masks links ≡ true → wants_within kind a masks links' ≡ true
unfolding wants_within
wants_more kind a masks links links' more = at (eqb kind 3)
  where
    at : (b : Bool) → cond b (within (get_or masks a 0) links) true ≡ true → cond b (within (get_or masks a 0) links') true ≡ true
    at true e = within_all _ _ (λ l h p. within_has links links' more l h (within_has _ _ e l h p))
    at false e = refl

-- what the rows below i want, one row further
module _ (ts masks : List ℕ) (i links : ℕ) (f : Wanted ts masks i links) where
  wanted_next : (links' : ℕ) → within links links' ≡ true → row_within ts masks links' i ≡ true → Wanted ts masks (i + 1) links'
  unfolding row_within
  wanted_next links' more here j h = by_cases (ℕ_discrete j i) (λ (e : j ≡ i). rw e here) (λ e. wants_more _ _ masks links links' more (f j (omega arith)))

  pub wanted_other : eqb (get_or ts (i * 4) 0) 3 ≡ false → Wanted ts masks (i + 1) links
  unfolding row_within wants_within
  wanted_other e = wanted_next links (within_all links links (λ l h p. p)) (rw e)

  pub wanted_join : eqb (get_or ts (i * 4) 0) 3 ≡ true → Wanted ts masks (i + 1) (bit_or links (get_or masks (get_or ts (i * 4 + 1) 0) 0))
  unfolding row_within wants_within
  wanted_join e = wanted_next _ (within_first links _) (rw e (within_second links _))

-- 13 of a condition row, by its mask and the links that have a source
module _ (t : Table) (fresh : is_compacted t.evaluation ≡ false) (masks : List ℕ) (g : AfterConditions t masks) (q : ℕ) (low : q < t.k) (linked : ℕ) (has : (l : ℕ) → l < 64 → has_bit linked l ≡ leb 1 (sources t.terms t.n l)) where
  mask_wants : (l : ℕ) → l < 64 → has_bit (get_or masks q 0) l ≡ wants t q l
  unfolding wants
  mask_wants l h = rw (fresh, filled_at 0 (mask_at t.conditions) t.k masks q g.masked low) (mask_reached (condition (condition_row_at t.conditions) q) l h)

  wants_below : (l : ℕ) → wants t q l ≡ true → l < t.m
  unfolding wants
  wants_below l w = links_below t.m t.k t.conditions g.sound q l low (and_r (not (is_compacted t.evaluation)) _ w)

  mask_sourced : within (get_or masks q 0) linked ≡ eqb (unsourced t q) 0
  mask_sourced =
      both_ways
      (λ e. (none_unsourced t q).1 (λ l h w. let small : l < 64 = omega (arith, g.few_links) in leb-true 1 _ (sym (has l small) ∙ within_has _ _ e l small (mask_wants l small ∙ w))))
      (λ e. within_all _ _ (λ l h p. let w : wants t q l ≡ true = sym (mask_wants l h) ∙ p in has l h ∙ le-leb 1 _ ((none_unsourced t q).0 e l (wants_below l w) w)))

module _ (t : Table) (fresh : is_compacted t.evaluation ≡ false) (masks : List ℕ) (s : Notes) (r : AfterRows t masks s) where
  row_rule : (j : ℕ) → j < t.n → row_within t.terms masks s.linked j ≡ (sourced t).rule j
  unfolding row_within wants_within Sound
  row_rule j h =
      cond_same (eqb (get_or t.terms (j * 4) 0) 3) true (λ e. mask_sourced t fresh masks r.conditions _ (join_below t.terms t.m t.n t.k j (r.sound j h) (eqb-true _ 3 e)) s.linked r.linked) ∙
      sym (join_asked (λ q. eqb (unsourced t q) 0) t.terms j)

  -- 13 holds where each link that is wanted has a source
  pub wanted_sourced : within s.wanted s.linked ≡ true → t.n ≡ place_of (sourced t)
  unfolding row_within
  wanted_sourced e = place_end (sourced t) (omega arith) (λ j a h. sym (row_rule j h) ∙ wants_more _ _ masks s.wanted s.linked e (r.wanted j h))

  -- ... and a search finds its place
  pub searched_sourced : lowest (row_within t.terms masks s.linked) 0 t.n ≡ place_of (sourced t)
  unfolding place_of
  searched_sourced = rw sub-zero (lowest_same (row_within t.terms masks s.linked) (sourced t).rule 0 t.n (λ j a h. row_rule j (omega arith)))
