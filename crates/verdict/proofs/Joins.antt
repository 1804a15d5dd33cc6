-- JOIN rows in bytes, what is known of the condition of one, and condition rows that are tried once. Assumes nothing.
use Prim.Native.Nat.{ℕ, ◌+◌, ◌*◌, ◌<◌, ◌≤◌}
use mathlib.Core.Path.{◌≡◌, refl, sym, ◌∙◌, ap}
use mathlib.Core.Bool.{Bool, true, false, cond, not}
use mathlib.Core.List.{List}
use mathlib.Core.Logic.{by_cases}
use Rattle.std.proofs.Common.{Option, Some, None}
use native.Mathlib.Omega.{arith}
use native.Mathlib.Decide.{ℕ_discrete}
use lib.ListN.{length, get_or, set, replicate}
use lib.Seq.{get_or-set_other}
use borrow.Author.Tests.{lt-ltb, le-ltb, eq-eqb, ne_eqb}
use Rattle.laws.specs.Up.{Filled}
use Rattle.laws.proofs.Up.{filled_at, get_d_constant}
use Rattle.calculus.specs.Process.{join}
use Rattle.steps.specs.Rows.{PREFIX, is_join_prefix, is_join, condition_of_prefix, condition_of}
use Rattle.sheet.specs.Table.{Table, row_at}
use Rattle.sheet.proofs.Rows.{row_join, join_row}
use Rattle.rows.specs.declared.term.TermRow.{TermRow}
use Rattle.rows.specs.declared.term.TermRow.TheVariants.{Nil, Act, Out, Join, Pick, Flow}
use Rattle.rows.specs.Term.{row_of}
use Rattle.reach.specs.Masks.{mask_at}
use Rattle.failure.specs.declared.Failure.{Failure}
use Rattle.failure.specs.Failure.{number_at, link_at, failure_of, Narrow}
use Rattle.verdict.specs.declared.Verdict.TheVariants.{Pass, Fail}
use Rattle.verdict.specs.Verdict.{fails_in, sound, failing, fail_at, verdict_of, Judged}
use Rattle.verdict.specs.Tried.{Tried}

-- a row of kind 3 is a JOIN on the row that its second byte names
module _ (ts : List ℕ) (j : ℕ) where
  abbrev pub kind_at : ℕ
  kind_at = get_or ts (j * 4) 0

  abbrev pub second_at : ℕ
  second_at = get_or ts (j * 4 + 1) 0

  pub join_is : kind_at ≡ 3 → is_join (row_at ts j) ≡ true
  join_is e = row_join ts j ∙ eq-eqb kind_at 3 e

  no_join : (kind_at ≡ 3 → ⊥) → is_join (row_at ts j) ≡ false
  no_join h = row_join ts j ∙ ne_eqb kind_at 3 h

  pub join_condition_law : kind_at ≡ 3 → condition_of (row_at ts j) ≡ second_at
  unfolding condition_of condition_of_prefix
  join_condition_law e = rw (join_row ts j e) refl

-- a JOIN row of a judged table, and the table of masks
module _ (t : Table) (g : Judged t) (masks : List ℕ) (f : Filled 0 (mask_at t.conditions) t.k masks) (j : ℕ) (h : j < t.n) where
  pub narrow_join : (q d mask : ℕ) → row_at t.terms j ≡ PREFIX (join q) d → mask ≡ get_or masks q 0 → Narrow t.m t.conditions q mask
  narrow_join q d mask r e =
      let c : q < t.k = g.join_below_k j q d h r in
      let lent : t.k * 4 ≤ length t.conditions = g.lent_conditions in
      let few : t.k ≤ 256 = g.few_conditions in
      record {
        lent = omega arith;
        few_rows = omega arith;
        few_links = g.few_links;
        below_m = (λ l e. g.link_below_m q l c e);
        narrow = g.eight_links j q d h r;
        its_mask = e ∙ filled_at 0 (mask_at t.conditions) t.k masks q f c;
      }

  pub narrow : kind_at t.terms j ≡ 3 → (row mask : ℕ) → row ≡ second_at t.terms j → mask ≡ get_or masks (second_at t.terms j) 0 → Narrow t.m t.conditions row mask
  narrow is row mask at_row e = rw at_row (narrow_join (second_at t.terms j) _ mask (join_row t.terms j is) e)

-- a row that is no JOIN, as the source has it
pub no_join_row : (r : TermRow) → ((q d : ℕ) → r ≡ Join q d → ⊥) → is_join (row_of r) ≡ false
unfolding is_join is_join_prefix
no_join_row Nil h = refl
no_join_row (Act a d) h = refl
no_join_row (Out l v d) h = refl
no_join_row (Join q d) h = absurd (h q d refl)
no_join_row (Pick p q) h = refl
no_join_row (Flow p q) h = refl

module _ (t : Table) (j : ℕ) where
  pub sound_other : is_join (row_at t.terms j) ≡ false → sound t j ≡ true
  unfolding sound
  sound_other h = rw h refl

  module _ (q d : ℕ) (r : row_at t.terms j ≡ PREFIX (join q) d) where
    -- a JOIN row is sound exactly if its condition does not fail
    pub sound_join : sound t j ≡ not (fails_in t q)
    unfolding sound is_join is_join_prefix condition_of condition_of_prefix
    sound_join = rw r refl

    pub sound_seen : (seen : List Bool) → Tried t seen → get_or seen q false ≡ true → sound t j ≡ true
    unfolding Tried
    sound_seen seen s e = sound_join ∙ ap not (s q e)

    -- where it has no failure its condition passes
    pub sound_none : failure_of t.evaluation t.m t.conditions q ≡ None → (fails_in t q ≡ false) × (sound t j ≡ true)
    unfolding failure_of
    sound_none e = let z = at (fails_in t q) e in (z, sound_join ∙ ap not z)
      where
        at : (f : Bool) → ◌≡◌ {A = Option Failure} (cond f (Some (record { number = number_at t.evaluation t.m t.conditions q; link = link_at t.evaluation t.m t.conditions q })) None) None → f ≡ false
        at true e = cc
        at false e = refl

    -- ... and a failure of it is that of the verdict
    pub unsound_some : (x : Failure) → failure_of t.evaluation t.m t.conditions q ≡ Some x → (sound t j ≡ false) × (Fail j x.number x.link ≡ fail_at t j)
    unfolding failure_of fail_at condition_of condition_of_prefix
    unsound_some x e = let z = at (fails_in t q) e in (sound_join ∙ ap not z.0, rw r z.1)
      where
        at : (f : Bool) → ◌≡◌ {A = Option Failure} (cond f (Some (record { number = number_at t.evaluation t.m t.conditions q; link = link_at t.evaluation t.m t.conditions q })) None) (Some x) → (f ≡ true) × (Fail j x.number x.link ≡ Fail j (number_at t.evaluation t.m t.conditions q) (link_at t.evaluation t.m t.conditions q))
        at true e = (refl, cc)
        at false e = cc

  pub verdict_fail : j < t.n → j ≡ failing t → fail_at t j ≡ verdict_of t
  unfolding verdict_of
  verdict_fail h p = rw (← p, lt-ltb j t.n h) refl

  pub verdict_pass : t.n ≤ j → j ≡ failing t → Pass ≡ verdict_of t
  unfolding verdict_of
  verdict_pass h p = rw (← p, le-ltb j t.n h) refl

-- a condition row is tried once
pub tried_none : (t : Table) → Tried t (replicate 256 false)
unfolding Tried
tried_none t c h = let z = get_d_constant {A = Bool} false 256 c in cc

pub tried_more : (t : Table) (seen : List Bool) (q : ℕ) → Tried t seen → fails_in t q ≡ false → Tried t (set seen q true)
unfolding Tried
tried_more t seen q s e c h = by_cases (ℕ_discrete c q) (λ (p : c ≡ q). rw p e) (λ (p : c ≡ q → ⊥). s c (sym (get_or-set_other seen q c true false p) ∙ h))
