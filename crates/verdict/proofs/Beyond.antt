-- "Places beyond these are no part of it": the verdict of an accepted table is that of the table without them. Assumes nothing.
use Prim.Native.Nat.{ℕ, ◌*◌, ◌<◌}
use mathlib.Core.Path.{◌≡◌, refl, sym, ◌∙◌, ap}
use mathlib.Core.Bool.{true, cond, not, ◌&&◌}
use mathlib.Core.List.{List}
use mathlib.Core.Logic.{by_cases}
use native.Mathlib.Omega.{arith}
use native.Mathlib.Decide.{dec_lt}
use lib.Dec.{ltb}
use lib.ListN.{take}
use borrow.Author.Tests.{le-ltb, not-false}
use Rattle.laws.proofs.Tests.{and_l}
use Rattle.laws.proofs.Lowest.{lowest_at, lowest_same}
use Rattle.calculus.specs.Process.{act, out, join}
use Rattle.steps.specs.Rows.{Row, NIL, PREFIX, BRANCH, is_join_prefix, is_join, condition_of_prefix, condition_of}
use Rattle.steps.proofs.Rows.{join_of}
use Rattle.sheet.specs.Table.{Table, cut, row_at}
use Rattle.sheet.specs.Accepted.{WellFormed}
use Rattle.sheet.proofs.Beyond.{row_same, condition_same}
use Rattle.failure.specs.Failure.{fails_at, number_at, link_at}
use Rattle.verdict.specs.declared.Verdict.{Verdict}
use Rattle.verdict.specs.declared.Verdict.TheVariants.{Pass}
use Rattle.verdict.specs.Verdict.{fails_in, sound, failing, fail_at, verdict_of}

-- the failure of a condition row below k
module _ (e m k : ℕ) (cs : List ℕ) (q : ℕ) (h : q < k) where
  pub fails_same : fails_at e m (take (4 * k) cs) q ≡ fails_at e m cs q
  unfolding fails_at
  fails_same = rw (condition_same k cs q h) refl

  pub number_same : number_at e m (take (4 * k) cs) q ≡ number_at e m cs q
  unfolding number_at
  number_same = rw (condition_same k cs q h) refl

  pub link_same : link_at e m (take (4 * k) cs) q ≡ link_at e m cs q
  unfolding link_at
  link_same = rw (condition_same k cs q h, number_same) refl

module _ (t : Table) (w : WellFormed t) where
  sound_same : (j : ℕ) → j < t.n → sound t j ≡ sound (cut t) j
  unfolding sound is_join is_join_prefix condition_of condition_of_prefix
  sound_same j h =
      by (row_at t.terms j) (λ q c e. fails_same t.evaluation t.m t.k t.conditions q (w.joins j q c h e)) ∙
      ap (λ (N : Row). not (is_join N && fails_in (cut t) (condition_of N))) (sym (row_same t.n t.terms j h))
    where
      by : (N : Row) → ((q c : ℕ) → N ≡ PREFIX (join q) c → fails_in (cut t) q ≡ fails_in t q) → not (is_join N && fails_in t (condition_of N)) ≡ not (is_join N && fails_in (cut t) (condition_of N))
      by NIL f = refl
      by (PREFIX (act a) c) f = refl
      by (PREFIX (out l b) c) f = refl
      by (PREFIX (join q) c) f = ap not (sym (f q c refl))
      by (BRANCH κ p q) f = refl

  failing_same : failing t ≡ failing (cut t)
  unfolding failing
  failing_same = lowest_same (sound t) (sound (cut t)) 0 t.n (λ j a b. sound_same j (omega arith))

  fail_same : (j : ℕ) → j < t.n → is_join (row_at t.terms j) ≡ true → fail_at t j ≡ fail_at (cut t) j
  unfolding fail_at
  fail_same j h is =
      let (d, e) = join_of (row_at t.terms j) is in
      let low : condition_of (row_at t.terms j) < t.k = w.joins j _ d h e in
      rw (row_same t.n t.terms j h, number_same t.evaluation t.m t.k t.conditions (condition_of (row_at t.terms j)) low, link_same t.evaluation t.m t.k t.conditions (condition_of (row_at t.terms j)) low) refl

  join_there : failing t < t.n → is_join (row_at t.terms (failing t)) ≡ true
  unfolding failing sound
  join_there h = and_l _ (fails_in t (condition_of (row_at t.terms (failing t)))) (not-false _ (lowest_at (sound t) 0 t.n (omega arith)))

  pub cut_verdict : verdict_of t ≡ verdict_of (cut t)
  unfolding verdict_of
  cut_verdict =
      by_cases (dec_lt (failing t) t.n)
      (λ (h : failing t < t.n). rw (← failing_same) (ap (λ (v : Verdict). cond (ltb (failing t) t.n) v Pass) (fail_same (failing t) h (join_there h))))
      (λ (h : failing t < t.n → ⊥). rw (← failing_same, le-ltb (failing t) t.n (omega arith)) refl)
