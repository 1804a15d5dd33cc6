-- The link that a condition waits for is reached, unset and the lowest such, and under both evaluations there is one wherever the value is unset. Assumes nothing.
use Prim.Native.Nat.{ℕ, ◌+◌, ◌<◌, ◌≤◌}
use mathlib.Core.Path.{◌≡◌, refl, sym, ◌∙◌, ap}
use mathlib.Core.Bool.{Bool, true, not, true≢false}
use mathlib.Core.Logic.{◌↔◌, by_cases}
use native.Mathlib.Omega.{arith}
use native.Mathlib.Decide.{dec_lt}
use borrow.Author.Tests.{not-true, not-false}
use Rattle.laws.specs.Lowest.{lowest}
use Rattle.laws.proofs.Tests.{refuted, not_both, and_l, and_r}
use Rattle.laws.proofs.Lowest.{lowest_below, lowest_at, lowest_is, lowest_found}
use Rattle.calculus.specs.Status.{Value, Unset, False, True, Links}
use Rattle.conditions.specs.Conditions.{Condition, reached, is_set, Evaluation, Strict, Lazy, value}
use Rattle.conditions.specs.Awaited.{lacks, awaited, Awaits}
use Rattle.conditions.proofs.Evaluation.{none_all_set, strict_unset, strict_lazy}
use Rattle.conditions.proofs.ByRows.{lazy_set}

is_unset : (u : Value) → not (is_set u) ≡ true → u ≡ Unset
is_unset Unset e = refl
is_unset False e = absurd (true≢false (sym e))
is_unset True e = absurd (true≢false (sym e))

module _ (c : Condition) (v : Links) where
  lacks_both : (l : ℕ) → lacks c v l ≡ true → (reached c l ≡ true) × (v l ≡ Unset)
  unfolding lacks
  lacks_both l e = (and_l _ _ e, is_unset (v l) (and_r (reached c l) _ e))

  both_lacks : (l : ℕ) → reached c l ≡ true → v l ≡ Unset → lacks c v l ≡ true
  unfolding lacks
  both_lacks l r z = rw (r, z)

  module _ (m : ℕ) where
    abbrev met : ℕ → Bool
    met l = not (lacks c v l)

    -- where one is found below m it is the one
    pub awaited_awaits : awaited m c v < m → Awaits c v (awaited m c v)
    unfolding awaited
    awaited_awaits h =
        let there = lacks_both (lowest met 0 m) (not-false _ (lowest_at met 0 m (omega arith))) in
        record { reached_there = there.0; unset_there = there.1; lowest_there = λ k r z. by_cases (dec_lt k (lowest met 0 m)) (λ g. absurd (not_both (both_lacks k r z) (not-true _ (lowest_below met 0 m k (omega arith) g)))) (λ g. omega arith) }

    -- ... and the one, where it is below m, is found
    pub awaits_awaited : (l : ℕ) → Awaits c v l → l < m → awaited m c v ≡ l
    unfolding awaited
    awaits_awaited l a h =
        lowest_is met 0 m l (omega arith)
        (λ j f g. ap not (refuted (lacks c v j) (λ e. let le : l ≤ j = a.lowest_there j (lacks_both j e).0 (lacks_both j e).1 in omega arith)))
        (omega arith)
        (ap not (both_lacks l a.reached_there a.unset_there))

    -- none below m
    awaited_none : (awaited m c v < m → ⊥) → (l : ℕ) → l < m → reached c l ≡ true → v l ≡ Unset → ⊥
    unfolding awaited
    awaited_none h l g r z = h (let f : lowest met 0 m < 0 + m = lowest_found met 0 m l (omega arith) (omega arith) (ap not (both_lacks l r z)) in omega arith)

  -- no second link is the one
  pub awaits_one : (l l' : ℕ) → Awaits c v l → Awaits c v l' → l ≡ l'
  awaits_one l l' a b =
      let p : l ≤ l' = a.lowest_there l' b.reached_there b.unset_there in
      let q : l' ≤ l = b.lowest_there l a.reached_there a.unset_there in
      omega arith

  -- where no link reached is unset both evaluations have a value
  value_set : (e : Evaluation) → ((k : ℕ) → reached c k ≡ true → v k ≡ Unset → ⊥) → is_set (value e c v) ≡ true
  unfolding value
  value_set Strict h = ap is_set (strict_lazy c v h) ∙ lazy_set c v (none_all_set c v h)
  value_set Lazy h = lazy_set c v (none_all_set c v h)

  -- UNSET, THEN AWAITED: under both evaluations a condition that is unset waits for a link.
  pub unset_awaited : (e : Evaluation) (m : ℕ) → ((k : ℕ) → reached c k ≡ true → k < m) → value e c v ≡ Unset → awaited m c v < m
  unset_awaited e m small z =
      by_cases (dec_lt (awaited m c v) m) (λ h. h)
      (λ h. absurd (true≢false (sym (value_set e (λ k r q. awaited_none m h k (small k r) r q)) ∙ ap is_set z)))

  pub unset_awaits : (e : Evaluation) (m : ℕ) → ((k : ℕ) → reached c k ≡ true → k < m) → value e c v ≡ Unset → Awaits c v (awaited m c v)
  unset_awaits e m small z = awaited_awaits m (unset_awaited e m small z)

  -- strictly, the other way round too; a lazy condition may be settled while it still reaches an unset link
  pub strict_awaited : (m : ℕ) → ((k : ℕ) → reached c k ≡ true → k < m) → (value Strict c v ≡ Unset) ↔ (awaited m c v < m)
  unfolding value
  strict_awaited m small = (λ z. unset_awaited Strict m small z, λ h. let a = awaited_awaits m h in strict_unset c v (awaited m c v) a.reached_there a.unset_there)
