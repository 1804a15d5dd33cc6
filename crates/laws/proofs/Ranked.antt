-- How many numbers below a number meet a test: the rank of those that do. Assumes nothing.
use Prim.Native.Nat.{ℕ, zero, suc, ◌+◌, ◌-◌, ◌<◌, ◌≤◌}
use mathlib.Core.Path.{◌≡◌, refl, ◌∙◌, ap}
use mathlib.Core.Bool.{Bool, true, false, cond}
use mathlib.Core.List.{List, ◌∷◌, map}
use mathlib.Core.Logic.{⊎_elim, by_cases}
use native.Mathlib.Omega.{arith}
use native.Mathlib.Decide.{dec_lt}
use lib.ListN.{length}
use Rattle.laws.specs.Sums.{sum, count}
use Rattle.laws.specs.Listed.{listed}
use Rattle.laws.proofs.Tests.{cases, not_both, refuted}
use Rattle.laws.proofs.Sums.{count_zero}

module _ (p : ℕ → Bool) where
  pub count_hit : (i : ℕ) → p i ≡ true → count p (suc i) ≡ count p i + 1
  unfolding count sum
  count_hit i e = rw e

  pub count_miss : (i : ℕ) → p i ≡ false → count p (suc i) ≡ count p i
  unfolding count sum
  count_miss i e = rw e (omega arith)

  count_grows : (i c : ℕ) → count p i ≤ count p (i + c)
  count_grows i zero = let z : i + 0 ≡ i = omega arith in rw z (omega arith)
  count_grows i (suc c) =
      let z : i + suc c ≡ suc (i + c) = omega arith in
      rw z (⊎_elim (λ (e : p (i + c) ≡ true). omega (arith, count_hit (i + c) e, count_grows i c)) (λ (e : p (i + c) ≡ false). omega (arith, count_miss (i + c) e, count_grows i c)) (cases (p (i + c))))

  pub count_up : (i j : ℕ) → i ≤ j → count p i ≤ count p j
  count_up i j h = let z : i + (j - i) ≡ j = omega arith in rw z at (count_grows i (j - i))

  -- ranks rise
  pub rank_rises : (i j : ℕ) → p i ≡ true → i < j → count p i < count p j
  rank_rises i j e h = omega (arith, count_hit i e, count_up (suc i) j (omega arith))

  -- and each number below the count is one
  pub rank_of : (n j : ℕ) → j < count p n → (k : ℕ) × (k < n) × (p k ≡ true) × (count p k ≡ j)
  unfolding count sum
  rank_of zero j h = absurd (let z : ⊥ = omega arith in z)
  rank_of (suc n) j h =
      by_cases (dec_lt j (count p n))
      (λ l. let (k, a, b, c) = rank_of n j l in (k, omega arith, b, c))
      (λ l. ⊎_elim
      (λ (e : p n ≡ true). (n, omega arith, e, omega (arith, count_hit n e)))
      (λ (e : p n ≡ false). absurd (let z : ⊥ = omega (arith, count_miss n e) in z))
      (cases (p n)))

  -- as many as are listed
  listed_count : (i c : ℕ) → length (listed p i c) + count p i ≡ count p (i + c)
  unfolding listed
  listed_count i zero = let z : i + 0 ≡ i = omega arith in rw z (omega arith)
  listed_count i (suc c) =
      let z : i + suc c ≡ suc i + c = omega arith in
      rw z (⊎_elim
      (λ (e : p i ≡ true). rw e (omega (arith, count_hit i e, listed_count (suc i) c)))
      (λ (e : p i ≡ false). rw e (omega (arith, count_miss i e, listed_count (suc i) c)))
      (cases (p i)))

  pub listed_all : (n : ℕ) → length (listed p 0 n) ≡ count p n
  listed_all n = let z : 0 + n ≡ n = omega arith in omega (arith, listed_count 0 n, ap (count p) z, count_zero p)

  -- A test of ranks, which agrees with one of the numbers, lists the ranks of what that one lists.
  module _ (q r : ℕ → Bool) (inside : (k : ℕ) → q k ≡ true → p k ≡ true) (agree : (k : ℕ) → p k ≡ true → r (count p k) ≡ q k) where
    put : (b : Bool) (i c a : ℕ) (l : List ℕ) → a ≡ count p i → l ≡ map (count p) (listed q (suc i) c) → cond b (a ∷ l) l ≡ map (count p) (cond b (i ∷ listed q (suc i) c) (listed q (suc i) c))
    put true i c a l e f = rw (e, f) refl
    put false i c a l e f = f

    pub listed_ranks : (i c a d : ℕ) → a ≡ count p i → d + a ≡ count p (i + c) → listed r a d ≡ map (count p) (listed q i c)
    unfolding listed
    listed_ranks i zero a d e f = let y : i + 0 ≡ i = omega arith in let z : d ≡ 0 = omega (arith, ap (count p) y) in rw z refl
    listed_ranks i (suc c) a d e f =
        let z : count p (i + suc c) ≡ count p (suc i + c) = (let y : i + suc c ≡ suc i + c = omega arith in ap (count p) y) in
        ⊎_elim
        (λ (h : p i ≡ true).
        let y : d ≡ suc (d - 1) = omega (arith, count_hit i h, count_grows (suc i) c) in
        let t : r a ≡ q i = ap r e ∙ agree i h in
        rw (y, t) (put (q i) i c a (listed r (suc a) (d - 1)) e (listed_ranks (suc i) c (suc a) (d - 1) (omega (arith, count_hit i h)) (omega (arith, count_hit i h, count_grows (suc i) c)))))
        (λ (h : p i ≡ false).
        let t : q i ≡ false = refuted (q i) (λ b. not_both (inside i b) h) in
        rw t (listed_ranks (suc i) c a d (omega (arith, count_miss i h)) (omega arith)))
        (cases (p i))
