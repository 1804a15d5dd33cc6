-- Document 02, request 5: "the lowest unset link reached from" a condition.
use Rattle.std.specs.Prelude.{ℕ, ◌≤◌, ◌≡◌, Bool, true, not, ◌&&◌}
use Rattle.laws.specs.Lowest.{lowest}
use Rattle.calculus.specs.Status.{Unset, Links}
use Rattle.conditions.specs.Conditions.{Condition, reached, is_set}

-- the link is reached from the condition, and unset
unfoldable pub lacks : Condition → Links → ℕ → Bool
lacks c v l = reached c l && not (is_set (v l))

-- the lowest such link below m; m where there is none
unfoldable pub awaited : ℕ → Condition → Links → ℕ
awaited m c v = lowest (λ l. not (lacks c v l)) 0 m

-- word for word: reached, unset, and not above any other such link
pub record Awaits (c : Condition) (v : Links) (l : ℕ) : Type 0 where
  pub reached_there : reached c l ≡ true
  pub unset_there : v l ≡ Unset
  pub lowest_there : (k : ℕ) → reached c k ≡ true → v k ≡ Unset → l ≤ k
