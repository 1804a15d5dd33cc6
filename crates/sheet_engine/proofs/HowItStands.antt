-- How a state stands, by the steps that are listed and the JOIN rows in front. Assumes nothing.
use Prim.Native.Nat.{ℕ}
use mathlib.Core.Path.{◌≡◌, refl, ap}
use mathlib.Core.List.{List, [], ◌∷◌, cons≢nil}
use Rattle.std.specs.Prelude.{Ok}
use mathlib.Core.Logic.{◌⊎◌, inl, inr, ◌↔◌}
use native.Mathlib.Omega.{arith}
use lib.ListN.{length}
use Rattle.sheet.specs.Table.{Table}
use Rattle.state.specs.declared.State.{State}
use Rattle.moves.specs.Steps.{listed_of}
use Rattle.moves.specs.Standing.{joins_of, waiting_by, waiting_of}
use Rattle.sheet_engine.specs.declared.Stands.TheVariants.{Enabled, Finished, Waiting}
use Rattle.sheet_engine.specs.Answers.{standing_by, standing_of}
use Rattle.sheet_engine.specs.Values.{StandingValues, standing_values}

-- by how many steps are listed, and how many rows the state waits for
enabled_by : (steps joins : List ℕ) (k : ℕ) → k ≡ length steps → (k ≡ 0 → ⊥) → Enabled ≡ standing_by steps joins
unfolding standing_by
enabled_by [] joins k e h = absurd (h e)
enabled_by (x ∷ steps) joins k e h = refl

finished_by : (steps joins : List ℕ) (k n : ℕ) → k ≡ length steps → n ≡ length (waiting_by steps joins) → k ≡ 0 → n ≡ 0 → Finished ≡ standing_by steps joins
unfolding standing_by waiting_by
finished_by [] [] k n e f h g = refl
finished_by [] (j ∷ joins) k n e f h g = absurd (omega arith)
finished_by (x ∷ steps) joins k n e f h g = absurd (omega arith)

waiting_by_law : (steps joins : List ℕ) (k n : ℕ) → k ≡ length steps → n ≡ length (waiting_by steps joins) → k ≡ 0 → (n ≡ 0 → ⊥) → Waiting n ≡ standing_by steps joins
unfolding standing_by waiting_by
waiting_by_law [] [] k n e f h g = absurd (g f)
waiting_by_law [] (j ∷ joins) k n e f h g = ap Waiting f
waiting_by_law (x ∷ steps) joins k n e f h g = absurd (omega arith)

module _ (t : Table) (s : State) (k n : ℕ) (e : k ≡ length (listed_of t s)) (f : n ≡ length (waiting_of t s)) where
  pub stands_enabled : (k ≡ 0 → ⊥) → Enabled ≡ standing_of t s
  unfolding standing_of
  stands_enabled h = enabled_by (listed_of t s) (joins_of t s) k e h

  pub stands_finished : k ≡ 0 → n ≡ 0 → Finished ≡ standing_of t s
  unfolding standing_of waiting_of
  stands_finished h g = finished_by (listed_of t s) (joins_of t s) k n e f h g

  pub stands_waiting : k ≡ 0 → (n ≡ 0 → ⊥) → Waiting n ≡ standing_of t s
  unfolding standing_of waiting_of
  stands_waiting h g = waiting_by_law (listed_of t s) (joins_of t s) k n e f h g

-- ... and which word says what
abbrev values_by : List ℕ → List ℕ → StandingValues
values_by steps joins = standing_values (Ok (standing_by steps joins))

by_enabled : (steps joins : List ℕ) → ((values_by steps joins).word ≡ 1) ↔ (steps ≡ [] → ⊥)
unfolding standing_by
by_enabled (x ∷ steps) joins = ((λ e. cons≢nil), λ h. refl)
by_enabled [] [] = ((λ e. absurd (omega (arith, e))), λ h. absurd (h refl))
by_enabled [] (j ∷ joins) = ((λ e. absurd (omega (arith, e))), λ h. absurd (h refl))

by_finished : (steps joins : List ℕ) → ((values_by steps joins).word ≡ 2) ↔ ((steps ≡ []) × (joins ≡ []))
unfolding standing_by
by_finished (x ∷ steps) joins = ((λ e. absurd (omega (arith, e))), λ (h, g). absurd (cons≢nil h))
by_finished [] [] = ((λ e. (refl, refl)), λ h. refl)
by_finished [] (j ∷ joins) = ((λ e. absurd (omega (arith, e))), λ (h, g). absurd (cons≢nil g))

by_waiting : (steps joins : List ℕ) → ((values_by steps joins).word ≡ 3) ↔ ((steps ≡ []) × (joins ≡ [] → ⊥))
unfolding standing_by
by_waiting (x ∷ steps) joins = ((λ e. absurd (omega (arith, e))), λ (h, g). absurd (cons≢nil h))
by_waiting [] [] = ((λ e. absurd (omega (arith, e))), λ (h, g). absurd (g refl))
by_waiting [] (j ∷ joins) = ((λ e. (refl, cons≢nil)), λ h. refl)

by_word : (steps joins : List ℕ) → ((values_by steps joins).word ≡ 1) ⊎ (((values_by steps joins).word ≡ 2) ⊎ ((values_by steps joins).word ≡ 3))
unfolding standing_by
by_word (x ∷ steps) joins = inl refl
by_word [] [] = inr (inl refl)
by_word [] (j ∷ joins) = inr (inr refl)

by_rows : (steps joins : List ℕ) → ((values_by steps joins).refusal ≡ 0) × ((values_by steps joins).rows ≡ length (waiting_by steps joins))
unfolding standing_by waiting_by
by_rows (x ∷ steps) joins = (refl, refl)
by_rows [] [] = (refl, refl)
by_rows [] (j ∷ joins) = (refl, refl)

module _ (t : Table) (s : State) where
  abbrev values : StandingValues
  values = standing_values (Ok (standing_of t s))

  pub stands_rows : (values.refusal ≡ 0) × (values.rows ≡ length (waiting_of t s))
  unfolding standing_of waiting_of
  stands_rows = by_rows (listed_of t s) (joins_of t s)

  pub one_word : (values.word ≡ 1) ⊎ ((values.word ≡ 2) ⊎ (values.word ≡ 3))
  unfolding standing_of
  one_word = by_word (listed_of t s) (joins_of t s)

  pub enabled_word_law : (values.word ≡ 1) ↔ (listed_of t s ≡ [] → ⊥)
  unfolding standing_of
  enabled_word_law = by_enabled (listed_of t s) (joins_of t s)

  pub finished_word_law : (values.word ≡ 2) ↔ ((listed_of t s ≡ []) × (joins_of t s ≡ []))
  unfolding standing_of
  finished_word_law = by_finished (listed_of t s) (joins_of t s)

  pub waiting_word_law : (values.word ≡ 3) ↔ ((listed_of t s ≡ []) × (joins_of t s ≡ [] → ⊥))
  unfolding standing_of
  waiting_word_law = by_waiting (listed_of t s) (joins_of t s)
