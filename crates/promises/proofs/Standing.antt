-- DOCUMENT 02, REQUEST 1: finished, or waiting, over what `standing` and `list_steps` answer. Demand 3 does not equate these words, and nothing here does: cleaning may finish where plain waits. Assumes nothing.
use Rattle.std.specs.Prelude.{Ok}
use Prim.Native.Nat.{ℕ, ◌≤◌}
use mathlib.Core.Path.{◌≡◌, refl, sym, ◌∙◌, ap, subst}
use mathlib.Core.Bool.{true, false}
use mathlib.Core.List.{List, [], ◌∷◌, cons≢nil, Memᴰ}
use mathlib.Core.Logic.{inl, inr, ⊎_elim, ◌↔◌}
use native.Mathlib.Omega.{arith}
use lib.ListN.{length, replicate}
use Rattle.laws.specs.Listed.{Rising}
use Rattle.sheet.specs.Table.{Table}
use Rattle.state.specs.declared.State.{State}
use Rattle.moves.specs.Steps.{left_in, listed_of}
use Rattle.moves.specs.Standing.{join_in_front, joins_of, bare}
use Rattle.moves.proofs.Standing.{no_step, no_join, some_join, waiting_cases, waiting_rows_law as rows-waiting, waiting_rising, finished_bare}
use Rattle.sheet_engine.specs.Answers.{standing_of, standing_answer}
use Rattle.sheet_engine.specs.Values.{StandingValues, standing_values}
use Rattle.sheet_engine.proofs.HowItStands.{stands_rows, one_word, enabled_word_law, finished_word_law, waiting_word_law}
use Rattle.promises.specs.Calls.{Accepted, listed_rows, standing_in, Enabled, Finished, Waiting, waiting_in, waiting_rows, OneOf}
use Rattle.promises.proofs.Calls.{formed, refusal, unrefused, rows_are, few_waiting, standing_any, waiting_are, waiting_in_law, waiting_any}

-- "in rising order"
pub waiting_rises : (t : Table) (s : State) → Rising (waiting_rows t s)
waiting_rises t s = waiting_in_law t s Rising (replicate 256 0) (λ i j h k. absurd (omega arith)) (λ e. subst Rising (sym (waiting_are t s e)) (waiting_rising t s))

-- a byte for each row and no more: every buffer that is long enough holds the same rows
pub waiting_in_any : (t : Table) (s : State) (lent : List ℕ) → length (waiting_rows t s) ≤ length lent → waiting_in t s lent ≡ waiting_rows t s
waiting_in_any = waiting_any

module _ (t : Table) (s : State) (accepted : Accepted t s) where
  free : (refusal t s).number ≡ 0
  free = unrefused t s accepted

  values_are : standing_in t s ≡ standing_values (Ok (standing_of t s))
  values_are = ap standing_values (standing_any t s free 256 (few_waiting t s free))

  word_is : (standing_in t s).word ≡ (standing_values (Ok (standing_of t s))).word
  word_is = ap (λ (v : StandingValues). v.word) values_are

  -- what is said of the word and the lists that `moves` defines is said of what the calls answer
  told : (word : ℕ) (Said : List ℕ → Type 0) → ((standing_values (Ok (standing_of t s))).word ≡ word) ↔ Said (listed_of t s) → ((standing_in t s).word ≡ word) ↔ Said (listed_rows t s)
  told word Said (to, back) = ((λ e. subst Said (sym (rows_are t s free)) (to (sym word_is ∙ e))), λ h. word_is ∙ back (subst Said (rows_are t s free) h))

  -- a state is enabled exactly if a step is listed
  pub enabled_exactly : Enabled t s ↔ (listed_rows t s ≡ [] → ⊥)
  enabled_exactly = told 1 (λ steps. steps ≡ [] → ⊥) (enabled_word_law t s)

  -- "With no step listed, a state is finished if no JOIN row is in front,"
  pub finished_exactly : Finished t s ↔ ((listed_rows t s ≡ []) × ((r : ℕ) → join_in_front t s r ≡ false))
  finished_exactly = told 2 (λ steps. (steps ≡ []) × ((r : ℕ) → join_in_front t s r ≡ false)) (let (to, back) = finished_word_law t s in ((λ e. let (x, y) = to e in (x, (no_join t s).0 y)), λ (x, y). back (x, (no_join t s).1 y)))

  -- "and otherwise waiting."
  pub waiting_exactly : Waiting t s ↔ ((listed_rows t s ≡ []) × (r : ℕ) × (join_in_front t s r ≡ true))
  waiting_exactly = told 3 (λ steps. (steps ≡ []) × (r : ℕ) × (join_in_front t s r ≡ true)) (let (to, back) = waiting_word_law t s in ((λ e. let (x, y) = to e in let (r, j) = (some_join t s).0 y in (x, r, j)), λ (x, r, j). back (x, (some_join t s).1 (r, j))))

  -- "those rows": with no step listed exactly the JOIN rows in front, else none; as many as `standing` says
  pub waiting_rows_law : (r : ℕ) → Memᴰ r (waiting_rows t s) ↔ ((listed_rows t s ≡ []) × (join_in_front t s r ≡ true))
  waiting_rows_law r = rw (waiting_are t s free, rows_are t s free) (rows-waiting t s r)

  pub waiting_count : (standing_in t s).rows ≡ length (waiting_rows t s)
  waiting_count = ap (λ (v : StandingValues). v.rows) values_are ∙ (stands_rows t s).1 ∙ ap length (sym (waiting_are t s free))

  -- every buffer that holds them is answered so, and a state that does not wait asks for no room
  pub standing_in_any : (lent : ℕ) → length (waiting_rows t s) ≤ lent → standing_values (standing_answer t s lent) ≡ standing_in t s
  standing_in_any lent room = ap standing_values (standing_any t s free lent (rw (waiting_are t s free) at room)) ∙ sym values_are

  pub no_room_asked : (Waiting t s → ⊥) → waiting_rows t s ≡ []
  no_room_asked h = waiting_are t s free ∙ waiting_cases t s (λ rows. rows ≡ []) (λ some. refl) (λ none. at (joins_of t s) (λ j. h (word_is ∙ (waiting_word_law t s).1 (none, j))))
    where
      at : (rows : List ℕ) → ((rows ≡ [] → ⊥) → ⊥) → rows ≡ []
      at [] f = refl
      at (x ∷ rows) f = absurd (f cons≢nil)

  -- a state stands in exactly one way
  pub stands_one_way : OneOf (Enabled t s) (Finished t s) (Waiting t s)
  stands_one_way =
      ⊎_elim (λ e. let w = word_is ∙ e in inl (w, (λ f. omega (arith, w, f)), λ f. omega (arith, w, f)))
      (⊎_elim
      (λ e. let w = word_is ∙ e in inr (inl ((λ f. omega (arith, w, f)), w, λ f. omega (arith, w, f))))
      (λ e. let w = word_is ∙ e in inr (inr ((λ f. omega (arith, w, f)), (λ f. omega (arith, w, f)), w)))) (one_word t s)

  -- Finished means that nothing is left to do: with no step listed, a state is finished exactly if what is left of the sheet holds no ACT, OUT or JOIN.
  pub finished_nothing_left : listed_rows t s ≡ [] → Finished t s ↔ (bare (left_in t s) ≡ true)
  finished_nothing_left e =
      let (to, back) = finished_bare t (formed accepted) s ((no_step t s).0 (sym (rows_are t s free) ∙ e)) in
      ((λ f. to (finished_exactly.0 f).1), λ b. finished_exactly.1 (e, back b))
