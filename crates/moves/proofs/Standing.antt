-- HOW A STATE STANDS: the rows that it waits for, what each waits for, and that nothing is left to do where no step is listed and no JOIN is in front. Assumes nothing.
use Prim.Native.Nat.{ℕ, ◌<◌, ◌≤◌}
use mathlib.Core.Path.{◌≡◌, refl, sym}
use mathlib.Core.Bool.{true, false, true≢false}
use mathlib.Core.List.Memᴰ
use mathlib.Core.List.{List, [], ◌∷◌, map, cons≢nil, Memᴰ}
use mathlib.Core.Logic.{◌⊎◌, inl, inr, ⊎_elim, ◌↔◌}
use native.Mathlib.Omega.{arith}
use lib.ListN.{length, length-map}
use borrow.Author.Tests.{ltb-true}
use Rattle.laws.specs.Listed.{Rising}
use Rattle.laws.proofs.Tests.{and_l, and_r, refuted, not_both}
use Rattle.laws.proofs.Members.{map_same}
use Rattle.laws.proofs.Lowest.{lowest_upto}
use Rattle.laws.proofs.Listed.{listed_has, listed_holds, listed_length, listed_rising, none_listed, some_listed}
use Rattle.calculus.specs.Process.{Process, nil, prefix, branch, Prefix, act, out, join}
use Rattle.calculus.specs.Status.{Value, Unset, False, True}
use Rattle.calculus.specs.Places.{Place, row, here, Mode, plain, cleaning, cleans}
use Rattle.calculus.specs.Steps.{join_turn, turn_of}
use Rattle.conditions.specs.Awaited.{awaited}
use Rattle.conditions.proofs.Awaited.{unset_awaits}
use Rattle.steps.specs.Rows.{PREFIX, is_join_prefix, is_join, condition_of}
use Rattle.steps.specs.InFront.{waiting, reached, in_front}
use Rattle.steps.proofs.Rows.{join_of}
use Rattle.steps.proofs.InFront.{front_place, place_front}
use Rattle.sheet.specs.Table.{Table, evaluation_of}
use Rattle.sheet.specs.Accepted.{WellFormed}
use Rattle.worth.specs.Worth.{awaited_at, worth_by, worth_of, wait_byte}
use Rattle.state.specs.declared.State.{State}
use Rattle.moves.specs.Steps.{mode_of, marks_of, links_of, nodes, left_in, turn_by, turn_at, is_some, has_step, listed_of}
use Rattle.moves.specs.Standing.{join_in_front, joins_of, waiting_by, waiting_of, awaited_of, awaits_of, join_condition, join_value, Waits, bare}
use Rattle.moves.proofs.Allowed.{listed_rows_law}

module _ (t : Table) (s : State) where
  pub join_below : (r : ℕ) → join_in_front t s r ≡ true → r < t.n
  unfolding join_in_front in_front
  join_below r e = ltb-true r t.n (and_l _ (reached (nodes t) (marks_of s) r) (and_l _ (waiting (nodes t r) (marks_of s r)) (and_l _ (is_join (nodes t r)) e)))

  -- the list holds exactly the JOIN rows in front
  pub joins_rows : (r : ℕ) → Memᴰ r (joins_of t s) ↔ (join_in_front t s r ≡ true)
  unfolding joins_of
  joins_rows r = (listed_holds (join_in_front t s) 0 t.n r, λ e. listed_has (join_in_front t s) 0 t.n r (omega arith) (omega (arith, join_below r e)) e)

  pub no_step : (listed_of t s ≡ []) ↔ ((r : ℕ) → has_step t s r ≡ false)
  no_step = none_listed (has_step t s) (listed_of t s) (listed_rows_law t s)

  pub no_join : (joins_of t s ≡ []) ↔ ((r : ℕ) → join_in_front t s r ≡ false)
  no_join = none_listed (join_in_front t s) (joins_of t s) joins_rows

  pub some_join : (joins_of t s ≡ [] → ⊥) ↔ ((r : ℕ) × (join_in_front t s r ≡ true))
  some_join = some_listed (join_in_front t s) (joins_of t s) joins_rows

  -- a state waits for nothing where a step is listed, and for the JOIN rows in front where none is
  pub waiting_cases : (C : List ℕ → Type 0) → ((listed_of t s ≡ [] → ⊥) → C []) → (listed_of t s ≡ [] → C (joins_of t s)) → C (waiting_of t s)
  unfolding waiting_of waiting_by
  waiting_cases C some none = at (listed_of t s) some none
    where
      at : (steps : List ℕ) → ((steps ≡ [] → ⊥) → C []) → (steps ≡ [] → C (joins_of t s)) → C (waiting_by steps (joins_of t s))
      at [] some none = none refl
      at (x ∷ steps) some none = some cons≢nil

  -- THE ROWS WAITED FOR: where no step is listed, exactly the JOIN rows in front, "in rising order"
  pub waiting_rows_law : (r : ℕ) → Memᴰ r (waiting_of t s) ↔ ((listed_of t s ≡ []) × (join_in_front t s r ≡ true))
  waiting_rows_law r =
      waiting_cases (λ xs. Memᴰ r xs ↔ ((listed_of t s ≡ []) × (join_in_front t s r ≡ true)))
      (λ some. ((λ m. absurd (Memᴰ.not-nil m)), λ (e, j). absurd (some e)))
      (λ none. ((λ m. (none, (joins_rows r).0 m)), λ (e, j). (joins_rows r).1 j))

  pub waiting_below : (r : ℕ) → Memᴰ r (waiting_of t s) → r < t.n
  waiting_below r m = join_below r ((waiting_rows_law r).0 m).1

  pub waiting_few : length (waiting_of t s) ≤ t.n
  unfolding joins_of
  waiting_few = waiting_cases (λ xs. length xs ≤ t.n) (λ some. omega arith) (λ none. listed_length (join_in_front t s) 0 t.n)

  pub waiting_rising : Rising (waiting_of t s)
  unfolding joins_of
  waiting_rising = waiting_cases Rising (λ some i j h g. absurd (omega arith)) (λ none. listed_rising (join_in_front t s) 0 t.n)

  -- a byte for each row waited for
  pub awaits_length : length (awaits_of t s) ≡ length (waiting_of t s)
  unfolding awaits_of
  awaits_length = length-map (waiting_of t s) (awaited_of t s)

  -- ... by whatever tells it of each
  pub awaits_by : (f : ℕ → ℕ) → ((r : ℕ) → join_in_front t s r ≡ true → awaited_of t s r ≡ f r) → awaits_of t s ≡ map f (waiting_of t s)
  unfolding awaits_of
  awaits_by f h = map_same (awaited_of t s) f (waiting_of t s) (λ r m. h r ((waiting_rows_law r).0 m).1)

  pub awaited_small : (r : ℕ) → awaited_of t s r < 256
  unfolding awaited_of worth_of awaited_at awaited
  awaited_small r = at (join_value t s r) _ (lowest_upto _ 0 64)
    where
      at : (u : Value) (l : ℕ) → l ≤ 64 → wait_byte (worth_by u l) < 256
      at Unset l h = omega arith
      at False l h = omega arith
      at True l h = omega arith

-- a JOIN without a turn is unset, or false in a plain state
no_turn : (u : Value) (m : Mode) → is_some (join_turn m u) ≡ false → (u ≡ Unset) ⊎ ((u ≡ False) × (m ≡ plain))
unfolding join_turn cleans
no_turn Unset m e = inl refl
no_turn False plain e = inr (refl, refl)
no_turn False cleaning e = absurd (true≢false e)
no_turn True m e = absurd (true≢false e)

module _ (t : Table) (s : State) (r : ℕ) (j : join_in_front t s r ≡ true) where
  pub join_there : (d : ℕ) × (nodes t r ≡ PREFIX (join (condition_of (nodes t r))) d)
  unfolding join_in_front
  join_there = join_of (nodes t r) (and_r (in_front (nodes t) (marks_of s) t.n r) _ j)

  -- its condition row is one of the table's
  pub join_inside : WellFormed t → condition_of (nodes t r) < t.k
  join_inside w = let (d, z) = join_there in w.joins r _ d (join_below t s r j) z

  join_value_law : has_step t s r ≡ false → (join_value t s r ≡ Unset) ⊎ ((join_value t s r ≡ False) × (mode_of s.mode ≡ plain))
  unfolding has_step turn_at turn_by turn_of join_in_front
  join_value_law e =
      let f : in_front (nodes t) (marks_of s) t.n r ≡ true = and_l _ (is_join (nodes t r)) j in
      let (d, z) = join_there in
      no_turn (join_value t s r) (mode_of s.mode) (rw (f, z) at e)

-- WHAT EACH ROW WAITS FOR: its condition is unset and the byte is the lowest unset link reached from it; or it is false, the byte is 255 and the state is plain.
pub row_waits : (t : Table) → WellFormed t → (s : State) (r : ℕ) → Memᴰ r (waiting_of t s) → Waits t s r (awaited_of t s r)
unfolding awaited_of worth_of awaited_at
row_waits t w s r m =
    let (none, j) = (waiting_rows_law t s r).0 m in
    let k : condition_of (nodes t r) < t.k = join_inside t s r j w in
    ⊎_elim
    (λ z.
    let small : (l : ℕ) → _ → l < t.m = λ l e. w.links (condition_of (nodes t r)) l k e in
    let a = unset_awaits (join_condition t r) (links_of s) (evaluation_of t.evaluation) 64 (λ l e. omega (arith, small l e, w.few_links)) z in
    inl (record { is_unset = z; the_link = rw z a; one_of_m = rw z (small _ a.reached_there) }))
    (λ (z, p). inr (record { value_is_false = z; has_no_link = rw z refl; is_plain = p }))
    (join_value_law t s r j ((no_step t s).0 none r))

-- a process holds no ACT, OUT or JOIN exactly if it has none in front
bare_place : (P : Process) → (bare P ≡ true) ↔ (Place P → ⊥)
unfolding bare
bare_place (nil r) = ((λ e x. x), λ f. refl)
bare_place (prefix r π P) = ((λ e. absurd (true≢false (sym e))), λ f. absurd (f tt))
bare_place (branch r κ P Q) =
    let (p, q) : ((bare P ≡ true) ↔ (Place P → ⊥)) × ((bare Q ≡ true) ↔ (Place Q → ⊥)) = (bare_place P, bare_place Q) in (
      λ e. ⊎_elim (p.0 (and_l (bare P) (bare Q) e)) (q.0 (and_r (bare P) (bare Q) e)),
      λ f. rw (p.1 (λ x. f (inl x)), q.1 (λ x. f (inr x))) refl,
    )

-- FINISHED IS NOTHING LEFT TO DO: where no step is listed, no JOIN is in front exactly if what is left holds no ACT, OUT or JOIN. An ACT or OUT in front would have a step.
module _ (t : Table) (w : WellFormed t) (s : State) (rest : (r : ℕ) → has_step t s r ≡ false) where
  front_join : (r c : ℕ) (π : Prefix) → nodes t r ≡ PREFIX π c → in_front (nodes t) (marks_of s) t.n r ≡ true → join_in_front t s r ≡ true
  unfolding join_in_front is_join is_join_prefix has_step turn_at turn_by turn_of
  front_join r c (act a) e f = absurd (not_both (rw (f, e) refl) (rest r))
  front_join r c (out l b) e f = absurd (not_both (rw (f, e) refl) (rest r))
  front_join r c (join q) e f = rw (f, e) refl

  place_join : Place (left_in t s) → (r : ℕ) × (join_in_front t s r ≡ true)
  place_join x = let (f, c, e) = place_front (nodes t) (marks_of s) t.n w.tree.kids w.tree.once w.tree.some_row x in (row (left_in t s) x, front_join (row (left_in t s) x) c (here (left_in t s) x) e f)

  join_place : (r : ℕ) → join_in_front t s r ≡ true → Place (left_in t s)
  unfolding join_in_front
  join_place r e =
      let (c, z) = join_of (nodes t r) (and_r (in_front (nodes t) (marks_of s) t.n r) _ e) in
      (front_place (nodes t) (marks_of s) t.n w.tree.kids w.tree.once r c (join (condition_of (nodes t r))) z (and_l _ (is_join (nodes t r)) e)).0

  pub finished_bare : ((r : ℕ) → join_in_front t s r ≡ false) ↔ (bare (left_in t s) ≡ true)
  finished_bare = (
    λ f. (bare_place (left_in t s)).1 (λ x. let (r, e) = place_join x in not_both e (f r)),
    λ b r. refuted (join_in_front t s r) (λ e. (bare_place (left_in t s)).0 b (join_place r e)),
  )
