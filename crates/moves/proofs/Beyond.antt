-- "Places beyond these are no part of it": what fits and which steps there are depend on the first n term rows and the first k condition rows alone. Assumes nothing.
use Prim.Native.Nat.{ℕ, ◌<◌, ◌≤◌}
use mathlib.Core.Path.{◌≡◌, refl, sym, ◌∙◌, ap, ap₂, fun_ext}
use mathlib.Core.Bool.{Bool, true, false, cond, not, ◌&&◌}
use mathlib.Core.List.{List, map}
use mathlib.Core.Logic.{by_cases}
use mathlib.Core.Option.{Option, none, some}
use native.Mathlib.Omega.{arith}
use native.Mathlib.Decide.{dec_lt}
use lib.Dec.{eqb, ltb}
use borrow.Author.Tests.{le-ltb, ltb-true}
use Rattle.laws.specs.Tests.{or}
use Rattle.laws.specs.Checks.{checked}
use Rattle.laws.proofs.Tests.{cond_same}
use Rattle.laws.proofs.Lowest.{lowest_same, lowest_upto}
use Rattle.laws.proofs.Up.{up_same}
use Rattle.laws.proofs.Down.{down_same}
use Rattle.laws.proofs.Listed.{listed_same}
use Rattle.laws.proofs.Checks.{checked_same}
use Rattle.calculus.specs.Process.{act, out, join}
use Rattle.calculus.specs.Status.{Value, Links}
use Rattle.calculus.specs.Places.{Turn, takes, drops, Mode}
use Rattle.calculus.specs.Steps.{turn_of}
use Rattle.conditions.specs.Conditions.{Condition, value}
use Rattle.conditions.specs.Awaited.{awaited}
use Rattle.steps.specs.Rows.{Row, NIL, PREFIX, BRANCH, first_of, second_of, term_by, term, is_join, condition_of}
use Rattle.steps.specs.Marks.{Marks, remainder}
use Rattle.steps.specs.InFront.{names, parent_of, right_of, waiting, waiting_step, leads, inherited_by, inherited, reached, in_front}
use Rattle.sheet.specs.Table.{Table, cut, row_at, evaluation_of, eval_in}
use Rattle.sheet.specs.Accepted.{WellFormed}
use Rattle.sheet.proofs.Beyond.{row_same, condition_same}
use Rattle.worth.specs.Worth.{awaited_at, worth_by, worth_of, wait_byte}
use Rattle.state.specs.declared.State.{State}
use Rattle.state.specs.State.{decide_of}
use Rattle.moves.specs.Steps.{mode_of, marks_of, links_of, nodes, remainder_in, left_in, turn_by, turn_at, kind_turned, kind_at, is_some, has_step, listed_of, falsified, other_of, decided_of, climb_by, idle, climbed, taken_of, dropped_of, counted, stepped_by, stepped_of}
use Rattle.moves.specs.Standing.{join_in_front, joins_of, waiting_by, waiting_of, awaited_of, awaits_of}
use Rattle.moves.specs.Fits.{suits, mark_ok, held, wait_ok, keeps, live, clear_row, clear_ok, marks_fit, links_fit, waits_fit, clear_fit, counts_ok, counts_fit, fit_checks}
use Rattle.moves.proofs.Standing.{join_below, join_inside, awaits_by}

front_out : (node : ℕ → Row) (μ : Marks) (n r : ℕ) → n ≤ r → in_front node μ n r ≡ false
unfolding in_front
front_out node μ n r h = rw (le-ltb r n h) refl

-- rows that agree below n
module _ (n : ℕ) (ts ts' : List ℕ) (same : (i : ℕ) → i < n → row_at ts i ≡ row_at ts' i) where
  parent_same : (j : ℕ) → j < n → parent_of (row_at ts) j ≡ parent_of (row_at ts') j
  unfolding parent_of
  parent_same j h = lowest_same (λ p. not (names (row_at ts p) j)) (λ p. not (names (row_at ts' p) j)) 0 j (λ p a b. ap (λ (N : Row). not (names N j)) (same p (omega arith)))

  parent_below : (j : ℕ) → j < n → parent_of (row_at ts) j < n
  unfolding parent_of
  parent_below j h = omega (arith, lowest_upto (λ p. not (names (row_at ts p) j)) 0 j)

  above_same : (j : ℕ) → j < n → row_at ts (parent_of (row_at ts) j) ≡ row_at ts' (parent_of (row_at ts') j)
  above_same j h = same _ (parent_below j h) ∙ ap (row_at ts') (parent_same j h)

  right_same : (j : ℕ) → j < n → right_of (row_at ts) j ≡ right_of (row_at ts') j
  unfolding right_of
  right_same j h = ap (λ (N : Row). eqb (second_of N) j) (above_same j h)

  inherited_same : {A : Type 0} (d top : A) (next next' : ℕ → Bool → A → A) → ((p : ℕ) → p < n → (s : Bool) (b : A) → next p s b ≡ next' p s b) → (j : ℕ) → j < n → inherited (row_at ts) d top next j ≡ inherited (row_at ts') d top next' j
  unfolding inherited inherited_by
  inherited_same {A} d top next next' alike j h =
      up_same d (inherited_by (row_at ts) d top next) (inherited_by (row_at ts') d top next') j
      (λ i l w.
      let k : i < n = omega arith in
      ap (cond (eqb i 0) top) (alike _ (parent_below i k) _ _ ∙ rw (parent_same i k, right_same i k) refl))

  reached_same : (μ : Marks) (j : ℕ) → j < n → reached (row_at ts) μ j ≡ reached (row_at ts') μ j
  unfolding reached
  reached_same μ = inherited_same false true (λ p s b. b && leads (row_at ts p) (μ p) s) (λ p s b. b && leads (row_at ts' p) (μ p) s) (λ p h s b. ap (λ (N : Row). b && leads N (μ p) s) (same p h))

  held_same : (μ : Marks) (j : ℕ) → j < n → held ts μ j ≡ held ts' μ j
  unfolding held
  held_same μ = inherited_same false false (λ p s b. or b (waiting_step (row_at ts p) (μ p))) (λ p s b. or b (waiting_step (row_at ts' p) (μ p))) (λ p h s b. ap (λ (N : Row). or b (waiting_step N (μ p))) (same p h))

  live_same : (μ : Marks) (j : ℕ) → j < n → live ts μ j ≡ live ts' μ j
  unfolding live
  live_same μ = inherited_same false true (λ p s b. b && keeps (row_at ts p) (μ p) s) (λ p s b. b && keeps (row_at ts' p) (μ p) s) (λ p h s b. ap (λ (N : Row). b && keeps N (μ p) s) (same p h))

  -- in front
  front_same : (μ : Marks) (r : ℕ) → in_front (row_at ts) μ n r ≡ in_front (row_at ts') μ n r
  unfolding in_front
  front_same μ r =
      by_cases (dec_lt r n)
      (λ (h : r < n). ap₂ (λ (b : Bool) (N : Row). ltb r n && b && waiting N (μ r)) (reached_same μ r h) (same r h))
      (λ (h : r < n → ⊥). front_out (row_at ts) μ n r (omega arith) ∙ sym (front_out (row_at ts') μ n r (omega arith)))

  -- what is left of a row
  remainder_same : (μ : Marks) (i : ℕ) → remainder_in ts n μ i ≡ remainder_in ts' n μ i
  unfolding term
  remainder_same μ i = ap (remainder μ) (down_same _ (λ i T. term_by i (row_at ts i) T) (λ i T. term_by i (row_at ts' i) T) n (λ j h w. ap (λ (N : Row). term_by j N w) (same j h)) i)

  falsified_same : (μ : Marks) (i : ℕ) (z : State) → falsified ts n μ i z ≡ falsified ts' n μ i z
  unfolding falsified
  falsified_same μ i z = rw (remainder_same μ i) refl

  decided_same : (s : State) (j : ℕ) → j < n → (z : State) → decided_of ts n s j z ≡ decided_of ts' n s j z
  unfolding decided_of
  decided_same s j h z =
      let p : ℕ = parent_of (row_at ts') j in
      let low : p < n = omega (arith, parent_below j h, parent_same j h) in
      let right : Bool = right_of (row_at ts') j in
      rw (parent_same j h, right_same j h, same p low, falsified_same (marks_of s) (other_of (row_at ts' p) right) (decide_of z p right)) refl

  climbed_same : (s : State) (r : ℕ) → r < n → climbed ts n s r ≡ climbed ts' n s r
  unfolding climbed climb_by
  climbed_same s r h = up_same idle (climb_by ts n s) (climb_by ts' n s) r (λ j l w. fun_ext (λ z. let k : j < n = omega arith in rw (parent_same j k, decided_same s j k z) refl))

  taken_same : (s : State) (r : ℕ) → r < n → taken_of ts n s r ≡ taken_of ts' n s r
  unfolding taken_of
  taken_same s r h = rw (climbed_same s r h, same r h) refl

  dropped_same : (s : State) (r : ℕ) → r < n → dropped_of ts n s r ≡ dropped_of ts' n s r
  unfolding dropped_of
  dropped_same s r h = rw (falsified_same (marks_of s) (first_of (row_at ts r)) _, same r h) refl

-- what is left is the same, and so are the counts
pub cut_left : (t : Table) (s : State) → left_in t s ≡ left_in (cut t) s
cut_left t s = remainder_same t.n t.terms (cut t).terms (λ i h. sym (row_same t.n t.terms i h)) (marks_of s) 0

pub cut_counted : (t : Table) (s : State) → counted t s ≡ counted (cut t) s
cut_counted t s = rw (cut_left t s) refl

-- THE STATE FITS a table as it fits the table without the places beyond
module _ {A : Type 0} (answer : ℕ → ℕ → A) (good : A) (t : Table) (s : State) where
  rows : (i : ℕ) → i < t.n → row_at t.terms i ≡ row_at (cut t).terms i
  rows i h = sym (row_same t.n t.terms i h)

  mark_same : (i : ℕ) → mark_ok t.terms t.n (mode_of s.mode) (marks_of s) i ≡ mark_ok (cut t).terms t.n (mode_of s.mode) (marks_of s) i
  unfolding mark_ok
  mark_same i = cond_same (ltb i t.n) (eqb (marks_of s i) 0) (λ e. ap (λ (N : Row). suits (mode_of s.mode) N (marks_of s i)) (rows i (ltb-true i t.n e)))

  wait_same : (i : ℕ) → i < t.n → wait_ok t.terms (marks_of s) i ≡ wait_ok (cut t).terms (marks_of s) i
  unfolding wait_ok
  wait_same i h = ap₂ (λ (b : Bool) (N : Row). or (not b) (waiting N (marks_of s i))) (held_same t.n t.terms (cut t).terms rows (marks_of s) i h) (rows i h)

  clear_same : (i : ℕ) → i < t.n → clear_ok t.terms (marks_of s) s.links i ≡ clear_ok (cut t).terms (marks_of s) s.links i
  unfolding clear_ok
  clear_same i h = ap₂ (λ (b : Bool) (N : Row). or (not b) (clear_row N (marks_of s i) s.links)) (live_same t.n t.terms (cut t).terms rows (marks_of s) i h) (rows i h)

  counts_same : counts_ok t.m t.terms t.n s ≡ counts_ok t.m (cut t).terms t.n s
  unfolding counts_ok
  counts_same = rw (cut_left t s) refl

  pub cut_fits : checked answer good (fit_checks t s) ≡ checked answer good (fit_checks (cut t) s)
  cut_fits =
      checked_same answer good (marks_fit t.terms t.n (mode_of s.mode) (marks_of s)) _ _ _ (λ p a b. mark_same p)
      (λ x. checked_same answer good (links_fit t.m s.links) _ _ _ (λ p a b. refl)
      (λ x. checked_same answer good (waits_fit t.terms t.n (marks_of s)) _ _ _ (λ p a b. wait_same p b)
      (λ x. checked_same answer good (clear_fit t.terms t.n (marks_of s) s.links) _ _ _ (λ p a b. clear_same p b)
      (λ x. checked_same answer good (counts_fit t.m t.terms t.n s) _ _ _ (λ p a b. counts_same)
      (λ x. refl)))))

-- a row's turn, where the value of its condition is the same
turn_by_law : (eval eval' : ℕ → Links → Value) (m : Mode) (v : Links) (N : Row) → ((q c : ℕ) → N ≡ PREFIX (join q) c → eval q ≡ eval' q) → turn_by (λ π. turn_of eval m π v) N ≡ turn_by (λ π. turn_of eval' m π v) N
unfolding turn_by turn_of
turn_by_law eval eval' m v NIL h = refl
turn_by_law eval eval' m v (PREFIX (act a) c) h = refl
turn_by_law eval eval' m v (PREFIX (out l b) c) h = refl
turn_by_law eval eval' m v (PREFIX (join q) c) h = rw (h q c refl) refl
turn_by_law eval eval' m v (BRANCH κ p q) h = refl

-- THE STEPS of an accepted table are those of the table without the places beyond
module _ (t : Table) (w : WellFormed t) (s : State) where
  same : (i : ℕ) → i < t.n → row_at t.terms i ≡ row_at (cut t).terms i
  same i h = sym (row_same t.n t.terms i h)

  value_same : (q : ℕ) → q < t.k → eval_in t q ≡ eval_in (cut t) q
  value_same q h = ap (value (evaluation_of t.evaluation)) (sym (condition_same t.k t.conditions q h))

  turn_same : (r : ℕ) → turn_at t s r ≡ turn_at (cut t) s r
  unfolding turn_at
  turn_same r =
      by_cases (dec_lt r t.n)
      (λ (h : r < t.n). ap₂ (λ (b : Bool) (o : Option Turn). cond b o none) (front_same t.n t.terms (cut t).terms same (marks_of s) r)
      (turn_by_law (eval_in t) (eval_in (cut t)) (mode_of s.mode) (links_of s) (nodes t r) (λ q c e. value_same q (w.joins r q c h e)) ∙ ap (turn_by (λ π. turn_of (eval_in (cut t)) (mode_of s.mode) π (links_of s))) (same r h)))
      (λ (h : r < t.n → ⊥). rw (front_out (nodes t) (marks_of s) t.n r (omega arith), front_out (nodes (cut t)) (marks_of s) t.n r (omega arith)) refl)

  -- beyond row n there is none
  turn_none : (u : Table) → u.n ≡ t.n → (r : ℕ) → t.n ≤ r → turn_at u s r ≡ none
  unfolding turn_at
  turn_none u e r h = rw (front_out (nodes u) (marks_of s) u.n r (omega arith)) refl

  pub cut_kind : (r : ℕ) → kind_at t s r ≡ kind_at (cut t) s r
  unfolding kind_at kind_turned
  cut_kind r =
      by_cases (dec_lt r t.n)
      (λ (h : r < t.n). ap₂ (λ (N : Row) (o : Option Turn). kind_turned N r o) (same r h) (turn_same r))
      (λ (h : r < t.n → ⊥). rw (turn_none t refl r (omega arith), turn_none (cut t) refl r (omega arith)) refl)

  has_same : (r : ℕ) → has_step t s r ≡ has_step (cut t) s r
  unfolding has_step
  has_same r = ap is_some (turn_same r)

  pub cut_listed : listed_of t s ≡ listed_of (cut t) s
  unfolding listed_of
  cut_listed = listed_same (has_step t s) (has_step (cut t) s) 0 t.n (λ r a b. has_same r)

  pub cut_joins : joins_of t s ≡ joins_of (cut t) s
  unfolding joins_of join_in_front
  cut_joins = listed_same (join_in_front t s) (join_in_front (cut t) s) 0 t.n (λ r a b. ap₂ (λ (f : Bool) (N : Row). f && is_join N) (front_same t.n t.terms (cut t).terms same (marks_of s) r) (same r (omega arith)))

  pub cut_waiting : waiting_of t s ≡ waiting_of (cut t) s
  unfolding waiting_of
  cut_waiting = ap₂ waiting_by cut_listed cut_joins

  -- what a JOIN row in front waits for: its condition row is below k
  awaited_same : (r : ℕ) → join_in_front t s r ≡ true → awaited_of t s r ≡ awaited_of (cut t) s r
  unfolding awaited_of worth_of awaited_at
  awaited_same r j =
      ap (λ (c : Condition). wait_byte (worth_by (value (evaluation_of t.evaluation) c (links_of s)) (awaited 64 c (links_of s)))) (sym (condition_same t.k t.conditions (condition_of (nodes t r)) (join_inside t s r j w))) ∙
      ap (λ (N : Row). wait_byte (worth_of t.evaluation (cut t).conditions (condition_of N) (links_of s))) (same r (join_below t s r j))

  pub cut_awaits : awaits_of t s ≡ awaits_of (cut t) s
  unfolding awaits_of
  cut_awaits = awaits_by t s (awaited_of (cut t) s) awaited_same ∙ ap (map (awaited_of (cut t) s)) cut_waiting

  stepped_by_law : (r : ℕ) → r < t.n → (o : Option Turn) → stepped_by t s r o ≡ stepped_by (cut t) s r o
  unfolding stepped_by
  stepped_by_law r h none = refl
  stepped_by_law r h (some takes) = ap (counted t) (taken_same t.n t.terms (cut t).terms same s r h) ∙ cut_counted t (taken_of (cut t).terms t.n s r)
  stepped_by_law r h (some drops) = ap (counted t) (dropped_same t.n t.terms (cut t).terms same s r h) ∙ cut_counted t (dropped_of (cut t).terms t.n s r)

  pub cut_stepped : (r : ℕ) → stepped_of t s r ≡ stepped_of (cut t) s r
  unfolding stepped_of stepped_by
  cut_stepped r =
      by_cases (dec_lt r t.n)
      (λ (h : r < t.n). stepped_by_law r h (turn_at t s r) ∙ ap (stepped_by (cut t) s r) (turn_same r))
      (λ (h : r < t.n → ⊥). rw (turn_none t refl r (omega arith), turn_none (cut t) refl r (omega arith)) refl)
