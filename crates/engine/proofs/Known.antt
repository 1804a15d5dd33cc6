-- The step of a row from the tables is document 01's. Assumes nothing.
use Rattle.std.specs.Prelude.{Ok, Err}
use Rattle.std.specs.Result.{is_ok}
use Rattle.state.specs.declared.StepKind.{StepKind}
use Rattle.sheet.specs.declared.Refusal.{Refusal}
use Rattle.sheet.specs.Rules.{no}
use Prim.Native.Nat.{ℕ, ◌<◌, ◌≤◌}
use mathlib.Core.Path.{◌≡◌, refl, sym, ap, ◌∙◌}
use mathlib.Core.Bool.{Bool, true, false, cond, ◌&&◌, true≢false}
use mathlib.Core.List.{List}
use mathlib.Core.Logic.{by_cases}
use mathlib.Core.Option.{Option, none, some}
use native.Mathlib.Omega.{arith}
use native.Mathlib.Decide.{dec_lt}
use lib.Dec.{eqb, ltb}
use borrow.Author.Tests.{lt-ltb, le-ltb}
use Rattle.laws.specs.Tests.{bit}
use Rattle.laws.proofs.Tests.{and_false}
use Rattle.calculus.specs.Process.{act, out, join, pick, flow}
use Rattle.calculus.specs.Status.{Value, Unset, False, True, Links}
use Rattle.calculus.specs.Places.{Turn, takes, drops, cleans}
use Rattle.calculus.specs.Steps.{join_turn, turn_of}
use Rattle.conditions.specs.Numbers.{digit}
use Rattle.steps.specs.Rows.{Row, NIL, PREFIX, BRANCH, first_of, Kids}
use Rattle.steps.specs.Marks.{Marks}
use Rattle.steps.specs.InFront.{waiting, waiting_step, reached, in_front}
use Rattle.sheet.specs.Table.{Table, row_by, row_at, eval_in}
use Rattle.sheet.specs.Accepted.{WellFormed}
use Rattle.sheet.proofs.Accepted.{source_out}
use Rattle.evaluate.specs.Values.{Evaluated, value_in}
use Rattle.evaluate.proofs.Rows.{evaluated_at}
use Rattle.state.specs.declared.State.{State}
use Rattle.state.specs.declared.StepKind.TheVariants.{Act, Set, Open, Clean}
use Rattle.moves.specs.Steps.{Kind, mode_of, marks_of, links_of, nodes, turn_by, turn_at, kind_of, kind_by, kind_turned, kind_at, has_step, is_some, counted, stepped_by, stepped_of, taken_of, dropped_of}
use Rattle.flags.specs.Flags.{flagged, Shows}
use Rattle.flags.proofs.Shown.{shown}
use Rattle.front.specs.declared.Question.TheVariants.{Reached}
use Rattle.front.specs.Asked.{asked_at}
use Rattle.front.proofs.Asking.{asked_reached}
use Rattle.effects.specs.Gather.{OwnBelow}
use Rattle.engine.specs.ByValue.{join_kind, prefix_kind, row_kind, kind_from, taken_answer}

-- a JOIN by the digit of its value
join_kind_law : (r c mode : ℕ) (N : Row) (v : Value) → N ≡ PREFIX (join c) (first_of N) → kind_turned N r (join_turn (mode_of mode) v) ≡ join_kind r mode (digit v)
unfolding join_turn join_kind digit kind_turned kind_by kind_of
join_kind_law r c mode N Unset e = refl
join_kind_law r c mode N True e = ap kind_by e
join_kind_law r c mode N False e = at (cleans (mode_of mode))
  where
    at : (b : Bool) → kind_turned N r (cond b (some drops) none) ≡ cond b (Ok Clean) (no 11 r)
    at true = refl
    at false = refl

-- a row in front
row_kind_law : (ev : ℕ → Links → Value) (r mode : ℕ) (v : Links) (N : Row) → kind_turned N r (turn_by (λ π. turn_of ev (mode_of mode) π v) N) ≡ row_kind r mode N (λ q. digit (ev q v))
unfolding turn_by turn_of kind_turned kind_by kind_of row_kind prefix_kind first_of
row_kind_law ev r mode v NIL = refl
row_kind_law ev r mode v (PREFIX (act a) c) = refl
row_kind_law ev r mode v (PREFIX (out l b) c) = refl
row_kind_law ev r mode v (PREFIX (join q) c) = join_kind_law r q mode (PREFIX (join q) c) (ev q v) refl
row_kind_law ev r mode v (BRANCH κ p q) = refl

either : (k : Kind) (x y : Bool) → cond x k k ≡ cond y k k
either k true true = refl
either k true false = refl
either k false true = refl
either k false false = refl

-- only an ACT, OUT or JOIN has a step
front_kind : (r mode m : ℕ) (N : Row) (f : ℕ → ℕ) (a : Bool) → cond (a && waiting N m) (row_kind r mode N f) (no 11 r) ≡ cond (a && waiting_step N m) (row_kind r mode N f) (no 11 r)
unfolding waiting waiting_step row_kind
front_kind r mode m NIL f a = either (no 11 r) (a && true) (a && false)
front_kind r mode m (PREFIX π c) f a = refl
front_kind r mode m (BRANCH κ p q) f a = either (no 11 r) (a && waiting (BRANCH κ p q) m) (a && false)

turned_front : (N : Row) (r : ℕ) (b : Bool) (o : Option Turn) → kind_turned N r (cond b o none) ≡ cond b (kind_turned N r o) (no 11 r)
unfolding kind_turned
turned_front N r true o = refl
turned_front N r false o = refl

pub kind_from_law : (t : Table) (s : State) (r : ℕ) → kind_at t s r ≡ kind_from t.terms t.n s.mode (marks_of s) (reached (nodes t) (marks_of s)) (λ q. digit (eval_in t q (links_of s))) r
unfolding kind_at turn_at in_front kind_from
kind_from_law t s r =
    turned_front (nodes t r) r (ltb r t.n && reached (nodes t) (marks_of s) r && waiting (nodes t r) (marks_of s r)) (turn_by (λ π. turn_of (eval_in t) (mode_of s.mode) π (links_of s)) (nodes t r))
    ∙ (ap (λ (k : Kind). cond (ltb r t.n && reached (nodes t) (marks_of s) r && waiting (nodes t r) (marks_of s r)) k (no 11 r)) (row_kind_law (eval_in t) r s.mode (links_of s) (nodes t r))
    ∙ front_kind r s.mode (marks_of s r) (nodes t r) (λ q. digit (eval_in t q (links_of s))) (ltb r t.n && reached (nodes t) (marks_of s) r))

-- one test after the other
pub from_none : (ts : List ℕ) (n mode : ℕ) (μ : Marks) (seen : ℕ → Bool) (f : ℕ → ℕ) (r : ℕ) → n ≤ r → no 11 r ≡ kind_from ts n mode μ seen f r
unfolding kind_from
from_none ts n mode μ seen f r h = rw (le-ltb r n h) refl

-- the tables know what is reached and what the conditions are worth
pub record Knows (t : Table) (s : State) (seen vals : List ℕ) : Type 0 where
  pub seen_shows : Shows (asked_at Reached (nodes t) (marks_of s)) t.n seen
  pub vals_known : Evaluated t.evaluation t.conditions (links_of s) t.k vals

pub knows : {t : Table} {s : State} {seen vals : List ℕ} → Shows (asked_at Reached (nodes t) (marks_of s)) t.n seen → Evaluated t.evaluation t.conditions (links_of s) t.k vals → Knows t s seen vals
knows g h = record { seen_shows = g; vals_known = h }

same_kind : (r mode : ℕ) (N : Row) (f g : ℕ → ℕ) → ((q c : ℕ) → N ≡ PREFIX (join q) c → f q ≡ g q) → row_kind r mode N f ≡ row_kind r mode N g
unfolding row_kind prefix_kind
same_kind r mode NIL f g h = refl
same_kind r mode (PREFIX (act a) c) f g h = refl
same_kind r mode (PREFIX (out l b) c) f g h = refl
same_kind r mode (PREFIX (join q) c) f g h = ap (join_kind r mode) (h q c refl)
same_kind r mode (BRANCH κ p q) f g h = refl

module _ (t : Table) (w : WellFormed t) (s : State) (seen vals : List ℕ) (k : Knows t s seen vals) where
  -- the step from the tables
  value_known : (q : ℕ) → q < t.k → value_in vals q ≡ digit (eval_in t q (links_of s))
  value_known q h = let few : t.k ≤ 256 = w.few_conditions in evaluated_at t.evaluation t.conditions (links_of s) t.k vals k.vals_known q h (omega arith)

  pub kind_known : (r : ℕ) → kind_from t.terms t.n s.mode (marks_of s) (flagged seen) (value_in vals) r ≡ kind_at t s r
  unfolding kind_from
  kind_known r =
      by_cases (dec_lt r t.n)
      (λ (h : r < t.n). ap (λ (b : Bool). cond (ltb r t.n && b && waiting_step (nodes t r) (marks_of s r)) (row_kind r s.mode (nodes t r) (value_in vals)) (no 11 r)) (shown _ t.n seen k.seen_shows r h ∙ asked_reached (nodes t) (marks_of s) r)
      ∙ (ap (λ (x : Kind). cond (ltb r t.n && reached (nodes t) (marks_of s) r && waiting_step (nodes t r) (marks_of s r)) x (no 11 r)) (same_kind r s.mode (nodes t r) (value_in vals) (λ q. digit (eval_in t q (links_of s))) (λ q c e. value_known q (w.joins r q c h e)))
      ∙ sym (kind_from_law t s r)))
      (λ (h : r < t.n → ⊥). sym (from_none t.terms t.n s.mode (marks_of s) (flagged seen) (value_in vals) r (omega arith)) ∙ (from_none t.terms t.n s.mode (marks_of s) (reached (nodes t) (marks_of s)) (λ q. digit (eval_in t q (links_of s))) r (omega arith) ∙ sym (kind_from_law t s r)))

pub from_unseen : (ts : List ℕ) (n mode : ℕ) (μ : Marks) (seen : ℕ → Bool) (f : ℕ → ℕ) (r : ℕ) → seen r ≡ false → no 11 r ≡ kind_from ts n mode μ seen f r
unfolding kind_from
from_unseen ts n mode μ seen f r h = rw (h, and_false (ltb r n)) refl

pub from_passed : (ts : List ℕ) (n mode : ℕ) (μ : Marks) (seen : ℕ → Bool) (f : ℕ → ℕ) (r : ℕ) → waiting_step (row_at ts r) (μ r) ≡ false → no 11 r ≡ kind_from ts n mode μ seen f r
unfolding kind_from
from_passed ts n mode μ seen f r h = rw (h, and_false (ltb r n && seen r)) refl

pub from_front : (ts : List ℕ) (n mode : ℕ) (μ : Marks) (seen : ℕ → Bool) (f : ℕ → ℕ) (r : ℕ) → r < n → seen r ≡ true → waiting_step (row_at ts r) (μ r) ≡ true → row_kind r mode (row_at ts r) f ≡ kind_from ts n mode μ seen f r
unfolding kind_from
from_front ts n mode μ seen f r h e g = rw (lt-ltb r n h, e, g) refl

-- what a step needs: its row is one of the sheet's, its link is below 64, a JOIN has a child
kind_inside : (t : Table) (s : State) (r : ℕ) → is_ok (kind_at t s r) ≡ true → r < t.n
unfolding kind_from
kind_inside t s r e = by_cases (dec_lt r t.n) (λ h. h) (λ h. absurd (true≢false (sym e ∙ (ap is_ok (kind_from_law t s r) ∙ rw (le-ltb r t.n (omega arith)) refl))))

own_small : (t : Table) → WellFormed t → (r : ℕ) → r < t.n → OwnBelow (nodes t r)
unfolding OwnBelow
own_small t w r h l e = let (b, c, f) = source_out (nodes t r) l e in let z : l < t.m = w.outs r l c b h f in let y : t.m ≤ 64 = w.few_links in omega arith

abbrev is_clean : Kind → Bool
is_clean (Ok (Act a)) = false
is_clean (Ok (Set l v)) = false
is_clean (Ok Open) = false
is_clean (Ok Clean) = true
is_clean (Err e) = false

front_clean : (r mode n : ℕ) (N : Row) (f : ℕ → ℕ) (b : Bool) → Kids r n N → cond b (row_kind r mode N f) (no 11 r) ≡ Ok Clean → first_of N < n
unfolding row_kind Kids first_of
front_clean r mode n N f false k e = absurd (true≢false (ap is_clean (sym e)))
front_clean r mode n NIL f true k e = absurd (true≢false (ap is_clean (sym e)))
front_clean r mode n (PREFIX π c) f true k e = k.1
front_clean r mode n (BRANCH κ p q) f true k e = k.0.1

-- a step that takes its row
abbrev is_taken : Kind → Bool
is_taken (Ok (Act a)) = true
is_taken (Ok (Set l v)) = true
is_taken (Ok Open) = true
is_taken (Ok Clean) = false
is_taken (Err e) = false

kind_by_law : (N : Row) → is_taken (kind_by N) ≡ true
unfolding kind_by kind_of
kind_by_law NIL = refl
kind_by_law (PREFIX (act a) c) = refl
kind_by_law (PREFIX (out l b) c) = refl
kind_by_law (PREFIX (join q) c) = refl
kind_by_law (BRANCH κ p q) = refl

-- a step that is no clean one takes its row
unless_clean : (k : StepKind) → (k ≡ Clean → ⊥) → is_taken (Ok k) ≡ true
unless_clean (Act a) n = refl
unless_clean (Set l v) n = refl
unless_clean Open n = refl
unless_clean Clean n = absurd (n refl)

taken_not_clean : (k : Kind) → is_taken k ≡ true → is_clean k ≡ true → ⊥
taken_not_clean (Ok (Act a)) e f = true≢false (sym f)
taken_not_clean (Ok (Set l v)) e f = true≢false (sym f)
taken_not_clean (Ok Open) e f = true≢false (sym f)
taken_not_clean (Ok Clean) e f = true≢false (sym e)
taken_not_clean (Err r) e f = true≢false (sym e)

taken_is_ok : (k : Kind) → is_taken k ≡ true → is_ok k ≡ true
taken_is_ok (Ok (Act a)) e = refl
taken_is_ok (Ok (Set l v)) e = refl
taken_is_ok (Ok Open) e = refl
taken_is_ok (Ok Clean) e = refl
taken_is_ok (Err r) e = e

taken_step : (t : Table) (s : State) (r : ℕ) (N : Row) (o : Option Turn) → is_taken (kind_turned N r o) ≡ true → counted t (taken_of t.terms t.n s r) ≡ stepped_by t s r o
unfolding kind_turned stepped_by
taken_step t s r N none e = absurd (true≢false (sym e))
taken_step t s r N (some takes) e = refl
taken_step t s r N (some drops) e = absurd (true≢false (sym e))

clean_step : (t : Table) (s : State) (r : ℕ) (N : Row) (o : Option Turn) → is_clean (kind_turned N r o) ≡ true → counted t (dropped_of t.terms t.n s r) ≡ stepped_by t s r o
unfolding kind_turned stepped_by
clean_step t s r N none e = absurd (true≢false (sym e))
clean_step t s r N (some takes) e = absurd (taken_not_clean (kind_by N) (kind_by_law N) e)
clean_step t s r N (some drops) e = refl

pub refused_step : (t : Table) (s : State) (r : ℕ) (N : Row) (o : Option Turn) → is_ok (kind_turned N r o) ≡ false → s ≡ stepped_by t s r o
unfolding kind_turned stepped_by
refused_step t s r N none e = refl
refused_step t s r N (some takes) e = absurd (true≢false (sym (taken_is_ok (kind_by N) (kind_by_law N)) ∙ e))
refused_step t s r N (some drops) e = absurd (true≢false e)

-- the state after a step, by its kind
module _ (t : Table) (s : State) (r : ℕ) where
  pub after_taken : (k : StepKind) → Ok k ≡ kind_at t s r → (k ≡ Clean → ⊥) → counted t (taken_of t.terms t.n s r) ≡ stepped_of t s r
  unfolding stepped_of kind_at
  after_taken k e n = taken_step t s r (nodes t r) (turn_at t s r) (ap is_taken (sym e) ∙ unless_clean k n)

  pub after_clean : Ok Clean ≡ kind_at t s r → counted t (dropped_of t.terms t.n s r) ≡ stepped_of t s r
  unfolding stepped_of kind_at
  after_clean e = clean_step t s r (nodes t r) (turn_at t s r) (ap is_clean (sym e))

  -- the answer of taking it
  pub answer_taken : (k : StepKind) → Ok k ≡ kind_at t s r → (z : State) → z ≡ stepped_of t s r → record { answer = Ok k; state = z } ≡ taken_answer t s r
  unfolding taken_answer
  answer_taken k e z g = rw (← e, g) refl

  pub answer_refused : (x : Refusal) → Err x ≡ kind_at t s r → record { answer = Err x; state = s } ≡ taken_answer t s r
  unfolding taken_answer stepped_of kind_at
  answer_refused x e = rw (← refused_step t s r (nodes t r) (turn_at t s r) (ap is_ok (sym e)), ← e) refl

-- ... and what taking it needs
pub taken_needs : (t : Table) → WellFormed t → (s : State) (r : ℕ) (k : StepKind) → Ok k ≡ kind_at t s r → (r < t.n) × OwnBelow (nodes t r)
taken_needs t w s r k e = let h = kind_inside t s r (ap is_ok (sym e)) in (h, own_small t w r h)

pub clean_needs : (t : Table) → WellFormed t → (s : State) (r : ℕ) → Ok Clean ≡ kind_at t s r → (r < t.n) × (first_of (nodes t r) < t.n)
unfolding kind_from
clean_needs t w s r e =
    let h = kind_inside t s r (ap is_ok (sym e)) in
    (h, front_clean r s.mode t.n (nodes t r) (λ q. digit (eval_in t q (links_of s))) (ltb r t.n && reached (nodes t) (marks_of s) r && waiting_step (nodes t r) (marks_of s r)) (w.tree.kids r h) (sym (kind_from_law t s r) ∙ sym e))

-- a row has a step exactly if its kind is one
pub has_kind : (N : Row) (r : ℕ) (o : Option Turn) → is_ok (kind_turned N r o) ≡ is_some o
unfolding kind_turned
has_kind N r none = refl
has_kind N r (some takes) = taken_is_ok (kind_by N) (kind_by_law N)
has_kind N r (some drops) = refl

pub kind_step : (t : Table) (s : State) (r : ℕ) → is_ok (kind_at t s r) ≡ has_step t s r
unfolding kind_at has_step
kind_step t s r = has_kind (nodes t r) r (turn_at t s r)
