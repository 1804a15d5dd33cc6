-- The rule of a check at one place, as the code answers it. Assumes nothing.
use Prim.Native.Nat.{ℕ, ◌+◌, ◌-◌, ◌<◌, ◌≤◌}
use mathlib.Core.Path.{◌≡◌, refl, sym, ◌∙◌, ap}
use Rattle.std.specs.Prelude.{Ok}
use mathlib.Core.Bool.{Bool, true, false, ◌&&◌, not, cond}
use mathlib.Core.List.{List, []}
use mathlib.Core.Logic.{by_cases, ◌↔◌}
use native.Mathlib.Omega.{arith}
use native.Mathlib.Decide.{ℕ_discrete}
use lib.Dec.{eqb, ltb, leb}
use lib.ListN.{get_or}
use borrow.Author.Tests.{lt-ltb, le-ltb}
use Rattle.laws.specs.Tests.{or}
use Rattle.laws.specs.Checks.{Holds, place_of, checked}
use Rattle.laws.proofs.Tests.{and_l, and_r}
use Rattle.laws.proofs.Lowest.{lowest_same}
use Rattle.laws.proofs.Checks.{Scanned, checked_holds, holds_end}
use Rattle.calculus.specs.Places.{Mode}
use Rattle.steps.specs.Marks.{Marks}
use Rattle.steps.specs.InFront.{waiting}
use Rattle.sheet.specs.Table.{row_at}
use Rattle.sheet.specs.Rules.{no}
use Rattle.sheet.proofs.Refusals.{one_place_fails, one_place_holds}
use Rattle.state.specs.declared.State.{State}
use Rattle.moves.specs.Steps.{marks_of, links_of, remainder_in, acts_of, unset_of}
use Rattle.moves.specs.Fits.{suits, marks_fit, mark_ok, link_ok, wait_ok, clear_row, clear_ok, counts_ok, counts_fit}
use Rattle.flags.specs.Flags.{flagged, Shows}
use Rattle.flags.proofs.Shown.{shown}
use Rattle.front.specs.declared.Question.TheVariants.{Held}
use Rattle.front.specs.Asked.{asked_at, ShowsLive}
use Rattle.front.proofs.Asking.{asked_held, asked_live}
use Rattle.fitting.specs.Checks.{rest_fit, alone}

module _ (ts : List ℕ) (n : ℕ) (m : Mode) (μ : Marks) where
  pub mark_read : (i : ℕ) (r : Bool) → i < n → r ≡ suits m (row_at ts i) (μ i) → mark_ok ts n m μ i ≡ r
  unfolding mark_ok
  mark_read i r h e = rw (lt-ltb i n h) (sym e)

  -- where the marks below n suit, the answer is that to the rest
  pub rest_read : Scanned (marks_fit ts n m μ) n → alone (rest_fit n μ) ≡ alone (marks_fit ts n m μ)
  unfolding Scanned place_of mark_ok checked
  rest_read s = ap (λ p. cond (ltb p 256) (no 10 p) (Ok (tt {0}))) (sym (s ∙ lowest_same (mark_ok ts n m μ) (λ k. eqb (μ k) 0) n (256 - n) (λ k low high. rw (le-ltb k n low) refl)))

-- the rows from n to a row have no mark: exactly then it is told
pub record Unmarked (marks : List ℕ) (n row : ℕ) (none : Bool) : Type 0 where
  pub told : none ≡ true → (k : ℕ) → n ≤ k → k < row → eqb (get_or marks k 0) 0 ≡ true
  pub found : ((k : ℕ) → n ≤ k → k < row → eqb (get_or marks k 0) 0 ≡ true) → none ≡ true

pub unmarked_none : (marks : List ℕ) (n : ℕ) → Unmarked marks n n true
unmarked_none marks n = record { told = (λ e k low high. absurd (omega arith)); found = (λ f. refl) }

pub unmarked_more : (marks : List ℕ) (n row : ℕ) (none : Bool) → n ≤ row → Unmarked marks n row none → Unmarked marks n (row + 1) (none && eqb (get_or marks row 0) 0)
unmarked_more marks n row none h u = record {
  told = (λ e k low high. by_cases (ℕ_discrete k row) (λ z. rw z (and_r none _ e)) (λ z. u.told (and_l none _ e) k low (omega arith)));
  found = (λ f. rw (u.found (λ k low high. f k low (omega arith)), f row h (omega arith)) refl);
}

pub unmarked_end : (marks : List ℕ) (n : ℕ) (none : Bool) → Unmarked marks n 256 none → (none ≡ true) ↔ Holds (rest_fit n (λ k. get_or marks k 0))
unmarked_end marks n none u = (u.told, u.found)

pub rest_all : (n : ℕ) (μ : Marks) → Holds (rest_fit n μ) → Ok tt ≡ alone (rest_fit n μ)
unfolding checked
rest_all n μ f = checked_holds no (Ok tt) (rest_fit n μ) [] _ refl (holds_end (rest_fit n μ) f)

pub link_read : (m : ℕ) (links : List ℕ) (l : ℕ) (r : Bool) → r ≡ cond (ltb l m) (leb (get_or links l 0) 2) (eqb (get_or links l 0) 0) → link_ok m links l ≡ r
unfolding link_ok
link_read m links l r e = sym e

module _ (ts : List ℕ) (μ : Marks) (n : ℕ) (t : List ℕ) (i : ℕ) (h : i < n) (r : Bool) where
  pub wait_read : Shows (asked_at Held (row_at ts) μ) n t → r ≡ or (not (flagged t i)) (waiting (row_at ts i) (μ i)) → wait_ok ts μ i ≡ r
  unfolding wait_ok
  wait_read s e = sym (e ∙ ap (λ (b : Bool). or (not b) (waiting (row_at ts i) (μ i))) (shown _ n t s i h ∙ asked_held ts μ i))

  pub clear_read : (links : List ℕ) → ShowsLive ts n μ t → r ≡ or (not (flagged t i)) (clear_row (row_at ts i) (μ i) links) → clear_ok ts μ links i ≡ r
  unfolding clear_ok
  clear_read links s e = sym (e ∙ ap (λ (b : Bool). or (not b) (clear_row (row_at ts i) (μ i) links)) (shown _ n t s i h ∙ asked_live ts μ i))

-- (e), from the counts of what is left
module _ (m n : ℕ) (ts : List ℕ) (s : State) (a u : ℕ) (acts : a ≡ acts_of (remainder_in ts n (marks_of s) 0)) (unset : u ≡ unset_of m (links_of s)) where
  counts_read : counts_ok m ts n s ≡ (eqb s.acts a && eqb s.unset u)
  unfolding counts_ok
  counts_read = rw (acts, unset) refl

  pub counts_right : (eqb s.acts a && eqb s.unset u) ≡ true → Ok tt ≡ alone (counts_fit m ts n s)
  unfolding checked
  counts_right e = one_place_holds no (Ok tt) (counts_fit m ts n s) [] refl (counts_read ∙ e)

  pub counts_wrong : (eqb s.acts a && eqb s.unset u) ≡ false → no 10 0 ≡ alone (counts_fit m ts n s)
  counts_wrong e = one_place_fails no (Ok tt) (counts_fit m ts n s) [] (omega arith) (counts_read ∙ e)
