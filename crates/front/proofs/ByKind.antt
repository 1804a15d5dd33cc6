-- What the tests of a row are, by the kind in its bytes, and of a mode. Assumes nothing.
use Prim.Native.Nat.{ℕ}
use mathlib.Core.Path.{◌≡◌, refl, sym, ◌∙◌}
use mathlib.Core.Bool.{Bool, true, false, cond, ◌&&◌, not}
use mathlib.Core.List.{List}
use lib.Dec.{eqb}
use borrow.Author.Tests.{eqb-true}
use Rattle.laws.proofs.Tests.{and_false, or_none}
use Rattle.calculus.specs.Process.{Prefix, pick, flow}
use Rattle.calculus.specs.Places.{plain, cleaning, cleans}
use Rattle.steps.specs.Rows.{Row, NIL, PREFIX, BRANCH, first_of, second_of}
use Rattle.steps.specs.Marks.{stand_by, stand, open_by, open_branches}
use Rattle.steps.specs.InFront.{waits_by, passed_by, undecided, waiting_step, opens, leads}
use Rattle.steps.specs.Push.{set_if, handed}
use Rattle.moves.specs.Steps.{mode_of}
use Rattle.moves.specs.Fits.{keeps_by, keeps}
use Rattle.front.specs.declared.Question.{Question}
use Rattle.front.specs.declared.Question.TheVariants.{Reached, Held, Live}
use Rattle.front.specs.Asked.{next_by, next_of}

pub passed_mark : (m : ℕ) → passed_by (stand m) ≡ eqb m 1
unfolding stand passed_by
passed_mark m = at (eqb m 1) (eqb m 4)
  where
    at : (a b : Bool) → passed_by (stand_by a b) ≡ a
    at true b = refl
    at false true = refl
    at false false = refl

pub waits_mark : (m : ℕ) → waits_by (stand m) ≡ not (eqb m 1) && not (eqb m 4)
unfolding stand waits_by
waits_mark m = at (eqb m 1) (eqb m 4)
  where
    at : (a b : Bool) → waits_by (stand_by a b) ≡ not a && not b
    at true b = refl
    at false true = refl
    at false false = refl

pub undecided_mark : (m : ℕ) → undecided (open_branches pick m) ≡ not (eqb m 2) && not (eqb m 3)
unfolding open_branches undecided
undecided_mark m = at (eqb m 2) (eqb m 3)
  where
    at : (a b : Bool) → undecided (open_by a b) ≡ not a && not b
    at true b = refl
    at false true = refl
    at false false = refl

one_not_four : (m : ℕ) → eqb m 1 ≡ true → eqb m 4 ≡ false
one_not_four m e = rw (eqb-true m 1 e) refl

pub keeps_mark : (m : ℕ) → keeps_by (stand m) ≡ not (eqb m 4)
unfolding stand keeps_by
keeps_mark m = at (eqb m 1) (eqb m 4) (one_not_four m)
  where
    at : (a b : Bool) → (a ≡ true → b ≡ false) → keeps_by (stand_by a b) ≡ not b
    at true b h = rw (h refl) refl
    at false true h = refl
    at false false h = refl

-- a FLOW hands on what it was handed
next_flow : (q : Question) (b : Bool) → b ≡ next_by q true false true b
unfolding next_by
next_flow Reached true = refl
next_flow Reached false = refl
next_flow Held b = sym (or_none b)
next_flow Live true = refl
next_flow Live false = refl

-- a table before and after a row has handed down what is asked
module _ (q : Question) (m : ℕ) (own : Bool) (t u : List ℕ) (N : Row) where
  abbrev Hands : Type 0
  Hands = u ≡ handed t N (next_of q N m false own) (next_of q N m true own)

  pub hand_step : {π : Prefix} {d : ℕ} → N ≡ PREFIX π d → (x : Bool) → x ≡ next_by q (passed_by (stand m)) (waits_by (stand m)) (keeps_by (stand m)) own → u ≡ set_if (x && not (eqb d 0)) d t → Hands
  unfolding handed set_if first_of second_of next_of leads waiting_step keeps
  hand_step {π} {d} e x f g = g ∙ rw (e, f, and_false (next_of q (PREFIX π d) m true own)) refl

  pub hand_pick : {a b : ℕ} → N ≡ BRANCH pick a b → (x y : Bool) → x ≡ next_by q (opens (open_branches pick m) false) false (opens (open_branches pick m) false) own → y ≡ next_by q (opens (open_branches pick m) true) false (opens (open_branches pick m) true) own → u ≡ set_if (y && not (eqb b 0)) b (set_if (x && not (eqb a 0)) a t) → Hands
  unfolding handed first_of second_of next_of leads waiting_step keeps
  hand_pick e x y f h g = g ∙ rw (e, f, h) refl

  pub hand_flow : {a b : ℕ} → N ≡ BRANCH flow a b → u ≡ set_if (own && not (eqb b 0)) b (set_if (own && not (eqb a 0)) a t) → Hands
  unfolding handed first_of second_of next_of leads waiting_step keeps open_branches opens
  hand_flow e g = g ∙ rw (e, ← next_flow q own) refl

  pub hand_none : N ≡ NIL → u ≡ t → Hands
  unfolding handed set_if first_of second_of
  hand_none e g = g ∙ rw (e, and_false (next_of q NIL m false own), and_false (next_of q NIL m true own)) refl

pub cleans_by : (m : ℕ) → eqb m 1 ≡ cleans (mode_of m)
unfolding mode_of cleans
cleans_by m = at (eqb m 1)
  where
    at : (b : Bool) → b ≡ cleans (cond b cleaning plain)
    at true = refl
    at false = refl
