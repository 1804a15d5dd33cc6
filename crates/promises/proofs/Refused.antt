-- The first check that fails decides every answer. Assumes nothing.
use Prim.Native.Nat.{ℕ, ◌+◌, ◌-◌, ◌*◌, ◌/◌, ◌<◌, ◌≤◌}
use mathlib.Core.Path.{◌≡◌, refl, sym, ◌∙◌, ap, ap₂, subst}
use mathlib.Core.Bool.{true, false, cond, not}
use mathlib.Core.List.{List, [], ◌∷◌, ◌++◌, append-nil}
use mathlib.Core.Logic.{◌⊎◌, inl, inr, ⊎_elim, by_cases, ◌↔◌}
use native.Mathlib.Omega.{arith}
use native.Mathlib.Decide.{dec_lt}
use lib.Dec.{eqb, ltb}
use lib.ListN.{length, take, drop, length-drop}
use lib.Seq.{length-take-le}
use borrow.Author.Tests.{le-leb, eqb-false, not-true}
use Rattle.laws.specs.Lowest.{lowest}
use Rattle.laws.specs.Checks.{Check, place_of, Holds, checked, AllHold}
use Rattle.laws.proofs.Tests.{and_l, and_r}
use Rattle.laws.proofs.Lowest.{lowest_from, lowest_below, lowest_at}
use Rattle.laws.proofs.Checks.{checked_fails, checked_holds, checked_append, place_is, place_holds, holds_end, all_hold}
use Rattle.sheet.specs.declared.Refusal.{Refusal}
use Rattle.sheet.specs.Table.{Table}
use Rattle.sheet.specs.Rules.{sized, sizes, from3, refuse, no}
use Rattle.sheet.specs.Sheet.{number_at, head_of, terms_of, conditions_of, sheet_size, contents, table_in, sheet_checks}
use Rattle.sheet.proofs.Refusals.{without}
use Rattle.codec.proofs.Reading.{bodies}
use Rattle.state.specs.declared.State.{State}
use Rattle.moves.specs.Steps.{kind_at}
use Rattle.sheet_engine.specs.Answers.{kind_answer, not_taken, step_answer}
use Rattle.sheet_engine.specs.Values.{row_checks, was_taken, Answers}
use Rattle.sheet_engine.proofs.Steps.{kind_checked, step_checked}
use Rattle.promises.specs.Refused.{FirstFails, Answered, read_checks}

-- the place of a check that fails
pub place_fails : (c : Check) (p : ℕ) → p ≡ place_of c → p < c.upto → (c.from ≤ p) × (c.rule p ≡ false) × ((q : ℕ) → c.from ≤ q → q < p → c.rule q ≡ true)
unfolding place_of
place_fails c p here h =
    let low : c.from ≤ lowest c.rule c.from (c.upto - c.from) = lowest_from c.rule c.from (c.upto - c.from) in
    rw here (low, lowest_at c.rule c.from (c.upto - c.from) (omega arith), λ q from below. lowest_below c.rule c.from (c.upto - c.from) q from below)

-- a check that fails does so at its place, the lowest
check_fails : (c : Check) (cs : List Check) → place_of c < c.upto → FirstFails (c ∷ cs) c.number (place_of c)
unfolding AllHold
check_fails c cs h =
    let (from, breaks, lowest) = place_fails c (place_of c) refl h in
    record { before = []; check = c; after = cs; order = refl; before_hold = tt; its_number = refl; from = from; inside = h; breaks = breaks; lowest = lowest }

-- ... and so do those after checks that hold
later_fails : (c : Check) (cs : List Check) → AllHold (c ∷ []) → {n p : ℕ} → FirstFails cs n p → FirstFails (c ∷ cs) n p
unfolding AllHold
later_fails c cs h f = record {
  before = c ∷ f.before;
  check = f.check;
  after = f.after;
  order = ap (λ (l : List Check). c ∷ l) f.order;
  before_hold = (h.0, f.before_hold);
  its_number = f.its_number;
  from = f.from;
  inside = f.inside;
  breaks = f.breaks;
  lowest = f.lowest;
}

pub either : (cs : List Check) → AllHold cs ⊎ ((n : ℕ) × (p : ℕ) × FirstFails cs n p)
unfolding AllHold
either [] = inl tt
either (c ∷ cs) =
    by_cases (dec_lt (place_of c) c.upto)
    (λ h. inr (c.number, place_of c, check_fails c cs h))
    (λ h. let holds = place_holds c (place_of c) refl (omega arith) in
    ⊎_elim (λ all. inl (holds, all)) (λ (n, p, f). inr (n, p, later_fails c cs (holds, tt) f)) (either cs))

pub first_fails : {A : Type 0} (refused : ℕ → ℕ → A) (good : A) {cs : List Check} {n p : ℕ} → FirstFails cs n p → checked refused good cs ≡ refused n p
first_fails {A} refused good {cs} {n} {p} f =
    ap (checked refused good) f.order
    ∙ (checked_append refused good f.before (f.check ∷ f.after)
    ∙ (all_hold refused (checked refused good (f.check ∷ f.after)) f.before f.before_hold
    ∙ (sym (checked_fails refused good f.check f.after p (place_is f.check p f.from f.lowest f.inside f.breaks) f.inside)
    ∙ ap (λ (x : ℕ). refused x p) f.its_number)))

-- checks of other numbers than the refusal's hold, and those after them give it
passed_over : (n p : ℕ) (cs ds : List Check) → without n cs ≡ true → checked refuse (refuse 0 0) (cs ++ ds) ≡ refuse n p → AllHold cs × (checked refuse (refuse 0 0) ds ≡ refuse n p)
unfolding without AllHold
passed_over n p [] ds w e = (tt, e)
passed_over n p (c ∷ cs) ds w e =
    by_cases (dec_lt (place_of c) c.upto)
    (λ h. absurd (eqb-false c.number n (not-true _ (and_l _ _ w)) (ap (λ (r : Refusal). r.number) (checked_fails refuse (refuse 0 0) c (cs ++ ds) (place_of c) refl h ∙ e))))
    (λ h.
    let g : c.upto ≤ place_of c = omega arith in
    let (held, later) = passed_over n p cs ds (and_r (not (eqb c.number n)) _ w) (checked_holds refuse (refuse 0 0) c (cs ++ ds) (place_of c) refl g ∙ e) in
    ((place_holds c (place_of c) refl g, held), later))

-- ... so where one check alone has its number, those before it hold, and it fails there
module _ (before : List Check) (c : Check) (after : List Check) (p : ℕ) (some : c.number ≡ 0 → ⊥) (b : without c.number before ≡ true) (a : without c.number after ≡ true) where
  pub refused_there : checked refuse (refuse 0 0) (before ++ (c ∷ after)) ≡ refuse c.number p → AllHold before × (p ≡ place_of c) × (p < c.upto)
  unfolding checked
  refused_there e =
      let (held, here) = passed_over c.number p before (c ∷ after) b e in
      by_cases (dec_lt (place_of c) c.upto)
      (λ h. let place : place_of c ≡ p = ap (λ (r : Refusal). r.place) (checked_fails refuse (refuse 0 0) c after (place_of c) refl h ∙ here) in (held, sym place, rw place at h))
      (λ h. let none = passed_over c.number p after [] a (rw append-nil (checked_holds refuse (refuse 0 0) c after (place_of c) refl (omega arith) ∙ here)) in absurd (some (sym (ap (λ (r : Refusal). r.number) none.1))))

-- a check taken out of a list
pub one_out : (before : List Check) (c : Check) (after : List Check) → AllHold (before ++ (c ∷ after)) ↔ (AllHold (before ++ after) × Holds c)
unfolding AllHold
one_out [] c after = ((λ (h, rest). (rest, h)), λ (rest, h). (h, rest))
one_out (x ∷ before) c after =
    let (to, back) = one_out before c after in
    ((λ (first, all). let (rest, h) = to all in ((first, rest), h)), λ ((first, rest), h). (first, back (rest, h)))

-- what is read of a refusal is its number and its place
abbrev pub Reads : {A : Type 0} → (A → ℕ) → (A → ℕ) → (ℕ → ℕ → A) → Type 0
Reads number place refused = (n p : ℕ) → (number (refused n p) ≡ n) × (place (refused n p) ≡ p)

-- an answer's number and place are those of a refusal exactly if its checks give that
module _ {A : Type 0} (number place : A → ℕ) {refused : ℕ → ℕ → A} {good : A} {cs : List Check} {a : A} (told : Answers number refused good cs a) (is : Reads number place refused) where
  pub values_told : (n p : ℕ) → (n ≡ 0 → ⊥) → ((number a ≡ n) × (place a ≡ p)) ↔ (checked refuse (refuse 0 0) cs ≡ refuse n p)
  values_told n p some = (
    λ (e, f).
        let r = told.refusal (λ z. some (sym e ∙ z)) in
        ap₂ refuse (sym (is _ _).0 ∙ (sym (ap number r) ∙ e)) (sym (is _ _).1 ∙ (sym (ap place r) ∙ f)),
    λ e.
        let r = told.refusal (λ z. some (sym (ap (λ (r : Refusal). r.number) (sym (all_hold refuse (refuse 0 0) cs (told.accepts.0 z)) ∙ e)))) in
        (ap number r ∙ ((is _ _).0 ∙ ap (λ (r : Refusal). r.number) e), ap place r ∙ ((is _ _).1 ∙ ap (λ (r : Refusal). r.place) e)),
  )

-- AN ANSWER BY CHECKS is the good one or the refusal of the first that fails
pub answered : {A : Type 0} (refused : ℕ → ℕ → A) (good : A) (cs : List Check) → Answered refused good cs (checked refused good cs)
answered refused good cs = ⊎_elim (λ h. inl (h, all_hold refused good cs h)) (λ (n, p, f). inr (n, p, f, first_fails refused good f)) (either cs)

-- ... and so is a pair of two by the same checks
pub both_answered : {A B : Type 0} (refused : ℕ → ℕ → A) (good : A) (refused' : ℕ → ℕ → B) (good' : B) (cs : List Check) → Answered {A = A × B} (λ n p. (refused n p, refused' n p)) (good, good') cs (checked refused good cs, checked refused' good' cs)
both_answered refused good refused' good' cs =
    ⊎_elim
    (λ h. inl (h, (λ i. (all_hold refused good cs h i, all_hold refused' good' cs h i))))
    (λ (n, p, f). inr (n, p, f, (λ i. (first_fails refused good f i, first_fails refused' good' f i))))
    (either cs)

-- ... and what is made of one
pub map_answered : {A B : Type 0} (f : A → B) {refused : ℕ → ℕ → A} {good : A} {cs : List Check} {a : A} → Answered refused good cs a → Answered (λ n p. f (refused n p)) (f good) cs (f a)
map_answered f = ⊎_elim (λ (h, e). inl (h, ap f e)) (λ (n, p, g, e). inr (n, p, g, ap f e))

-- a check that holds wherever the one before it does can be left out
skipped : {A : Type 0} (refused : ℕ → ℕ → A) (good : A) (b c : Check) (ds : List Check) → (Holds b → Holds c) → checked refused good (b ∷ c ∷ ds) ≡ checked refused good (b ∷ ds)
skipped refused good b c ds h =
    by_cases (dec_lt (place_of b) b.upto)
    (λ g. sym (checked_fails refused good b (c ∷ ds) (place_of b) refl g) ∙ checked_fails refused good b ds (place_of b) refl g)
    (λ g.
    let e : b.upto ≤ place_of b = omega arith in
    sym (checked_holds refused good b (c ∷ ds) (place_of b) refl e) ∙ (sym (checked_holds refused good c ds (place_of c) refl (holds_end c (h (place_holds b (place_of b) refl e)))) ∙ checked_holds refused good b ds (place_of b) refl e))

-- A SHEET: where 2 holds, the table of its parts meets 1
parts_sized : (s : List ℕ) → Holds (contents s) → sized (head_of s).n (head_of s).k (length (terms_of s)) (length (conditions_of s)) ≡ true
unfolding sized head_of terms_of conditions_of
parts_sized s h =
    let w = bodies s h in
    let x : ℕ = number_at s 9 in
    let y : ℕ = number_at s 14 in
    let t : length (take x (drop 18 s)) ≡ x = length-take-le x (drop 18 s) (omega (arith, length-drop 18 s, w.ends)) in
    let c : length (take y (drop (18 + x) s)) ≡ y = length-take-le y (drop (18 + x) s) (omega (arith, length-drop (18 + x) s, w.ends)) in
    rw (t, c, le-leb 1 (x / 4) (omega (arith, w.terms_few)), le-leb (x / 4) 256 (omega (arith, w.terms_many)), le-leb (y / 4) 256 (omega (arith, w.conditions_many)), le-leb (x / 4 * 4) x (omega arith), le-leb (y / 4 * 4) y (omega arith)) refl

pub sheet_answered : {A : Type 0} (refused : ℕ → ℕ → A) (good : A) (s : List ℕ) → Answered refused good (read_checks s) (checked refused good (sheet_checks s))
unfolding checked
sheet_answered refused good s =
    subst (Answered refused good (read_checks s))
    (ap (cond (ltb (place_of (sheet_size (length s))) 1) (refused 1 (place_of (sheet_size (length s))))) (sym (skipped refused good (contents s) (sizes (head_of s).n (head_of s).k (length (terms_of s)) (length (conditions_of s))) (from3 (table_in s)) (λ h p low high. parts_sized s h))))
    (answered refused good (read_checks s))

-- THE STEP OF A ROW
module _ (t : Table) (s : State) (row : ℕ) where
  pub kind_answered : Answered no (kind_at t s row) (row_checks t s row) (kind_answer t s row)
  kind_answered = rw (kind_checked t s row) (answered no (kind_at t s row) (row_checks t s row))

  pub step_answered : Answered (not_taken s) (was_taken t s row) (row_checks t s row) (step_answer t s row)
  step_answered = rw (step_checked t s row) (answered (not_taken s) (was_taken t s row) (row_checks t s row))
