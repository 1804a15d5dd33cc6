-- What is told of a list of JOIN rows: a byte for each, and rows on one condition have one byte. Assumes nothing.
use Prim.Native.Nat.{ℕ, ◌+◌, ◌-◌, ◌<◌, ◌≤◌}
use mathlib.Core.Path.{◌≡◌, refl, sym, ◌∙◌, ap}
use mathlib.Core.Bool.{Bool, not}
use mathlib.Core.List.{List, ◌++◌, map}
use mathlib.Core.Logic.{by_cases}
use native.Mathlib.Omega.{arith}
use native.Mathlib.Decide.{ℕ_discrete, dec_lt}
use lib.Dec.{eqb}
use lib.ListN.{length, get_or, drop, set, length-set, length-append, length-drop, length-map, get_or-append}
use lib.Seq.{get_or-set_same, get_or-set_other, get_or-append-add, get_or-drop, ext_get_or}
use borrow.Author.Tests.{eqb-true, not-false}
use Rattle.laws.specs.Lowest.{lowest}
use Rattle.laws.proofs.Members.{map_at}
use Rattle.laws.proofs.Lowest.{lowest_upto, lowest_at}
use Rattle.worth.specs.Pass.{condition_byte, byte_at, byte_of}

-- the row that is found is on the condition
pub first_on_it : (ts rows : List ℕ) (q end r : ℕ) → r ≡ lowest (λ i. not (eqb (condition_byte ts (get_or rows i 0)) q)) 0 end → (r ≤ end) × (r < end → condition_byte ts (get_or rows r 0) ≡ q)
first_on_it ts rows q end r e = let upto = lowest_upto other 0 end in rw e (omega (arith, upto), λ h. eqb-true _ q (not-false _ (lowest_at other 0 end (omega arith))))
  where
    other : ℕ → Bool
    other i = not (eqb (condition_byte ts (get_or rows i 0)) q)

module _ (f : ℕ → ℕ) (rows : List ℕ) where
  -- of the buffer the first i bytes are told, the others are as they were
  pub record Telling (i : ℕ) (out out₀ : List ℕ) : Type 0 where
    pub long : length out ≡ length out₀
    pub so_far : (j : ℕ) → j < i → get_or out j 0 ≡ f (get_or rows j 0)
    pub others : (j : ℕ) → i ≤ j → get_or out j 0 ≡ get_or out₀ j 0

  pub telling_none : (out : List ℕ) → Telling 0 out out
  telling_none out = record { long = refl; so_far = λ j h. absurd (omega arith); others = λ j h. refl }

  -- one byte more
  pub telling_more : (i x : ℕ) (out out₀ : List ℕ) → i < length out → x ≡ f (get_or rows i 0) → Telling i out out₀ → Telling (i + 1) (set out i x) out₀
  telling_more i x out out₀ h e t = record {
    long = length-set out i x ∙ t.long;
    so_far = λ j g. by_cases (ℕ_discrete j i) (λ (q : j ≡ i). rw q (get_or-set_same out i x 0 h ∙ e)) (λ q. get_or-set_other out i j x 0 q ∙ t.so_far j (omega arith));
    others = λ j g. get_or-set_other out i j x 0 (λ q. omega arith) ∙ t.others j (omega arith);
  }

  -- past a list that stands before what is left of the buffer, the buffer is as it was
  past_list : (xs out : List ℕ) (j : ℕ) → length xs ≤ j → get_or (xs ++ drop (length xs) out) j 0 ≡ get_or out j 0
  past_list xs out j h =
      let e : j ≡ length xs + (j - length xs) = omega arith in
      ap (λ (k : ℕ). get_or (xs ++ drop (length xs) out) k 0) e ∙ (get_or-append-add xs (drop (length xs) out) (j - length xs) 0 ∙ (get_or-drop (length xs) out (j - length xs) 0 ∙ ap (λ (k : ℕ). get_or out k 0) (sym e)))

  -- all are told
  pub telling_all : (i : ℕ) (out out₀ : List ℕ) → i ≡ length rows → length rows ≤ length out₀ → Telling i out out₀ → out ≡ map f rows ++ drop (length rows) out₀
  telling_all i out out₀ e room t =
      let m = length-map rows f in
      let a = length-append (map f rows) (drop (length (map f rows)) out₀) in
      let d = length-drop (length (map f rows)) out₀ in
      rw (← m)
      (ext_get_or 0 out (map f rows ++ drop (length (map f rows)) out₀) (omega (arith, m, a, d, t.long))
      (λ j h. by_cases (dec_lt j (length rows))
      (λ g. t.so_far j (omega arith) ∙ sym (get_or-append (map f rows) (drop (length (map f rows)) out₀) 0 j (omega (arith, m)) ∙ map_at f rows j g))
      (λ g. t.others j (omega arith) ∙ sym (past_list (map f rows) out₀ j (omega (arith, m))))))

-- a row on the condition of an earlier one has its byte
pub same_byte : (ts cs links vals rows out out₀ : List ℕ) (i j q : ℕ) → Telling (byte_of ts cs links vals) rows i out out₀ → j < i → condition_byte ts (get_or rows j 0) ≡ q → q ≡ condition_byte ts (get_or rows i 0) → get_or out j 0 ≡ byte_of ts cs links vals (get_or rows i 0)
same_byte ts cs links vals rows out out₀ i j q t h e g = t.so_far j h ∙ ap (byte_at cs links vals) (e ∙ g)
