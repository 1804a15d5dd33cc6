-- Three copies make the bytes of a table, and the answers of writing. Assumes nothing.
use Prim.Native.Nat.{ℕ, ◌+◌, ◌*◌, ◌<◌, ◌≤◌}
use mathlib.Core.Path.{◌≡◌, refl, sym, ◌∙◌, ap, ap₂}
use Rattle.std.specs.Prelude.{Result, Ok, Err}
use mathlib.Core.List.{List, [], ◌∷◌, ◌++◌, append_assoc}
use native.Mathlib.Omega.{arith}
use lib.ListN.{length, take, drop, length-append, take-append-drop}
use lib.Seq.{length-take-le, drop-drop, paste, length-paste, take-paste, drop-paste, take_all}
use borrow.Author.Tests.{le-leb, lt-leb}
use Rattle.laws.specs.Listed.{written}
use Rattle.laws.specs.Checks.{checked}
use Rattle.laws.proofs.Listed.{written_short}
use Rattle.sheet.specs.declared.Head.{Head}
use Rattle.sheet.specs.declared.Refusal.{Refusal}
use Rattle.sheet.specs.Table.{table_of}
use Rattle.sheet.specs.Rules.{no, refusal_of}
use Rattle.sheet.specs.Sheet.{front, sheet_of, size_of, room}
use Rattle.sheet.proofs.Accepted.{accepted_form}
use Rattle.sheet.proofs.Refusals.{table_refused_first, table_accepted_first, one_place_fails, one_place_holds}
use Rattle.codec.specs.Answers.{write_checks, write_of, written_of}

pub front_length : (h : Head) → length (front h) ≡ 18
unfolding front
front_length h = refl

module _ (h : Head) (ts cs : List ℕ) (lent_terms : 4 * h.n ≤ length ts) (lent_conditions : 4 * h.k ≤ length cs) where
  pub sheet_length : length (sheet_of h ts cs) ≡ size_of h
  unfolding sheet_of
  sheet_length =
      length-append (front h) (take (4 * h.n) ts ++ take (4 * h.k) cs) ∙
      (ap₂ ◌+◌ (front_length h) (length-append (take (4 * h.n) ts) (take (4 * h.k) cs) ∙ ap₂ ◌+◌ (length-take-le (4 * h.n) ts lent_terms) (length-take-le (4 * h.k) cs lent_conditions)))

  -- a buffer that is too short
  pub lay_short : (out : List ℕ) → length out < size_of h → out ≡ written (sheet_of h ts cs) out
  lay_short out l = written_short (sheet_of h ts cs) out (let e = sheet_length in omega arith)

  module _ (out : List ℕ) (fits : size_of h ≤ length out) where
    abbrev one : List ℕ
    one = paste out 0 (front h) 18

    abbrev two : List ℕ
    two = paste one 18 ts (4 * h.n)

    abbrev three : List ℕ
    three = paste two (18 + 4 * h.n) cs (4 * h.k)

    long_front : 18 ≤ length (front h)
    long_front = let e = front_length h in omega arith

    length_one : length one ≡ length out
    length_one = length-paste out 0 (front h) 18 (omega arith) long_front

    length_two : length two ≡ length out
    length_two = length-paste one 18 ts (4 * h.n) (omega (arith, length_one)) lent_terms ∙ length_one

    head_part : take (18 + 4 * h.n + 4 * h.k) three ≡ sheet_of h ts cs
    unfolding sheet_of
    head_part =
        take-paste two (18 + 4 * h.n) cs (4 * h.k) (omega (arith, length_two)) lent_conditions ∙
        (ap (λ (xs : List ℕ). xs ++ take (4 * h.k) cs) (take-paste one 18 ts (4 * h.n) (omega (arith, length_one)) lent_terms ∙ ap (λ (xs : List ℕ). xs ++ take (4 * h.n) ts) (take-paste out 0 (front h) 18 (omega arith) long_front ∙ take_all 18 (front h) (let e = front_length h in omega arith))) ∙
        append_assoc (front h) (take (4 * h.n) ts) (take (4 * h.k) cs))

    tail_two : drop (18 + 4 * h.n) two ≡ drop (18 + 4 * h.n) out
    tail_two =
        drop-paste one 18 ts (4 * h.n) (omega (arith, length_one)) lent_terms ∙
        (sym (drop-drop (4 * h.n) 18 one) ∙ (ap (drop (4 * h.n)) (drop-paste out 0 (front h) 18 (omega arith) long_front) ∙ drop-drop (4 * h.n) 18 out))

    tail_part : drop (18 + 4 * h.n + 4 * h.k) three ≡ drop (18 + 4 * h.n + 4 * h.k) out
    tail_part =
        drop-paste two (18 + 4 * h.n) cs (4 * h.k) (omega (arith, length_two)) lent_conditions ∙
        (sym (drop-drop (4 * h.k) (18 + 4 * h.n) two) ∙ (ap (drop (4 * h.k)) tail_two ∙ drop-drop (4 * h.k) (18 + 4 * h.n) out))

    -- THE BYTES of a table, and what was past them
    copied : three ≡ written (sheet_of h ts cs) out
    unfolding written
    copied =
        let n : ℕ = 18 + 4 * h.n + 4 * h.k in
        let e : length (sheet_of h ts cs) ≡ n = sheet_length ∙ omega arith in
        sym (take-append-drop n three) ∙ (ap₂ ◌++◌ head_part tail_part ∙ sym (rw (e, le-leb n (length out) (omega arith)) refl))

    pub copied_by : (F o₁ o₂ o₃ : List ℕ) → F ≡ front h → o₁ ≡ paste out 0 F 18 → o₂ ≡ paste o₁ 18 ts (4 * h.n) → o₃ ≡ paste o₂ (18 + 4 * h.n) cs (4 * h.k) → o₃ ≡ written (sheet_of h ts cs) out
    copied_by F o₁ o₂ o₃ p q r e = e ∙ (ap (λ (o : List ℕ). paste o (18 + 4 * h.n) cs (4 * h.k)) (r ∙ ap (λ (o : List ℕ). paste o 18 ts (4 * h.n)) (q ∙ ap (λ (F : List ℕ). paste out 0 F 18) p)) ∙ copied)

module _ {A : Type 0} (answer : ℕ → ℕ → A) (good : A) (h : Head) (ts cs : List ℕ) (lent : ℕ) (r : Refusal) (told : r ≡ refusal_of (table_of h ts cs)) where
  write_refused : (r.number ≡ 0 → ⊥) → answer r.number r.place ≡ checked answer good (write_checks h ts cs lent)
  write_refused = table_refused_first answer good (table_of h ts cs) (room (size_of h) lent ∷ []) r told

  accepted : r.number ≡ 0 → checked answer good (room (size_of h) lent ∷ []) ≡ checked answer good (write_checks h ts cs lent)
  accepted = table_accepted_first answer good (table_of h ts cs) (room (size_of h) lent ∷ []) r told

  write_short : r.number ≡ 0 → lent < size_of h → answer 12 (size_of h) ≡ checked answer good (write_checks h ts cs lent)
  write_short e l = one_place_fails answer good (room (size_of h) lent) [] (omega arith) (lt-leb (size_of h) lent l) ∙ accepted e

  pub write_whole : r.number ≡ 0 → size_of h ≤ lent → good ≡ checked answer good (write_checks h ts cs lent)
  unfolding checked
  write_whole e l = one_place_holds answer good (room (size_of h) lent) [] refl (le-leb (size_of h) lent l) ∙ accepted e

-- THE ANSWERS OF WRITING, and the buffer after it
module _ (h : Head) (ts cs lent : List ℕ) (r : Refusal) (told : r ≡ refusal_of (table_of h ts cs)) where
  abbrev Wrote : Result ℕ Refusal → List ℕ → Type 0
  Wrote a out = (a ≡ write_of h ts cs (length lent)) × (out ≡ written_of h ts cs lent)

  pub wrote_refused : (r.number ≡ 0 → ⊥) → Wrote (Err r) lent
  unfolding write_of written_of
  wrote_refused n = (write_refused no _ h ts cs _ r told n, write_refused (λ number place. lent) _ h ts cs _ r told n)

  module _ (e : r.number ≡ 0) (out : List ℕ) (x : ℕ) (f : x ≡ size_of h) (g : out ≡ written (sheet_of h ts cs) lent) where
    pub wrote_short : length lent < x → Wrote (no 12 x) out
    unfolding write_of written_of
    wrote_short l =
        let w = accepted_form (table_of h ts cs) r told e in
        let l' : length lent < size_of h = omega arith in
        let same : out ≡ lent = g ∙ sym (lay_short h ts cs (omega (arith, w.terms_lent)) (omega (arith, w.conditions_lent)) lent l') in
        (ap (no 12) f ∙ write_short no _ h ts cs _ r told e l', same ∙ write_short (λ number place. lent) _ h ts cs _ r told e l')

    pub wrote_whole : x ≤ length lent → Wrote (Ok x) out
    unfolding write_of written_of
    wrote_whole l = let l' : size_of h ≤ length lent = omega arith in (ap Ok f ∙ write_whole no _ h ts cs _ r told e l', g ∙ write_whole (λ number place. lent) _ h ts cs _ r told e l')
