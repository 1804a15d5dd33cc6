-- THE ROUND TRIPS of a sheet. Assumes nothing.
use Prim.Native.Nat.{ℕ, zero, suc, ◌+◌, ◌*◌, ◌/◌, ◌%◌, ◌<◌, ◌≤◌}
use mathlib.Core.Path.{◌≡◌, refl, sym, ◌∙◌, ap, ap₂}
use mathlib.Core.Bool.{true}
use Rattle.std.specs.Prelude.{Ok}
use mathlib.Core.List.{List, [], ◌∷◌, ◌++◌}
use native.Mathlib.Omega.{arith}
use lib.ListN.{get_or, length, take, drop, take-append-drop, length-drop}
use lib.Seq.{length-take-le, take_all, take-take, take_at, drop_at, drop-drop, drop-cons}
use borrow.Author.Tests.{eq-eqb, le-leb}
use Rattle.laws.specs.Listed.{written}
use Rattle.laws.specs.Checks.{Holds}
use Rattle.laws.proofs.Checks.{place_holds}
use Rattle.sheet.specs.declared.Head.{Head}
use Rattle.sheet.specs.declared.Refusal.{Refusal}
use Rattle.sheet.specs.Table.{Table, table_of}
use Rattle.sheet.specs.Rules.{refuse, no, refusal_of}
use Rattle.sheet.specs.Accepted.{WellFormed}
use Rattle.sheet.specs.Sheet.{number_at, front, sheet_of, size_of, head_of, terms_of, conditions_of, sheet_size, entry_ok, in_fours, contents_ok, contents, table_in}
use Rattle.sheet.proofs.Accepted.{Meets, meets, well_formed}
use Rattle.sheet.proofs.Beyond.{cut_refusal, meets_accepted}
use Rattle.codec.specs.Answers.{Bytes, read_of, part_of, write_of, written_of}
use Rattle.codec.proofs.Reading.{contents_right, Bodies, bodies}
use Rattle.codec.proofs.Judged.{lengths, accepted_is, is_accepted}
use Rattle.codec.proofs.Parts.{part_whole}
use Rattle.codec.proofs.Writing.{front_length, sheet_length, write_whole}

-- READING AND THEN WRITING GIVES THE BYTES. The first 18 are told by the contents ...
unfoldable from : List ℕ → ℕ → ℕ → List ℕ
from s i zero = []
from s i (suc c) = get_or s i 0 ∷ from s (suc i) c

from_take : (s : List ℕ) (i c : ℕ) → i + c ≤ length s → take c (drop i s) ≡ from s i c
unfolding from
from_take s i zero h = refl
from_take s i (suc c) h = ap (take (suc c)) (drop-cons s i 0 (omega arith)) ∙ ap (λ (xs : List ℕ). get_or s i 0 ∷ xs) (from_take s (suc i) c (omega arith))

low : (x a b : ℕ) → a < 256 → a + 256 * b ≡ x → x % 256 ≡ a
low x a b h e = omega arith

high : (x a b : ℕ) → a < 256 → a + 256 * b ≡ x → x / 256 ≡ b
high x a b h e = omega arith

front_is : (s : List ℕ) → Bytes s → Bodies s → 22 ≤ length s → front (head_of s) ≡ take 18 s
unfolding front head_of number_at from
front_is s b w l =
    let x : ℕ = get_or s 9 0 + 256 * get_or s 10 0 in
    let y : ℕ = get_or s 14 0 + 256 * get_or s 15 0 in
    let t : 4 * (x / 4) ≡ x = omega (arith, w.terms_fours) in
    let c : 4 * (y / 4) ≡ y = omega (arith, w.conditions_fours) in
    let a : get_or s 2 0 ≡ 16 = omega (arith, w.starts.0.0, b 2) in
    let a' : get_or s 3 0 ≡ 0 = omega (arith, w.starts.0.0, b 2) in
    let d : get_or s 4 0 ≡ 2 = omega (arith, w.settings_size, b 4) in
    let d' : get_or s 5 0 ≡ 0 = omega (arith, w.settings_size, b 4) in
    let f : get_or s 7 0 ≡ 18 = omega (arith, w.starts.0.1, b 7) in
    let f' : get_or s 8 0 ≡ 0 = omega (arith, w.starts.0.1, b 7) in
    rw (
      t,
      c,
      low x (get_or s 9 0) (get_or s 10 0) (b 9) refl,
      high x (get_or s 9 0) (get_or s 10 0) (b 9) refl,
      low y (get_or s 14 0) (get_or s 15 0) (b 14) refl,
      high y (get_or s 14 0) (get_or s 15 0) (b 14) refl,
      low (18 + x) (get_or s 12 0) (get_or s 13 0) (b 12) w.starts.1,
      high (18 + x) (get_or s 12 0) (get_or s 13 0) (b 12) w.starts.1,
      from_take s 0 18 (omega arith),
      w.count,
      w.kinds.0.0,
      w.kinds.0.1,
      w.kinds.1,
      a,
      a',
      d,
      d',
      f,
      f',
    ) refl

-- ... and the rest is the bodies
bodies_are : (s : List ℕ) → Bodies s → take (4 * (head_of s).n) (terms_of s) ++ take (4 * (head_of s).k) (conditions_of s) ≡ drop 18 s
unfolding head_of terms_of conditions_of
bodies_are s w =
    let x : ℕ = number_at s 9 in
    let y : ℕ = number_at s 14 in
    let t : 4 * (x / 4) ≡ x = omega (arith, w.terms_fours) in
    let c : 4 * (y / 4) ≡ y = omega (arith, w.conditions_fours) in
    let z : length (drop (18 + x) s) ≤ y = omega (arith, length-drop (18 + x) s, w.ends) in
    rw (t, c, take-take x x (drop 18 s) (omega arith), take-take y y (drop (18 + x) s) (omega arith), take_all y (drop (18 + x) s) z, ← drop-drop x 18 s) (take-append-drop x (drop 18 s))

pub sheet_of_parts : (s : List ℕ) (h : Head) → Bytes s → read_of s ≡ Ok h → sheet_of h (terms_of s) (conditions_of s) ≡ s
unfolding sheet_of
sheet_of_parts s h b e =
    let r = accepted_is s h e in
    let w = bodies s r.sound in
    let l : 22 ≤ length s = (lengths s r.size).0 in
    rw (r.head, front_is s b w l, bodies_are s w) (take-append-drop 18 s)

-- WRITING AND THEN READING GIVES THE TABLE: its head, its n and k rows. Places beyond are no part of it.
entry_at : (s : List ℕ) (i kind start : ℕ) → get_or s i 0 ≡ kind → number_at s (i + 1) ≡ start → entry_ok s i kind start ≡ true
unfolding entry_ok
entry_at s i kind start p q = rw (eq-eqb _ _ p, eq-eqb _ _ q) refl

fours_at : (low x : ℕ) → low ≤ 4 * x → x ≤ 256 → in_fours low (4 * x) ≡ true
unfolding in_fours
fours_at low x a b = rw (le-leb low (4 * x) a, le-leb (4 * x) 1024 (omega arith), eq-eqb ((4 * x) % 4) 0 (omega arith)) refl

two_bytes_law : (x : ℕ) → x % 256 + 256 * (x / 256) ≡ x
two_bytes_law x = omega arith

module _ (h : Head) (ts cs : List ℕ) (accepted : (refusal_of (table_of h ts cs)).number ≡ 0) where
  abbrev pub t : Table
  t = table_of h ts cs

  abbrev pub s : List ℕ
  s = sheet_of h ts cs

  abbrev pub rows : List ℕ
  rows = take (4 * h.n) ts

  abbrev pub condition_rows_law : List ℕ
  condition_rows_law = take (4 * h.k) cs

  g : Meets t
  g = meets t accepted

  form : WellFormed t
  form = well_formed t g

  lent_terms : 4 * h.n ≤ length ts
  lent_terms = omega (arith, form.terms_lent)

  lent_conditions : 4 * h.k ≤ length cs
  lent_conditions = omega (arith, form.conditions_lent)

  long : length s ≡ size_of h
  long = sheet_length h ts cs lent_terms lent_conditions

  terms_size : number_at s 9 ≡ 4 * h.n
  unfolding number_at sheet_of front
  terms_size = two_bytes_law (4 * h.n)

  conditions_size : number_at s 14 ≡ 4 * h.k
  unfolding number_at sheet_of front
  conditions_size = two_bytes_law (4 * h.k)

  conditions_start : number_at s 12 ≡ 18 + 4 * h.n
  unfolding number_at sheet_of front
  conditions_start = two_bytes_law (18 + 4 * h.n)

  past_front : drop 18 s ≡ rows ++ condition_rows_law
  unfolding sheet_of
  past_front = drop_at (front h) (rows ++ condition_rows_law) 18 (front_length h)

  rows_long : length rows ≡ 4 * h.n
  rows_long = length-take-le (4 * h.n) ts lent_terms

  pub head_back : head_of s ≡ h
  unfolding head_of sheet_of front
  head_back = let a : 4 * h.n / 4 ≡ h.n = omega arith in let b : 4 * h.k / 4 ≡ h.k = omega arith in rw (terms_size, conditions_size, a, b) refl

  pub terms_back : terms_of s ≡ rows
  unfolding terms_of
  terms_back = rw (terms_size, past_front) (take_at rows condition_rows_law (4 * h.n) rows_long)

  pub conditions_back : conditions_of s ≡ condition_rows_law
  unfolding conditions_of
  conditions_back =
      let e : drop (18 + 4 * h.n) s ≡ condition_rows_law = sym (drop-drop (4 * h.n) 18 s) ∙ (ap (drop (4 * h.n)) past_front ∙ drop_at rows condition_rows_law (4 * h.n) rows_long) in
      rw (terms_size, conditions_size, e) (take-take (4 * h.k) (4 * h.k) cs (omega arith))

  count_right : contents_ok s 0 ≡ true
  unfolding contents_ok sheet_of front
  count_right = refl

  settings_right : contents_ok s 1 ≡ true
  unfolding contents_ok entry_ok number_at sheet_of front
  settings_right = refl

  kind_right : (get_or s 6 0 ≡ 2) × (get_or s 11 0 ≡ 3)
  unfolding sheet_of front
  kind_right = (refl, refl)

  start_right : number_at s 7 ≡ 18
  unfolding number_at sheet_of front
  start_right = refl

  terms_right : contents_ok s 6 ≡ true
  unfolding contents_ok
  terms_right = rw (entry_at s 6 2 18 kind_right.0 start_right, terms_size, fours_at 4 h.n (omega (arith, form.tree.some_row)) form.few_terms) refl

  conditions_right : contents_ok s 11 ≡ true
  unfolding contents_ok
  conditions_right = rw (terms_size, entry_at s 11 3 (18 + 4 * h.n) kind_right.1 conditions_start, conditions_size, fours_at 0 h.k (omega arith) form.few_conditions, eq-eqb (18 + (4 * h.n + 4 * h.k)) (length s) (sym long)) refl

  sound : Holds (contents s)
  sound = place_holds (contents s) 12 (contents_right s count_right settings_right terms_right conditions_right) (omega arith)

  sized_right : Holds (sheet_size (length s))
  sized_right p a b = rw (long, le-leb 22 (size_of h) (omega (arith, form.tree.some_row)), le-leb (size_of h) 2066 (omega (arith, form.few_terms, form.few_conditions))) refl

  table_back : refusal_of (table_in s) ≡ refuse 0 0
  unfolding refusal_of
  table_back = rw (head_back, terms_back, conditions_back) (sym (cut_refusal t) ∙ meets_accepted refuse (refuse 0 0) t g)

  pub read_of_sheet : read_of s ≡ Ok h
  read_of_sheet = is_accepted s h (record { size = sized_right; sound = sound; table = table_back; head = sym head_back })

  -- in the words of the calls
  pub terms_handed : part_of s (terms_of s) ≡ rows
  terms_handed = sym (part_whole s (terms_of s) (read_of s) refl h read_of_sheet) ∙ terms_back

  pub conditions_handed : part_of s (conditions_of s) ≡ condition_rows_law
  conditions_handed = sym (part_whole s (conditions_of s) (read_of s) refl h read_of_sheet) ∙ conditions_back

  module _ (out : List ℕ) (fits : size_of h ≤ length out) where
    pub size_told : write_of h ts cs (length out) ≡ Ok (size_of h)
    unfolding write_of
    size_told = sym (write_whole no (Ok (size_of h)) h ts cs (length out) (refusal_of t) refl accepted fits)

    pub bytes_written : written_of h ts cs out ≡ s ++ drop (size_of h) out
    unfolding written_of written
    bytes_written = sym (write_whole (λ number place. out) (written s out) h ts cs (length out) (refusal_of t) refl accepted fits) ∙ rw (long, le-leb (size_of h) (length out) fits) refl

    pub written_front : take (size_of h) (written_of h ts cs out) ≡ s
    written_front = ap (take (size_of h)) bytes_written ∙ take_at s (drop (size_of h) out) (size_of h) long

    pub written_then_read : read_of (take (size_of h) (written_of h ts cs out)) ≡ Ok h
    written_then_read = ap read_of written_front ∙ read_of_sheet

pub read_then_written : (s : List ℕ) (h : Head) → Bytes s → read_of s ≡ Ok h → (out : List ℕ) → length s ≤ length out → (write_of h (terms_of s) (conditions_of s) (length out) ≡ Ok (length s)) × (written_of h (terms_of s) (conditions_of s) out ≡ s ++ drop (length s) out)
read_then_written s h b e out fits =
    let r = accepted_is s h e in
    let a : (refusal_of (table_of h (terms_of s) (conditions_of s))).number ≡ 0 = rw r.head (ap (λ (x : Refusal). x.number) r.table) in
    let p : sheet_of h (terms_of s) (conditions_of s) ≡ s = sheet_of_parts s h b e in
    let l : size_of h ≡ length s = sym (long h (terms_of s) (conditions_of s) a) ∙ ap length p in (
      size_told h (terms_of s) (conditions_of s) a out (omega arith) ∙ ap Ok l,
      bytes_written h (terms_of s) (conditions_of s) a out (omega arith) ∙ ap₂ (λ (xs : List ℕ) (x : ℕ). xs ++ drop x out) p l,
    )
