-- The contents of a sheet, place by place, and what right contents say of the bodies. Assumes nothing.
use Prim.Native.Nat.{ℕ, ◌+◌, ◌-◌, ◌*◌, ◌/◌, ◌%◌, ◌<◌, ◌≤◌}
use mathlib.Core.Path.{◌≡◌, refl, ◌∙◌}
use Rattle.std.specs.Prelude.{Result}
use mathlib.Core.Bool.{Bool, true, false, ◌&&◌}
use mathlib.Core.List.{List, ◌∷◌}
use native.Mathlib.Omega.{arith}
use lib.Dec.{eqb, leb}
use lib.ListN.{get_or, length, take, drop}
use borrow.Author.Tests.{eqb-true, leb-true, le-leb, lt-leb}
use Rattle.laws.specs.Checks.{place_of, Holds, checked}
use Rattle.laws.proofs.Tests.{and_l, and_r}
use Rattle.laws.proofs.Checks.{checked_fails, checked_holds, Scanned, scanned_none, scanned_more, scanned_stop, scanned_end, place_holds}
use Rattle.sheet.specs.declared.Head.{Head}
use Rattle.sheet.specs.declared.Refusal.{Refusal}
use Rattle.sheet.specs.Table.{table_of}
use Rattle.sheet.specs.Rules.{table_checks, refusal_of, judged}
use Rattle.sheet.specs.Sheet.{number_at, entry_ok, in_fours, contents_ok, contents, head_of, terms_of, conditions_of, sheet_size, table_in, sheet_checks}
use Rattle.sheet.proofs.Refusals.{table_refused, table_accepted, one_place_fails, one_place_holds}
use Rattle.codec.specs.Answers.{Framed}

module _ (s : List ℕ) where
  -- places that no entry stands at
  skip : (i : ℕ) → Scanned (contents s) i → i < 12 → contents_ok s i ≡ true → Scanned (contents s) (i + 1)
  skip i z h e = scanned_more (contents s) i z h e

  pub count_wrong : contents_ok s 0 ≡ false → 0 ≡ place_of (contents s)
  count_wrong e = scanned_stop (contents s) 0 (scanned_none (contents s)) (omega arith) e

  module _ (count : contents_ok s 0 ≡ true) where
    one : Scanned (contents s) 1
    one = skip 0 (scanned_none (contents s)) (omega arith) count

    pub settings_wrong : contents_ok s 1 ≡ false → 1 ≡ place_of (contents s)
    settings_wrong e = scanned_stop (contents s) 1 one (omega arith) e

    module _ (settings : contents_ok s 1 ≡ true) where
      six : Scanned (contents s) 6
      unfolding contents_ok
      six = skip 5 (skip 4 (skip 3 (skip 2 (skip 1 one (omega arith) settings) (omega arith) refl) (omega arith) refl) (omega arith) refl) (omega arith) refl

      pub terms_wrong : contents_ok s 6 ≡ false → 6 ≡ place_of (contents s)
      terms_wrong e = scanned_stop (contents s) 6 six (omega arith) e

      module _ (terms : contents_ok s 6 ≡ true) where
        eleven : Scanned (contents s) 11
        unfolding contents_ok
        eleven = skip 10 (skip 9 (skip 8 (skip 7 (skip 6 six (omega arith) terms) (omega arith) refl) (omega arith) refl) (omega arith) refl) (omega arith) refl

        pub conditions_wrong : contents_ok s 11 ≡ false → 11 ≡ place_of (contents s)
        conditions_wrong e = scanned_stop (contents s) 11 eleven (omega arith) e

        pub contents_right : contents_ok s 11 ≡ true → 12 ≡ place_of (contents s)
        contents_right e = scanned_end (contents s) 12 (skip 11 eleven (omega arith) e) (omega arith)

-- right contents: lengths in range and in fours, and the bodies end where the bytes end
pub record Bodies (s : List ℕ) : Type 0 where
  pub count : get_or s 0 0 ≡ 3
  pub kinds : ((get_or s 1 0 ≡ 1) × (get_or s 6 0 ≡ 2)) × (get_or s 11 0 ≡ 3)
  pub starts : ((number_at s 2 ≡ 16) × (number_at s 7 ≡ 18)) × (number_at s 12 ≡ 18 + number_at s 9)
  pub settings_size : number_at s 4 ≡ 2
  pub terms_few : 4 ≤ number_at s 9
  pub terms_many : number_at s 9 ≤ 1024
  pub terms_fours : number_at s 9 % 4 ≡ 0
  pub conditions_many : number_at s 14 ≤ 1024
  pub conditions_fours : number_at s 14 % 4 ≡ 0
  pub ends : 18 + (number_at s 9 + number_at s 14) ≡ length s

fours : (low size : ℕ) → in_fours low size ≡ true → (low ≤ size) × ((size ≤ 1024) × (size % 4 ≡ 0))
unfolding in_fours
fours low size e = let f = and_r (leb low size) _ e in (leb-true low size (and_l _ _ e), (leb-true size 1024 (and_l _ _ f), eqb-true (size % 4) 0 (and_r (leb size 1024) _ f)))

entry_is : (s : List ℕ) (i kind start : ℕ) → entry_ok s i kind start ≡ true → (get_or s i 0 ≡ kind) × (number_at s (i + 1) ≡ start)
unfolding entry_ok
entry_is s i kind start e = (eqb-true _ _ (and_l _ _ e), eqb-true _ _ (and_r (eqb (get_or s i 0) kind) _ e))

pub bodies : (s : List ℕ) → Holds (contents s) → Bodies s
unfolding contents_ok
bodies s h =
    let b = h 1 (omega arith) (omega arith) in
    let c = h 6 (omega arith) (omega arith) in
    let d = h 11 (omega arith) (omega arith) in
    let eb = entry_is s 1 1 16 (and_l _ _ b) in
    let ec = entry_is s 6 2 18 (and_l _ _ c) in
    let ed = entry_is s 11 3 (18 + number_at s 9) (and_l _ _ d) in
    let fc = fours 4 (number_at s 9) (and_r (entry_ok s 6 2 18) _ c) in
    let g = and_r (entry_ok s 11 3 (18 + number_at s 9)) _ d in
    let fd = fours 0 (number_at s 14) (and_l _ _ g) in
    record {
      count = eqb-true _ 3 (h 0 (omega arith) (omega arith));
      kinds = ((eb.0, ec.0), ed.0);
      starts = ((eb.1, ec.1), ed.1);
      settings_size = eqb-true _ 2 (and_r (entry_ok s 1 1 16) _ b);
      terms_few = fc.0;
      terms_many = fc.1.0;
      terms_fours = fc.1.1;
      conditions_many = fd.1.0;
      conditions_fours = fd.1.1;
      ends = eqb-true _ _ (and_r (in_fours 0 (number_at s 14)) _ g);
    }

-- the entries from what a reader has in hand
pub entry_by : (s : List ℕ) (i kind start x : ℕ) → x ≡ number_at s (i + 1) → (eqb (get_or s i 0) kind && eqb x start) ≡ entry_ok s i kind start
unfolding entry_ok
entry_by s i kind start x e = rw e refl

module _ (s : List ℕ) (a : Bool) where
  pub settings_by : (x : ℕ) → a ≡ entry_ok s 1 1 16 → x ≡ number_at s 4 → (a && eqb x 2) ≡ contents_ok s 1
  unfolding contents_ok
  settings_by x p q = rw (p, q) refl

  pub terms_by : (b : Bool) (x : ℕ) → a ≡ entry_ok s 6 2 18 → x ≡ number_at s 9 → b ≡ in_fours 4 x → (a && b) ≡ contents_ok s 6
  unfolding contents_ok
  terms_by b x p q r = rw (p, r, q) refl

  pub conditions_by : (b : Bool) (x y : ℕ) → x ≡ number_at s 9 → y ≡ number_at s 14 → a ≡ entry_ok s 11 3 (18 + x) → b ≡ in_fours 0 y → (a && (b && eqb (18 + (x + y)) (length s))) ≡ contents_ok s 11
  unfolding contents_ok
  conditions_by b x y p q r z = rw (r, z, p, q) refl

-- the head and the bodies from the two lengths
pub head_by : (s : List ℕ) (x y z : ℕ) → x ≡ get_or s 17 0 → y ≡ number_at s 9 → z ≡ number_at s 14 → record { evaluation = get_or s 16 0; m = x; n = y / 4; k = z / 4 } ≡ head_of s
unfolding head_of
head_by s x y z p q r = rw (p, q, r) refl

pub terms_part : (s : List ℕ) (x : ℕ) → x ≡ number_at s 9 → take (18 + x - 18) (drop 18 s) ≡ terms_of s
unfolding terms_of
terms_part s x e = let z : 18 + x - 18 ≡ x = omega arith in rw (z, e) refl

pub conditions_part : (s : List ℕ) (x y : ℕ) → x ≡ number_at s 9 → y ≡ number_at s 14 → take (18 + x + y - (18 + x)) (drop (18 + x) s) ≡ conditions_of s
unfolding conditions_of
conditions_part s x y p q = let z : 18 + x + y - (18 + x) ≡ y = omega arith in rw (z, p, q) refl

pub parts_judged : (s ts cs : List ℕ) (h : Head) (r : Result (Unit {0}) Refusal) → h ≡ head_of s → ts ≡ terms_of s → cs ≡ conditions_of s → r ≡ judged (table_of h ts cs) → r ≡ judged (table_in s)
parts_judged s ts cs h r p q z e = rw (p, q, z) at e

-- 1 and 2, then the table of the parts
module _ {A : Type 0} (answer : ℕ → ℕ → A) (good : A) (s : List ℕ) where
  pub too_short : length s < 22 → answer 1 0 ≡ checked answer good (sheet_checks s)
  too_short h = one_place_fails answer good (sheet_size (length s)) (contents s ∷ table_checks (table_in s)) (omega arith) (rw (lt-leb 22 (length s) h) refl)

  pub too_long : 22 ≤ length s → 2066 < length s → answer 1 0 ≡ checked answer good (sheet_checks s)
  too_long g h = one_place_fails answer good (sheet_size (length s)) (contents s ∷ table_checks (table_in s)) (omega arith) (rw (le-leb 22 (length s) g, lt-leb (length s) 2066 h) refl)

  module _ (g : 22 ≤ length s) (h : length s ≤ 2066) (p : ℕ) (at : p ≡ place_of (contents s)) where
    sized_sheet : checked answer good (contents s ∷ table_checks (table_in s)) ≡ checked answer good (sheet_checks s)
    sized_sheet = one_place_holds answer good (sheet_size (length s)) (contents s ∷ table_checks (table_in s)) refl (rw (le-leb 22 (length s) g, le-leb (length s) 2066 h) refl)

    pub contents_refused : p < 12 → answer 2 p ≡ checked answer good (sheet_checks s)
    contents_refused k = checked_fails answer good (contents s) (table_checks (table_in s)) p at k ∙ sized_sheet

    pub framed : 12 ≤ p → Framed s
    framed k = record { long = g; sound = place_holds (contents s) p at k }

    module _ (k : 12 ≤ p) (r : Refusal) (told : r ≡ refusal_of (table_in s)) where
      to_table : checked answer good (table_checks (table_in s)) ≡ checked answer good (sheet_checks s)
      to_table = checked_holds answer good (contents s) (table_checks (table_in s)) p at k ∙ sized_sheet

      pub parts_refused : (r.number ≡ 0 → ⊥) → answer r.number r.place ≡ checked answer good (sheet_checks s)
      parts_refused e = table_refused answer good (table_in s) r told e ∙ to_table

      pub parts_accepted : r.number ≡ 0 → good ≡ checked answer good (sheet_checks s)
      parts_accepted e = table_accepted answer good (table_in s) r told e ∙ to_table

pub number_by : (s : List ℕ) (i x y : ℕ) → x ≡ get_or s i 0 → y ≡ get_or s (i + 1) 0 → x + 256 * y ≡ number_at s i
unfolding number_at
number_by s i x y p q = rw (p, q) refl
