-- A SHEET IS ACCEPTED exactly if 1 and 2 pass and the table of its parts is accepted; where 1 and 2 pass it has that table's number and place. Assumes nothing.
use Prim.Native.Nat.{ℕ, ◌≤◌}
use mathlib.Core.Path.{◌≡◌, refl, sym, ◌∙◌, ap}
use mathlib.Core.List.{List}
use Rattle.std.specs.Prelude.{Result, Ok, Err}
use native.Mathlib.Omega.{arith}
use lib.Dec.{leb}
use lib.ListN.{length}
use borrow.Author.Tests.{leb-true}
use Rattle.laws.specs.Checks.{place_of, Holds, AllHold}
use Rattle.laws.proofs.Tests.{and_l, and_r}
use Rattle.laws.proofs.Checks.{unrefused, all_hold, holds_end}
use Rattle.sheet.specs.declared.Head.{Head}
use Rattle.sheet.specs.declared.Refusal.{Refusal}
use Rattle.sheet.specs.Rules.{table_checks, refuse, no, refusal_of}
use Rattle.sheet.specs.Sheet.{head_of, sheet_size, contents, table_in, sheet_checks}
use Rattle.codec.specs.Answers.{read_of}
use Rattle.codec.proofs.Reading.{parts_refused, parts_accepted}

pub lengths : (s : List ℕ) → Holds (sheet_size (length s)) → (22 ≤ length s) × (length s ≤ 2066)
lengths s one = let e = one 0 (omega arith) (omega arith) in (leb-true 22 (length s) (and_l _ (leb (length s) 2066) e), leb-true (length s) 2066 (and_r (leb 22 (length s)) _ e))

module _ (s : List ℕ) (one : Holds (sheet_size (length s))) (two : Holds (contents s)) where
  pub as_table_accepted : (refusal_of (table_in s)).number ≡ 0 → read_of s ≡ Ok (head_of s)
  unfolding read_of
  as_table_accepted e = let (g, h) = lengths s one in sym (parts_accepted no (Ok (head_of s)) s g h (place_of (contents s)) refl (holds_end (contents s) two) (refusal_of (table_in s)) refl e)

  pub as_table_refused : ((refusal_of (table_in s)).number ≡ 0 → ⊥) → read_of s ≡ Err (refusal_of (table_in s))
  unfolding read_of
  as_table_refused e = let (g, h) = lengths s one in sym (parts_refused no (Ok (head_of s)) s g h (place_of (contents s)) refl (holds_end (contents s) two) (refusal_of (table_in s)) refl e)

pub record Read (s : List ℕ) (h : Head) : Type 0 where
  pub size : Holds (sheet_size (length s))
  pub sound : Holds (contents s)
  pub table : refusal_of (table_in s) ≡ refuse 0 0
  pub head : h ≡ head_of s

abbrev head_in : Head → Result Head Refusal → Head
head_in d (Ok h) = h
head_in d (Err e) = d

pub accepted_is : (s : List ℕ) (h : Head) → read_of s ≡ Ok h → Read s h
unfolding read_of refusal_of AllHold
accepted_is s h e =
    let all = unrefused no (Ok (head_of s)) (sheet_checks s) (λ n p q. let w : ◌≡◌ {A = ℕ} 0 1 = cc in omega arith) in
    record {
      size = all.0;
      sound = all.1.0;
      table = all_hold refuse (refuse 0 0) (table_checks (table_in s)) all.1.1;
      head = ap (head_in h) (sym e ∙ all_hold no (Ok (head_of s)) (sheet_checks s) all);
    }

pub is_accepted : (s : List ℕ) (h : Head) → Read s h → read_of s ≡ Ok h
is_accepted s h r = as_table_accepted s r.size r.sound (ap (λ (x : Refusal). x.number) r.table) ∙ ap Ok (sym r.head)
