-- What each row waits for, told from the tables, and the buffer after. Assumes nothing.
use Prim.Native.Nat.{ℕ, ◌<◌, ◌≤◌}
use mathlib.Core.Path.{◌≡◌, refl, sym, ap, ap₂, ◌∙◌}
use mathlib.Core.Bool.{true}
use mathlib.Core.List.{List, ◌++◌, map}
use native.Mathlib.Omega.{arith}
use lib.ListN.{get_or, length, take, drop, length-append}
use lib.Seq.{take-append_seam}
use borrow.Author.Tests.{eqb-true, le-leb}
use Rattle.laws.specs.Listed.{written}
use Rattle.laws.proofs.Tests.{and_r}
use Rattle.laws.proofs.Members.{member_at}
use Rattle.laws.proofs.Listed.{written_fits, written_short}
use Rattle.steps.specs.Rows.{is_join, condition_of_prefix, condition_of}
use Rattle.steps.specs.InFront.{in_front}
use Rattle.sheet.specs.Table.{Table, row_at}
use Rattle.sheet.specs.Accepted.{WellFormed}
use Rattle.sheet.proofs.Rows.{row_join, join_row}
use Rattle.worth.specs.Worth.{wait_byte}
use Rattle.worth.specs.Pass.{condition_byte, byte_at, byte_of, RowLent}
use Rattle.worth.proofs.Values.{worth_at}
use Rattle.state.specs.declared.State.{State}
use Rattle.moves.specs.Steps.{marks_of, links_of, nodes}
use Rattle.moves.specs.Standing.{join_in_front, waiting_of, awaited_of, awaits_of}
use Rattle.moves.proofs.Standing.{join_below, join_inside, waiting_rows_law, waiting_few, awaits_length, awaits_by}
use Rattle.engine.specs.ByValue.{waiting_from}
use Rattle.engine.proofs.Known.{Knows}
use Rattle.engine.proofs.Rows.{waiting_from_law}

-- what was written is read again
written_taken : (xs lent : List ℕ) → length xs ≤ length lent → (take (length xs) (written xs lent) ≡ xs) × (length xs ≤ length (written xs lent))
unfolding written
written_taken xs lent h = rw (le-leb _ _ h) (take-append_seam xs (drop (length xs) lent), omega (arith, length-append xs (drop (length xs) lent)))

-- the condition row of a JOIN, by its byte
join_byte : (ts : List ℕ) (r : ℕ) → is_join (row_at ts r) ≡ true → condition_of (row_at ts r) ≡ condition_byte ts r
unfolding condition_of condition_of_prefix
join_byte ts r j = rw (join_row ts r (eqb-true _ 3 (sym (row_join ts r) ∙ j))) refl

module _ (t : Table) (w : WellFormed t) (s : State) where
  module _ (r : ℕ) (j : join_in_front t s r ≡ true) where
    byte_there : condition_of (nodes t r) ≡ condition_byte t.terms r
    unfolding join_in_front
    byte_there = join_byte t.terms r (and_r (in_front (nodes t) (marks_of s) t.n r) _ j)

    byte_below : condition_byte t.terms r < t.k
    byte_below = rw (sym byte_there) (join_inside t s r j w)

    row_lent : RowLent t.terms t.conditions r
    row_lent = (omega (arith, join_below t s r j, w.terms_lent), omega (arith, byte_below, w.conditions_lent))

  module _ (seen vals : List ℕ) (known : Knows t s seen vals) where
    abbrev told : ℕ → ℕ
    told = byte_of t.terms t.conditions s.links vals

    byte_known : (r : ℕ) → join_in_front t s r ≡ true → awaited_of t s r ≡ told r
    unfolding awaited_of byte_at
    byte_known r j = rw (byte_there r j) (ap wait_byte (sym (worth_at t.evaluation t.conditions (links_of s) t.k vals known.vals_known _ (byte_below r j) (omega (arith, byte_below r j, w.few_conditions)))))

    abbrev found : List ℕ
    found = waiting_from t.terms t.n s.mode s.marks seen vals

    -- a size, and rows that were written to a buffer with room
    module _ (size : ℕ) (e : size ≡ length found) where
      pub waits_counted : size ≡ length (waiting_of t s)
      waits_counted = e ∙ ap length (waiting_from_law t s seen vals known w)

      pub wait_short : (lent : List ℕ) → length lent < size → lent ≡ written (awaits_of t s) lent
      wait_short lent h = written_short (awaits_of t s) lent (omega (arith, waits_counted, awaits_length t s))

      module _ (rows lent : List ℕ) (room : 256 ≤ length lent) (g : rows ≡ written found lent) where
        taken : (take size rows ≡ waiting_of t s) × (size ≤ length rows)
        taken = rw (waits_counted, g, waiting_from_law t s seen vals known w) (written_taken (waiting_of t s) lent (omega (arith, room, w.few_terms, waiting_few t s)))

        pub rows_room : size ≤ length rows
        rows_room = taken.1

        pub rows_counted : size ≡ length (take size rows)
        rows_counted = waits_counted ∙ ap length (sym taken.0)

        pub rows_lent : (i : ℕ) → i < length (take size rows) → RowLent t.terms t.conditions (get_or (take size rows) i 0)
        rows_lent = rw taken.0 (λ i h. row_lent _ ((waiting_rows_law t s _).0 (member_at (waiting_of t s) i h)).1)

        pub wait_told : (out after : List ℕ) → size ≤ length out → after ≡ map told (take size rows) ++ drop (length (take size rows)) out → after ≡ written (awaits_of t s) out
        wait_told out after h f =
            written_fits (awaits_of t s) out after (omega (arith, waits_counted, awaits_length t s))
            (f ∙ rw taken.0 (ap₂ (λ (xs : List ℕ) (n : ℕ). xs ++ drop n out) (sym (awaits_by t s told byte_known)) (sym (awaits_length t s))))
