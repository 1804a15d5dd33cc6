-- What is refused before the first line is printed: the input, the sheet, the mode. Assumes nothing.
use mathlib.Core.Path.{◌≡◌, refl, sym, ap, subst, ◌∙◌}
use mathlib.Core.List.{List, [], ◌∷◌, ◌++◌}
use Prim.Native.Nat.{ℕ, ◌+◌, ◌-◌, ◌≤◌, ◌<◌}
use native.Mathlib.Omega.{arith}
use lib.Dec.{leb}
use lib.ListN.{length, length-drop, take, drop, get_or}
use lib.Seq.{take_all}
use borrow.Author.Tests.{le-leb, lt-leb}
use Rattle.std.specs.Int.{w16, from_le_bytes}
use Rattle.std.specs.Prelude.{Result, Ok, Err}
use Rattle.state.specs.declared.State.{State}
use Rattle.verdict.specs.declared.Verdict.{Verdict}
use Rattle.laws.specs.Checks.{Check, Holds, place_of, checked}
use Rattle.laws.proofs.Tests.{and_false}
use Rattle.laws.proofs.Checks.{checked_append, checked_map, checked_holds, holds_end}
use Rattle.sheet.specs.declared.Head.{Head}
use Rattle.sheet.specs.declared.Refusal.{Refusal}
use Rattle.sheet.specs.Table.{Table, table_of}
use Rattle.sheet.specs.Rules.{no, as_refusal}
use Rattle.sheet.specs.Sheet.{number_at, head_of, terms_of, conditions_of, table_in, sheet_checks}
use Rattle.sheet.proofs.Refusals.{one_place_fails, one_place_holds}
use Rattle.codec.specs.Answers.{read_of, part_of}
use Rattle.codec.proofs.Judged.{accepted_is}
use Rattle.codec.proofs.Parts.{part_whole}
use Rattle.moves.specs.Steps.{start_of}
use Rattle.moves.specs.Fits.{mode_check}
use Rattle.sheet_engine.specs.Answers.{start_checks, start_answer, verdict_answer}
use Rattle.sheet_engine.proofs.Promises.{start_answered, start_is_fresh}
use Rattle.promises.specs.Calls.{Accepted}
use Rattle.promises.proofs.Fresh.{fresh_state}
use Rattle.lines.specs.Lines.{refused_line, verdict_line}
use Rattle.printing.specs.Printed.{mode_in, size_in, sheet_in, rows_in, complete, step_lines, run_lines, sheet_lines, printed}

-- an answer, in any words
module _ {A B : Type 0} (bad : ℕ → ℕ → B) (fine : B) where
  worded : Result A Refusal → B
  worded (Ok x) = fine
  worded (Err e) = bad e.number e.place

  words : (good : A) (cs : List Check) (a : Result A Refusal) → a ≡ checked no (Ok good) cs → worded a ≡ checked bad fine cs
  unfolding worded
  words good cs a told = ap worded told ∙ checked_map worded no (Ok good) cs

  pub words_ok : (good : A) (cs : List Check) (a : Result A Refusal) → a ≡ checked no (Ok good) cs → (x : A) → a ≡ Ok x → fine ≡ checked bad fine cs
  unfolding worded
  words_ok good cs a told x is = ap worded (sym is) ∙ words good cs a told

  pub words_err : (good : A) (cs : List Check) (a : Result A Refusal) → a ≡ checked no (Ok good) cs → (e : Refusal) → a ≡ Err e → bad e.number e.place ≡ checked bad fine cs
  unfolding worded
  words_err good cs a told e is = ap worded (sym is) ∙ words good cs a told

-- starting
module _ (t : Table) (mode : ℕ) (a : Result State Refusal) (told : a ≡ start_answer t mode) where
  pub run_refused : (rows : List ℕ) (e : Refusal) → a ≡ Err e → refused_line e.number e.place ≡ checked refused_line (run_lines t mode rows) (start_checks t mode)
  unfolding start_answer
  run_refused rows e is = words_err refused_line (run_lines t mode rows) (start_of t mode) (start_checks t mode) a told e is

  module _ (s : State) (is : a ≡ Ok s) where
    number_is : (as_refusal (start_answer t mode)).number ≡ 0
    number_is = ap (λ (r : Result State Refusal). (as_refusal r).number) (sym told ∙ is)

    fresh : s ≡ start_of t mode
    fresh = let known : a ≡ Ok (start_of t mode) = told ∙ start_is_fresh t mode number_is in cc

    pub run_begins : Accepted t s
    run_begins = let (b, m) = (start_answered t mode).0 number_is in subst (Accepted t) (sym fresh) (fresh_state t b mode m)

    pub run_goes : (rows : List ℕ) (v : Result Verdict Refusal) → v ≡ verdict_answer t → verdict_line v ++ step_lines t s rows ≡ checked refused_line (run_lines t mode rows) (start_checks t mode)
    unfolding start_answer run_lines
    run_goes rows v d = rw (d, fresh) (words_ok refused_line (run_lines t mode rows) (start_of t mode) (start_checks t mode) a told s is)

past : {A : Type 0} (answer : ℕ → ℕ → A) (good : A) (c : Check) (cs : List Check) → Holds c → checked answer good cs ≡ checked answer good (c ∷ cs)
past answer good c cs h = checked_holds answer good c cs (place_of c) refl (holds_end c h)

-- the sheet
module _ (s : List ℕ) (mode : ℕ) (rows : List ℕ) (a : Result Head Refusal) (told : a ≡ read_of s) where
  pub sheet_goes : (h : Head) (ts cs xs : List ℕ) → a ≡ Ok h → ts ≡ part_of s (terms_of s) → cs ≡ part_of s (conditions_of s) → xs ≡ checked refused_line (run_lines (table_of h ts cs) mode rows) (start_checks (table_of h ts cs) mode) → xs ≡ sheet_lines mode s rows
  unfolding sheet_lines
  sheet_goes h ts cs xs e f g x =
      let r = accepted_is s h (sym told ∙ e) in
      let q : table_of h ts cs ≡ table_in s = rw (r.head, f ∙ sym (part_whole s (terms_of s) a told h e), g ∙ sym (part_whole s (conditions_of s) a told h e)) refl in
      x ∙ (ap (λ (t : Table). checked refused_line (run_lines t mode rows) (start_checks t mode)) q ∙ (past refused_line _ _ _ r.sound ∙ past refused_line _ _ _ r.size))

  pub sheet_refused : (e : Refusal) → a ≡ Err e → refused_line e.number e.place ≡ sheet_lines mode s rows
  unfolding sheet_lines read_of
  sheet_refused e is =
      words_err refused_line (checked refused_line (run_lines (table_in s) mode rows) (mode_check mode ∷ [])) (head_of s) (sheet_checks s) a told e is ∙ sym (checked_append refused_line (run_lines (table_in s) mode rows) (sheet_checks s) (mode_check mode ∷ []))

-- the input
module _ (input : List ℕ) where
  pub whole_goes : 3 + size_in input ≤ length input → sheet_lines (mode_in input) (sheet_in input) (rows_in input) ≡ printed input
  unfolding printed checked
  whole_goes h =
      let w : 3 ≤ length input = omega (arith, h) in
      one_place_holds refused_line (sheet_lines (mode_in input) (sheet_in input) (rows_in input)) (complete input) [] refl (rw (le-leb 3 (length input) w, le-leb (3 + size_in input) (length input) h) refl)

  pub cut_refused : length input < 3 + size_in input → refused_line 1 0 ≡ printed input
  unfolding printed
  cut_refused h = one_place_fails refused_line (sheet_lines (mode_in input) (sheet_in input) (rows_in input)) (complete input) [] (omega arith) (rw (lt-leb (3 + size_in input) (length input) h) (and_false (leb 3 (length input))))

  pub leading_cut : length input < 3 → refused_line 1 0 ≡ printed input
  leading_cut h = cut_refused (omega (arith, h))

  pub size_read : (size : ℕ) → size ≡ from_le_bytes w16 (get_or input 1 0 ∷ (get_or input 2 0 ∷ [])) → size ≡ size_in input
  unfolding number_at
  size_read size e = omega (arith, e)

  module _ (size : ℕ) (size_is : size ≡ size_in input) (leading : 3 ≤ length input) where
    pub sheet_cut : length input - 3 < size → refused_line 1 0 ≡ printed input
    sheet_cut h = cut_refused (omega (arith, h, leading, size_is))

    sheet_part : take (3 + size - 3) (drop 3 input) ≡ sheet_in input
    unfolding sheet_in
    sheet_part = let e : 3 + size - 3 ≡ size_in input = omega (arith, size_is) in ap (λ (x : ℕ). take x (drop 3 input)) e

    rows_part : take (length input - (3 + size)) (drop (3 + size) input) ≡ rows_in input
    unfolding rows_in
    rows_part = take_all (length input - (3 + size)) (drop (3 + size) input) (let e = length-drop (3 + size) input in omega (arith, e)) ∙ ap (λ (x : ℕ). drop (3 + x) input) size_is

    pub input_goes : size ≤ length input - 3 → sheet_lines (mode_in input) (take (3 + size - 3) (drop 3 input)) (take (length input - (3 + size)) (drop (3 + size) input)) ≡ printed input
    input_goes h = rw (sheet_part, rows_part) (whole_goes (omega (arith, h, leading, size_is)))
