-- The first 4,096 bytes of the input decide what is printed: they hold the largest sheet and more rows than a run has steps. Assumes nothing.
use mathlib.Core.Path.{◌≡◌, refl, sym, ap, ◌∙◌}
use mathlib.Core.Bool.{Bool, true, false, cond}
use mathlib.Core.List.{List, [], ◌∷◌, ◌++◌}
use mathlib.Core.Logic.{◌⊎◌, inl, inr, ⊎_elim, by_cases}
use Prim.Native.Nat.{ℕ, zero, suc, ◌+◌, ◌≤◌, ◌<◌}
use native.Mathlib.Omega.{arith}
use native.Mathlib.Decide.{dec_le}
use lib.Dec.{leb}
use lib.ListN.{length, length-append, length-drop, take, drop, take-append-drop, get_or-append}
use lib.Seq.{length-take-le, take_all, take-append-le}
use borrow.Author.Tests.{leb-true, lt-leb}
use Rattle.laws.specs.Checks.{AllHold}
use Rattle.laws.proofs.Tests.{and_r, and_false}
use Rattle.laws.proofs.Sums.{count_upto}
use Rattle.laws.proofs.Checks.{checked_good, all_hold, in_two}
use Rattle.steps.specs.InFront.{waiting_step, waiting_steps}
use Rattle.sheet.specs.declared.Refusal.{Refusal}
use Rattle.sheet.specs.Table.{Table}
use Rattle.sheet.specs.Rules.{table_checks, refuse, refusal_of}
use Rattle.sheet.specs.Sheet.{number_at, sheet_size, contents, table_in, sheet_checks}
use Rattle.sheet.proofs.Refusals.{one_place_fails}
use Rattle.state.specs.declared.State.{State}
use Rattle.moves.specs.Steps.{marks_of, nodes, kind_at, has_step, stepped_of, start_of}
use Rattle.moves.specs.Fits.{mode_check}
use Rattle.moves.specs.Runs.{Run, done, taken}
use Rattle.moves.specs.Runs as runs
use Rattle.moves.proofs.Kept.{run_length}
use Rattle.sheet_engine.specs.Answers.{verdict_answer}
use Rattle.promises.specs.Calls.{Accepted}
use Rattle.promises.proofs.Calls.{formed, stepped}
use Rattle.promises.proofs.Fresh.{fresh_state}
use Rattle.lines.specs.Lines.{refused_line, verdict_line, step_line}
use Rattle.printing.specs.Printed.{mode_in, size_in, sheet_in, rows_in, step_lines, run_lines, sheet_lines, printed}
use Rattle.printing.proofs.Judging.{whole_goes, cut_refused}

-- either a run takes all the rows, or those behind them are never come to
steps_upto : (t : Table) (s : State) (xs ys : List ℕ) → Accepted t s → ((R : Run t s) × (length (taken R) ≡ length xs)) ⊎ (step_lines t s (xs ++ ys) ≡ step_lines t s xs)
unfolding step_lines taken
steps_upto t s [] ys g = inl (done, refl)
steps_upto t s (r ∷ xs) ys g = at (has_step t s r) refl (λ e. steps_upto t (stepped_of t s r) xs ys (stepped t s g r e))
  where
    at : (b : Bool) → has_step t s r ≡ b → (has_step t s r ≡ true → ((R : Run t (stepped_of t s r)) × (length (taken R) ≡ length xs)) ⊎ (step_lines t (stepped_of t s r) (xs ++ ys) ≡ step_lines t (stepped_of t s r) xs)) → ((R : Run t s) × (length (taken R) ≡ suc (length xs))) ⊎ (step_line r (kind_at t s r) ++ cond b (step_lines t (stepped_of t s r) (xs ++ ys)) [] ≡ step_line r (kind_at t s r) ++ cond b (step_lines t (stepped_of t s r) xs) [])
    at true e more = ⊎_elim (λ p. inl (runs.take r e p.0, ap suc p.1)) (λ q. inr (ap (λ (l : List ℕ). step_line r (kind_at t s r) ++ l) q)) (more e)
    at false e more = inr refl

run_upto : (t : Table) (mode : ℕ) (xs ys : List ℕ) → (refusal_of t).number ≡ 0 → mode ≤ 1 → 256 < length xs → run_lines t mode (xs ++ ys) ≡ run_lines t mode xs
unfolding run_lines waiting_steps
run_upto t mode xs ys e m h =
    let g = fresh_state t e mode m in
    ⊎_elim
    (λ p.
    let l = run_length t (formed g) g.sized p.0 in
    let c = count_upto (λ r. waiting_step (nodes t r) (marks_of (start_of t mode) r)) t.n in
    absurd (omega (arith, l, c, p.1, h, (formed g).few_terms)))
    (λ q. ap (λ (l : List ℕ). verdict_line (verdict_answer t) ++ l) q)
    (steps_upto t (start_of t mode) xs ys g)

sheet_upto : (mode : ℕ) (s xs ys : List ℕ) → (length s ≤ 2066 → 256 < length xs) → sheet_lines mode s (xs ++ ys) ≡ sheet_lines mode s xs
unfolding sheet_lines AllHold refusal_of
sheet_upto mode s xs ys many =
    checked_good refused_line (run_lines (table_in s) mode (xs ++ ys)) (run_lines (table_in s) mode xs) (sheet_checks s ++ (mode_check mode ∷ []))
    (λ h.
    let (a, b) = in_two (sheet_checks s) (mode_check mode ∷ []) h in
    run_upto (table_in s) mode xs ys (ap (λ (r : Refusal). r.number) (all_hold refuse (refuse 0 0) (table_checks (table_in s)) a.1.1)) (leb-true mode 1 (b.0 mode (omega arith) (omega arith))) (many (leb-true (length s) 2066 (and_r (leb 22 (length s)) _ (a.0 0 (omega arith) (omega arith))))))

-- a sheet that is too long
sheet_long : (mode : ℕ) (s rows : List ℕ) → 2066 < length s → refused_line 1 0 ≡ sheet_lines mode s rows
unfolding sheet_lines
sheet_long mode s rows h = one_place_fails refused_line (run_lines (table_in s) mode rows) (sheet_size (length s)) (contents s ∷ (table_checks (table_in s) ++ (mode_check mode ∷ []))) (omega arith) (rw (lt-leb (length s) 2066 h) (and_false (leb 22 (length s))))

drop_append_le : (n : ℕ) (xs ys : List ℕ) → n ≤ length xs → drop n (xs ++ ys) ≡ drop n xs ++ ys
drop_append_le zero xs ys h = refl
drop_append_le (suc n) [] ys h = absurd (omega arith)
drop_append_le (suc n) (x ∷ xs) ys h = drop_append_le n xs ys (omega arith)

module _ (xs ys : List ℕ) (many : 4096 ≤ length xs) where
  same_size : size_in (xs ++ ys) ≡ size_in xs
  unfolding number_at
  same_size = rw (get_or-append xs ys 0 1 (omega arith), get_or-append xs ys 0 2 (omega arith)) refl

  -- the sheet ends within the first bytes
  same_sheet : 3 + size_in xs ≤ length xs → sheet_in (xs ++ ys) ≡ sheet_in xs
  unfolding sheet_in
  same_sheet h =
      let l : size_in xs ≤ length (drop 3 xs) = omega (arith, h, length-drop 3 xs) in
      rw (same_size, drop_append_le 3 xs ys (omega arith)) (take-append-le (size_in xs) (drop 3 xs) ys l)

  more_rows : 3 + size_in xs ≤ length xs → rows_in (xs ++ ys) ≡ rows_in xs ++ ys
  unfolding rows_in
  more_rows h = rw same_size (drop_append_le (3 + size_in xs) xs ys h)

  many_rows : 3 + size_in xs ≤ length xs → length (sheet_in xs) ≤ 2066 → 256 < length (rows_in xs)
  unfolding sheet_in rows_in
  many_rows h small =
      let l : length (take (size_in xs) (drop 3 xs)) ≡ size_in xs = length-take-le (size_in xs) (drop 3 xs) (omega (arith, h, length-drop 3 xs)) in
      omega (arith, small, l, length-drop (3 + size_in xs) xs, many)

  ends_within : 3 + size_in xs ≤ length xs → printed (xs ++ ys) ≡ printed xs
  ends_within h =
      sym (whole_goes (xs ++ ys) (omega (arith, h, same_size, length-append xs ys))) ∙
      (rw (get_or-append xs ys 0 0 (omega arith), same_sheet h, more_rows h) (sheet_upto (mode_in xs) (sheet_in xs) (rows_in xs) ys (many_rows h)) ∙ whole_goes xs h)

  -- it does not, and is too long
  ends_beyond : length xs < 3 + size_in xs → printed (xs ++ ys) ≡ printed xs
  unfolding sheet_in
  ends_beyond h =
      by_cases (dec_le (3 + size_in (xs ++ ys)) (length (xs ++ ys)))
      (λ w. sym (whole_goes (xs ++ ys) w) ∙ (sym (sheet_long (mode_in (xs ++ ys)) (sheet_in (xs ++ ys)) (rows_in (xs ++ ys)) (long w)) ∙ cut_refused xs h))
      (λ w. sym (cut_refused (xs ++ ys) (omega arith)) ∙ cut_refused xs h)
    where
      long : 3 + size_in (xs ++ ys) ≤ length (xs ++ ys) → 2066 < length (sheet_in (xs ++ ys))
      long w =
          let l : length (take (size_in (xs ++ ys)) (drop 3 (xs ++ ys))) ≡ size_in (xs ++ ys) = length-take-le (size_in (xs ++ ys)) (drop 3 (xs ++ ys)) (omega (arith, w, length-drop 3 (xs ++ ys))) in
          omega (arith, l, h, many, same_size)

  printed_upto : printed (xs ++ ys) ≡ printed xs
  printed_upto = by_cases (dec_le (3 + size_in xs) (length xs)) (λ h. ends_within h) (λ h. ends_beyond (omega arith))

-- THE FIRST 4,096 BYTES decide what is printed
pub first_bytes : (input : List ℕ) → printed (take 4096 input) ≡ printed input
first_bytes input =
    by_cases (dec_le (length input) 4096)
    (λ h. ap printed (take_all 4096 input h))
    (λ h. sym (printed_upto (take 4096 input) (drop 4096 input) (omega (arith, length-take-le 4096 input (omega arith)))) ∙ ap printed (take-append-drop 4096 input))
