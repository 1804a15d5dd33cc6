-- Every output of an input of bytes fits the buffer: a verdict has at most 25 bytes, each of at most 256 steps 18, the links 71 and the last line 2,056. A refusal, which ends the output, has at most 50, whatever its number and its place. Assumes nothing.
use mathlib.Core.Path.{◌≡◌, refl, sym, ap, subst}
use mathlib.Core.Bool.{Bool, true, false, cond}
use mathlib.Core.Option.{some}
use mathlib.Core.List.Memᴰ
use mathlib.Core.List.{List, [], ◌∷◌, ◌++◌}
use Prim.Native.Nat.{ℕ, zero, suc, ◌+◌, ◌*◌, ◌^◌, ◌≤◌, ◌<◌}
use native.Mathlib.Nat.{pow-le-pow_right, zero-lt-suc}
use native.Mathlib.Omega.{arith}
use lib.Dec.{eqb, ltb}
use lib.ListN.{length, take, drop}
use lib.Seq.{length-take-le}
use borrow.Author.Tests.{leb-true, ltb-false}
use Rattle.laws.specs.Listed.{written}
use Rattle.laws.specs.Checks.{Check, place_of, checked, AllHold}
use Rattle.laws.proofs.Tests.{bit_small, cond_all, cond_cases}
use Rattle.laws.proofs.Listed.{listed_under}
use Rattle.laws.proofs.Sums.{count_upto}
use Rattle.laws.proofs.Checks.{all_hold, place_holds, in_two}
use Rattle.calculus.specs.Process.{Prefix, act, out, join}
use Rattle.calculus.specs.Places.{Turn, takes, drops}
use Rattle.conditions.proofs.Numbers.{links_inside}
use Rattle.steps.specs.Rows.{Row, NIL, PREFIX, BRANCH}
use Rattle.steps.specs.InFront.{waiting_step, waiting_steps}
use Rattle.sheet.specs.declared.Refusal.{Refusal}
use Rattle.sheet.specs.Table.{Table, row_by, row_at}
use Rattle.sheet.specs.Rules.{table_checks, refuse, no, refusal_of}
use Rattle.sheet.specs.Sheet.{terms_at, number_at, terms_of, table_in, sheet_checks}
use Rattle.sheet.specs.Accepted.{WellFormed}
use Rattle.sheet.proofs.Accepted.{meets, well_formed, narrow_joins}
use Rattle.sheet.proofs.Beyond.{meets_accepted}
use Rattle.codec.specs.Answers.{Bytes}
use Rattle.state.specs.declared.State.{State}
use Rattle.moves.specs.Steps.{marks_of, nodes, turn_at, kind_of, kind_by, kind_turned, kind_at, has_step, stepped_of, listed_of, start_of}
use Rattle.moves.specs.Standing.{waiting_of, awaited_of, awaits_of}
use Rattle.moves.specs.Fits.{mode_check}
use Rattle.moves.specs.Runs.{Run, done, taken}
use Rattle.moves.specs.Runs as runs
use Rattle.moves.proofs.Moves.{has_turn, turn_fronts, turn_parts}
use Rattle.moves.proofs.Standing.{waiting_below, awaited_small}
use Rattle.moves.proofs.Kept.{run_length}
use Rattle.verdict.specs.declared.Verdict.{Verdict}
use Rattle.verdict.specs.declared.Verdict.TheVariants as verdict
use Rattle.verdict.specs.Verdict.{verdict_of}
use Rattle.std.specs.Prelude.{Ok}
use Rattle.sheet_engine.specs.Answers.{verdict_answer, standing_of}
use Rattle.sheet_engine.proofs.Promises.{fail_values}
use Rattle.sheet_engine.proofs.Steps.{no_kind}
use Rattle.promises.specs.Calls.{Accepted}
use Rattle.promises.proofs.Calls.{formed, unrefused, few_listed, few_waiting, stepped}
use Rattle.promises.proofs.Fresh.{fresh_state}
use Rattle.lines.specs.Page.{page, added}
use Rattle.lines.specs.Lines.{refused_line, verdict_line, step_line}
use Rattle.lines.proofs.Lengths.{Short, joined, within, refused_short, pass_short, fail_short, Few, step_short, links_short, last_short}
use Rattle.lines.proofs.Pages.{kept_length, added_all}
use Rattle.printing.specs.Printed.{mode_in, size_in, sheet_in, rows_in, complete, end_lines, step_lines, run_lines, sheet_lines, printed}

-- what the lines sum up to: the links and the last line, with the verdict and the steps before them
abbrev ending : ℕ
ending = 71 + 2056

abbrev pub longest : ℕ
longest = 25 + (256 * 18 + ending)

-- a part of bytes is bytes
bytes_drop : (n : ℕ) (xs : List ℕ) → Bytes xs → Bytes (drop n xs)
bytes_drop zero xs h = h
bytes_drop (suc n) [] h = h
bytes_drop (suc n) (x ∷ xs) h = bytes_drop n xs (λ i. h (suc i))

bytes_take : (n : ℕ) (xs : List ℕ) → Bytes xs → Bytes (take n xs)
bytes_take zero xs h i = omega arith
bytes_take (suc n) [] h i = h i
bytes_take (suc n) (x ∷ xs) h zero = h 0
bytes_take (suc n) (x ∷ xs) h (suc i) = bytes_take n xs (λ j. h (suc j)) i

-- THE VERDICT: eight links give numbers below 3 to the 8
verdict_short : (t : Table) → (refusal_of t).number ≡ 0 → Short (verdict_line (verdict_answer t)) 25
unfolding verdict_answer
verdict_short t e = let q = meets_accepted no (Ok (verdict_of t)) t (meets t e) in rw q (at (verdict_of t) q)
  where
    at : (v : Verdict) → verdict_answer t ≡ Ok v → Short (verdict_line (Ok v)) 25
    at verdict.Pass q = within 13 25 (omega arith) pass_short
    at (verdict.Fail j x l) q =
        let w = well_formed t (meets t e) in
        let f = fail_values t j x l q in
        let p : 3 ^ _ ≤ 3 ^ 8 = pow-le-pow_right (zero-lt-suc 2) (narrow_joins t (meets t e) j f.condition f.child f.inside f.row_is_join) in
        let i = links_inside t.m _ l f.offends.among in
        fail_short j x l (omega (arith, f.inside, w.few_terms)) (omega (arith, f.offends.small, p)) (omega (arith, i, w.few_links))

-- A STEP: the activity of an ACT row is a byte of the table
abbrev ActByte : Row → Type 0
ActByte NIL = Unit {0}
ActByte (PREFIX (act a) c) = a < 256
ActByte (PREFIX (out l b) c) = Unit {0}
ActByte (PREFIX (join q) c) = Unit {0}
ActByte (BRANCH κ p q) = Unit {0}

row_act : (kind a b c : ℕ) → a < 256 → ActByte (row_by kind a b c)
unfolding row_by
row_act kind a b c h = cond_all ActByte (eqb kind 0) tt (cond_all ActByte (eqb kind 1) h (cond_all ActByte (eqb kind 2) tt (cond_all ActByte (eqb kind 3) tt (cond_all ActByte (eqb kind 4) tt (cond_all ActByte (eqb kind 5) tt tt)))))

module _ (t : Table) (w : WellFormed t) (bytes : Bytes t.terms) (s : State) (r : ℕ) (there : has_step t s r ≡ true) where
  inside : r < t.n
  inside = let (u, e) = has_turn t s r there in (turn_parts t s r u e).0

  prefix_few : (π : Prefix) (c : ℕ) → nodes t r ≡ PREFIX π c → Few (kind_of π)
  unfolding kind_of Few row_at
  prefix_few (act a) c p = let b : a < 256 = subst ActByte p (row_act _ _ _ _ (bytes (r * 4 + 1))) in omega (arith, b)
  prefix_few (out l b) c p = (omega (arith, w.outs r l c b inside p, w.few_links), omega (arith, bit_small b))
  prefix_few (join q) c p = tt

  kind_few : Few (kind_at t s r)
  unfolding kind_at kind_turned kind_by Few
  kind_few = let (u, e) = has_turn t s r there in at u e
    where
      at : (u : Turn) → turn_at t s r ≡ some u → Few (kind_at t s r)
      at takes e = let (_, π, c, p, _) = turn_fronts t s r takes e in rw (e, p) (prefix_few π c p)
      at drops e = rw e tt

  taken_short : Short (step_line r (kind_at t s r)) 18
  taken_short = step_short r (kind_at t s r) (omega (arith, inside, w.few_terms)) kind_few

untaken_short : (t : Table) (s : State) (r : ℕ) → has_step t s r ≡ false → Short (step_line r (kind_at t s r)) 50
unfolding step_line
untaken_short t s r e = rw (no_kind t s r e) (refused_short 11 r)

-- THE END: the rows that are listed or waited for are below n, and what they wait for is a byte
end_short : (t : Table) (s : State) → Accepted t s → Short (end_lines t s) ending
unfolding end_lines listed_of awaits_of
end_short t s g =
    joined 71 2056 (links_short t.m s.links (formed g).few_links)
    (last_short (standing_of t s) (listed_of t s) (waiting_of t s) (awaits_of t s)
    (record { few = few_listed t s (unrefused t s g); small = λ x m. omega (arith, listed_under (has_step t s) 0 t.n x m, (formed g).few_terms) })
    (record { few = few_waiting t s (unrefused t s g); small = λ x m. omega (arith, waiting_below t s x m, (formed g).few_terms) })
    (λ x m. let (r, _, e) = Memᴰ.of_map (awaited_of t s) (waiting_of t s) m in omega (arith, awaited_small t s r, e)))

-- the lines of the steps that a run takes
steps_short : (t : Table) → Bytes t.terms → (s : State) (rows : List ℕ) → Accepted t s → (R : Run t s) × Short (step_lines t s rows) (length (taken R) * 18 + ending)
unfolding step_lines taken
steps_short t b s [] g = (done, end_short t s g)
steps_short t b s (r ∷ rows) g = at (has_step t s r) refl (λ e. steps_short t b (stepped_of t s r) rows (stepped t s g r e))
  where
    at : (b' : Bool) → has_step t s r ≡ b' → (has_step t s r ≡ true → (R : Run t (stepped_of t s r)) × Short (step_lines t (stepped_of t s r) rows) (length (taken R) * 18 + ending)) → (R : Run t s) × Short (step_line r (kind_at t s r) ++ cond b' (step_lines t (stepped_of t s r) rows) []) (length (taken R) * 18 + ending)
    at true e more = let (R, h) = more e in (runs.take r e R, within _ _ (omega arith) (joined 18 (length (taken R) * 18 + ending) (taken_short t (formed g) b s r e) h))
    at false e more = (done, within 50 ending (omega arith) (joined 50 0 (untaken_short t s r e) (record { is = omega arith })))

run_short : (t : Table) → Bytes t.terms → (mode : ℕ) (rows : List ℕ) → (refusal_of t).number ≡ 0 → mode ≤ 1 → Short (run_lines t mode rows) longest
unfolding run_lines waiting_steps
run_short t b mode rows e m =
    let g = fresh_state t e mode m in
    let (R, h) = steps_short t b (start_of t mode) rows g in
    let l = run_length t (formed g) g.sized R in
    let c = count_upto (λ r. waiting_step (nodes t r) (marks_of (start_of t mode) r)) t.n in
    joined 25 (256 * 18 + ending) (verdict_short t e) (within (length (taken R) * 18 + ending) (256 * 18 + ending) (omega (arith, l, c, (formed g).few_terms)) h)

-- a property of the refusals, and of what is answered where no check fails
pub checked_all : {A : Type 0} (P : A → Type 0) (answer : ℕ → ℕ → A) (good : A) (cs : List Check) → ((n p : ℕ) → P (answer n p)) → (AllHold cs → P good) → P (checked answer good cs)
unfolding checked AllHold
checked_all P answer good [] bad h = h tt
checked_all P answer good (c ∷ cs) bad h =
    cond_cases P (ltb (place_of c) c.upto) (λ e. bad c.number (place_of c)) (λ e. checked_all P answer good cs bad (λ a. h (place_holds c (place_of c) refl (ltb-false (place_of c) c.upto e), a)))

sheet_short : (mode : ℕ) (s rows : List ℕ) → Bytes s → Short (sheet_lines mode s rows) longest
unfolding sheet_lines AllHold refusal_of terms_of
sheet_short mode s rows b =
    checked_all (λ (xs : List ℕ). Short xs longest) refused_line (run_lines (table_in s) mode rows) (sheet_checks s ++ (mode_check mode ∷ []))
    (λ n p. within 50 longest (omega arith) (refused_short n p))
    (λ h.
    let (a, d) = in_two (sheet_checks s) (mode_check mode ∷ []) h in
    run_short (table_in s) (bytes_take (number_at s 9) (drop terms_at s) (bytes_drop terms_at s b)) mode rows (ap (λ (r : Refusal). r.number) (all_hold refuse (refuse 0 0) (table_checks (table_in s)) a.1.1)) (leb-true mode 1 (d.0 mode (omega arith) (omega arith))))

pub printed_short : (input : List ℕ) → Bytes input → length (printed input) ≤ longest
unfolding printed sheet_in
printed_short input b =
    (checked_all (λ (xs : List ℕ). Short xs longest) refused_line (sheet_lines (mode_in input) (sheet_in input) (rows_in input)) (complete input ∷ []) (λ n p. within 50 longest (omega arith) (refused_short n p)) (λ h. sheet_short (mode_in input) (sheet_in input) (rows_in input) (bytes_take (size_in input) (drop 3 input) (bytes_drop 3 input b)))).is

-- what was printed is the whole
pub printed_whole : (input b c : List ℕ) (e : ℕ) → Bytes input → longest ≤ length b → page c e ≡ added (page b 0) (printed input) → ((e ≡ length (printed input)) × (c ≡ written (printed input) b)) × ((e ≤ length c) × (e ≡ length (take e c)))
printed_whole input b c e small h k =
    let s = printed_short input small in
    let (x, y) = added_all b e (printed input) c (omega (arith, s, h)) k in
    let l = kept_length b c 0 e (printed input) k in
    let w : e ≤ length c = omega (arith, s, x, l, h) in
    ((x, y), (w, sym (length-take-le e c w)))
