-- "Places beyond these are no part of it": every call answers for a table as for the table without them. Assumes nothing.
use Prim.Native.Nat.{ℕ, ◌*◌}
use mathlib.Core.Path.{◌≡◌, refl, sym, ◌∙◌, ap, ap₂}
use mathlib.Core.Bool.{true, false}
use Rattle.std.specs.Prelude.{Result, Ok}
use mathlib.Core.List.{List, [], ◌∷◌, ◌++◌}
use mathlib.Core.Logic.{⊎_elim}
use native.Mathlib.Omega.{arith}
use lib.ListN.{length, take}
use lib.Seq.{take-take}
use Rattle.laws.specs.Checks.{checked, AllHold}
use Rattle.laws.specs.Listed.{written}
use Rattle.laws.proofs.Checks.{checked_append, checked_same, checked_good, all_hold}
use Rattle.laws.proofs.Tests.{cases}
use Rattle.sheet.specs.declared.Refusal.{Refusal}
use Rattle.sheet.specs.declared.Head.{Head}
use Rattle.sheet.specs.Table.{Table, table_of, cut}
use Rattle.sheet.specs.Rules.{table_checks, refuse, no, judged, refusal_of}
use Rattle.sheet.specs.Sheet.{front, sheet_of, size_of, room}
use Rattle.sheet.specs.Accepted.{WellFormed}
use Rattle.sheet.proofs.Accepted.{meets, well_formed}
use Rattle.sheet.proofs.Refusals.{one_place_fails, one_place_holds}
use Rattle.sheet.proofs.Beyond.{cut_checked}
use Rattle.codec.specs.Answers.{write_checks, write_of, written_of}
use Rattle.state.specs.declared.State.{State}
use Rattle.state.specs.State.{fresh_of}
use Rattle.moves.specs.Steps.{kind_at, start_of}
use Rattle.moves.specs.Fits.{mode_check, fit_checks}
use Rattle.moves.proofs.Beyond.{cut_counted, cut_fits, cut_kind, cut_listed, cut_joins, cut_waiting, cut_awaits, cut_stepped}
use Rattle.compacted.proofs.Beyond.{cut_sheet, cut_restarted}
use Rattle.engine.specs.ByValue.{taken_answer}
use Rattle.verdict.specs.Verdict.{verdict_of}
use Rattle.verdict.proofs.Beyond.{cut_verdict}
use Rattle.damage.specs.Damage.{shown_sheet, showable, show_check, show_checks}
use Rattle.damage.proofs.Beyond.{cut_shows, cut_shown}
use Rattle.sheet_engine.specs.Answers.{verdict_answer, start_checks, start_answer, call_checks, list_answer, list_buffer, standing_by, standing_of, standing_answer, standing_buffer, waits_answer, waits_buffer, kind_answer, not_taken, step_answer, not_compacted, compact_answer, compact_buffer, damage_checks, damage_answer, damage_buffer}

formed : (t : Table) → AllHold (table_checks t) → WellFormed t
unfolding refusal_of
formed t h = well_formed t (meets t (ap (λ (r : Refusal). r.number) (all_hold refuse (refuse 0 0) (table_checks t) h)))

pub cut_judged : (t : Table) → judged t ≡ judged (cut t)
unfolding judged
cut_judged t = cut_checked no (Ok (tt {0})) t

pub cut_verdict_answer : (t : Table) → verdict_answer t ≡ verdict_answer (cut t)
unfolding verdict_answer
cut_verdict_answer t = checked_good no (Ok (verdict_of t)) (Ok (verdict_of (cut t))) (table_checks t) (λ h. ap Ok (cut_verdict t (formed t h))) ∙ cut_checked no (Ok (verdict_of (cut t))) t

pub cut_start_answer : (t : Table) (mode : ℕ) → start_answer t mode ≡ start_answer (cut t) mode
unfolding start_answer
cut_start_answer t mode =
    ap (λ (z : State). checked no (Ok z) (start_checks t mode)) (cut_counted t (fresh_of mode)) ∙
    (checked_append no (Ok (start_of (cut t) mode)) (table_checks t) (mode_check mode ∷ []) ∙
    (cut_checked no (checked no (Ok (start_of (cut t) mode)) (mode_check mode ∷ [])) t ∙
    sym (checked_append no (Ok (start_of (cut t) mode)) (table_checks (cut t)) (mode_check mode ∷ []))))

-- writing
module _ (h : Head) (ts cs : List ℕ) where
  pub cut_write_answer : (lent : ℕ) → write_of h ts cs lent ≡ write_of h (take (4 * h.n) ts) (take (4 * h.k) cs) lent
  unfolding write_of
  cut_write_answer lent =
      checked_append no (Ok (size_of h)) (table_checks (table_of h ts cs)) (room (size_of h) lent ∷ []) ∙
      (cut_checked no (checked no (Ok (size_of h)) (room (size_of h) lent ∷ [])) (table_of h ts cs) ∙
      sym (checked_append no (Ok (size_of h)) (table_checks (cut (table_of h ts cs))) (room (size_of h) lent ∷ [])))

  sheet_cut : sheet_of h ts cs ≡ sheet_of h (take (4 * h.n) ts) (take (4 * h.k) cs)
  unfolding sheet_of
  sheet_cut = ap₂ (λ (a b : List ℕ). front h ++ (a ++ b)) (sym (take-take (4 * h.n) (4 * h.n) ts (omega arith))) (sym (take-take (4 * h.k) (4 * h.k) cs (omega arith)))

  pub cut_write_buffer : (out : List ℕ) → written_of h ts cs out ≡ written_of h (take (4 * h.n) ts) (take (4 * h.k) cs) out
  unfolding written_of
  cut_write_buffer out =
      ap (λ (l : List ℕ). checked refused (written l out) (write_checks h ts cs (length out))) sheet_cut ∙
      (checked_append refused (written sheet out) (table_checks (table_of h ts cs)) (room (size_of h) (length out) ∷ []) ∙
      (cut_checked refused (checked refused (written sheet out) (room (size_of h) (length out) ∷ [])) (table_of h ts cs) ∙
      sym (checked_append refused (written sheet out) (table_checks (cut (table_of h ts cs))) (room (size_of h) (length out) ∷ []))))
    where
      refused : ℕ → ℕ → List ℕ
      refused number place = out

      sheet : List ℕ
      sheet = sheet_of h (take (4 * h.n) ts) (take (4 * h.k) cs)

-- the damage of a row
module _ {A : Type 0} (answer : ℕ → ℕ → A) (good : List ℕ → A) (t : Table) (row lent : ℕ) where
  show_cut : WellFormed t → checked answer (good (shown_sheet t row)) (show_checks t row lent) ≡ checked answer (good (shown_sheet (cut t) row)) (show_checks (cut t) row lent)
  show_cut w =
      ⊎_elim
      (λ (e : showable t row ≡ true).
      sym (one_place_holds answer _ (show_check t row) _ refl e) ∙
      (ap (λ (l : List ℕ). checked answer (good l) (room (length l) lent ∷ [])) (cut_shown t w row e) ∙
      one_place_holds answer _ (show_check (cut t) row) _ refl (sym (cut_shows t w row) ∙ e)))
      (λ (e : showable t row ≡ false). sym (one_place_fails answer _ (show_check t row) _ (omega arith) e) ∙ one_place_fails answer _ (show_check (cut t) row) _ (omega arith) (sym (cut_shows t w row) ∙ e))
      (cases (showable t row))

  damage_cut : checked answer (good (shown_sheet t row)) (damage_checks t row lent) ≡ checked answer (good (shown_sheet (cut t) row)) (damage_checks (cut t) row lent)
  damage_cut =
      checked_append answer (good (shown_sheet t row)) (table_checks t) (show_checks t row lent) ∙
      (checked_good answer _ _ (table_checks t) (λ h. show_cut (formed t h)) ∙
      (cut_checked answer (checked answer (good (shown_sheet (cut t) row)) (show_checks (cut t) row lent)) t ∙
      sym (checked_append answer (good (shown_sheet (cut t) row)) (table_checks (cut t)) (show_checks (cut t) row lent))))

module _ (t : Table) (row : ℕ) where
  pub cut_damage_answer : (lent : ℕ) → damage_answer t row lent ≡ damage_answer (cut t) row lent
  unfolding damage_answer
  cut_damage_answer lent = damage_cut no (λ l. Ok (length l)) t row lent

  pub cut_damage_buffer : (lent : List ℕ) → damage_buffer t row lent ≡ damage_buffer (cut t) row lent
  unfolding damage_buffer
  cut_damage_buffer lent = damage_cut (λ number place. lent) (λ l. written l lent) t row (length lent)

-- a call with a table and a state
module _ {A : Type 0} (answer : ℕ → ℕ → A) (good good' : A) (t : Table) (s : State) (same : WellFormed t → good ≡ good') where
  state_cut : WellFormed t → checked answer good (mode_check s.mode ∷ fit_checks t s) ≡ checked answer good' (mode_check s.mode ∷ fit_checks (cut t) s)
  state_cut w = rw (same w) (checked_same answer good' (mode_check s.mode) _ (fit_checks t s) (fit_checks (cut t) s) (λ p a b. refl) (λ h. cut_fits answer good' t s))

  call_cut : checked answer good (call_checks t s) ≡ checked answer good' (call_checks (cut t) s)
  call_cut =
      checked_append answer good (table_checks t) (mode_check s.mode ∷ fit_checks t s) ∙
      (checked_good answer _ _ (table_checks t) (λ h. state_cut (formed t h)) ∙
      (cut_checked answer (checked answer good' (mode_check s.mode ∷ fit_checks (cut t) s)) t ∙
      sym (checked_append answer good' (table_checks (cut t)) (mode_check s.mode ∷ fit_checks (cut t) s))))

-- ... that writes rows to a lent buffer
module _ {A : Type 0} (answer : ℕ → ℕ → A) (good good' : A) (xs xs' : List ℕ) (t : Table) (s : State) (same : WellFormed t → (good ≡ good') × (xs ≡ xs')) where
  rows_cut : (lent : ℕ) → checked answer good (call_checks t s ++ (room (length xs) lent ∷ [])) ≡ checked answer good' (call_checks (cut t) s ++ (room (length xs') lent ∷ []))
  rows_cut lent =
      checked_append answer good (call_checks t s) (room (length xs) lent ∷ []) ∙
      (call_cut answer _ _ t s (λ w. ap₂ (λ (g : A) (l : List ℕ). checked answer g (room (length l) lent ∷ [])) (same w).0 (same w).1) ∙
      sym (checked_append answer good' (call_checks (cut t) s) (room (length xs') lent ∷ [])))

module _ (t : Table) (s : State) where
  abbrev sized : List ℕ → Result ℕ Refusal
  sized l = Ok (length l)

  pub cut_list_answer : (lent : ℕ) → list_answer t s lent ≡ list_answer (cut t) s lent
  unfolding list_answer
  cut_list_answer lent = rows_cut no _ _ _ _ t s (λ w. (ap sized (cut_listed t w s), cut_listed t w s)) lent

  pub cut_list_buffer : (lent : List ℕ) → list_buffer t s lent ≡ list_buffer (cut t) s lent
  unfolding list_buffer
  cut_list_buffer lent = rows_cut (λ number place. lent) _ _ _ _ t s (λ w. (ap (λ l. written l lent) (cut_listed t w s), cut_listed t w s)) (length lent)

  pub cut_standing_answer : (lent : ℕ) → standing_answer t s lent ≡ standing_answer (cut t) s lent
  unfolding standing_answer standing_of
  cut_standing_answer lent = rows_cut no _ _ _ _ t s (λ w. (ap₂ (λ (a b : List ℕ). Ok (standing_by a b)) (cut_listed t w s) (cut_joins t w s), cut_waiting t w s)) lent

  pub cut_standing_buffer : (lent : List ℕ) → standing_buffer t s lent ≡ standing_buffer (cut t) s lent
  unfolding standing_buffer
  cut_standing_buffer lent = rows_cut (λ number place. lent) _ _ _ _ t s (λ w. (ap (λ l. written l lent) (cut_waiting t w s), cut_waiting t w s)) (length lent)

  pub cut_waits_answer : (lent : ℕ) → waits_answer t s lent ≡ waits_answer (cut t) s lent
  unfolding waits_answer
  cut_waits_answer lent = rows_cut no _ _ _ _ t s (λ w. (ap sized (cut_waiting t w s), cut_waiting t w s)) lent

  pub cut_waits_buffer : (lent : List ℕ) → waits_buffer t s lent ≡ waits_buffer (cut t) s lent
  unfolding waits_buffer
  cut_waits_buffer lent = rows_cut (λ number place. lent) _ _ _ _ t s (λ w. (ap (λ l. written l lent) (cut_awaits t w s), cut_waiting t w s)) (length lent)

  pub cut_kind_answer : (row : ℕ) → kind_answer t s row ≡ kind_answer (cut t) s row
  unfolding kind_answer
  cut_kind_answer row = call_cut no (kind_at t s row) (kind_at (cut t) s row) t s (λ w. cut_kind t w s row)

  pub cut_step_answer : (row : ℕ) → step_answer t s row ≡ step_answer (cut t) s row
  unfolding step_answer taken_answer
  cut_step_answer row = call_cut (not_taken s) (taken_answer t s row) (taken_answer (cut t) s row) t s (λ w. rw (cut_kind t w s row, cut_stepped t w s row) refl)

  pub cut_compact_answer : (lent : ℕ) → compact_answer t s lent ≡ compact_answer (cut t) s lent
  unfolding compact_answer
  cut_compact_answer lent = rows_cut (not_compacted s) _ _ _ _ t s (λ w. (ap₂ (λ (l : List ℕ) (z : State). record { answer = sized l; state = z }) (cut_sheet t s) (cut_restarted t s), cut_sheet t s)) lent

  pub cut_compact_buffer : (lent : List ℕ) → compact_buffer t s lent ≡ compact_buffer (cut t) s lent
  unfolding compact_buffer
  cut_compact_buffer lent = rows_cut (λ number place. lent) _ _ _ _ t s (λ w. (ap (λ l. written l lent) (cut_sheet t s), cut_sheet t s)) (length lent)
