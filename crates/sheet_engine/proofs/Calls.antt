-- What a judged table gives to the calls, and the answers of each. Assumes nothing.
use Prim.Native.Nat.{ℕ, ◌<◌, ◌≤◌}
use mathlib.Core.Path.{◌≡◌, sym, ◌∙◌, ap}
use mathlib.Core.List.{List, [], ◌∷◌}
use Rattle.std.specs.Prelude.{Result, Ok, Err}
use native.Mathlib.Omega.{arith}
use lib.ListN.{length}
use borrow.Author.Tests.{le-leb, lt-leb}
use Rattle.laws.specs.Checks.{checked}
use Rattle.sheet.specs.declared.Refusal.{Refusal}
use Rattle.sheet.specs.Table.{Table}
use Rattle.sheet.specs.Rules.{no, refusal_of}
use Rattle.sheet.proofs.Refusals.{table_refused, table_accepted, table_refused_first, table_accepted_first, one_place_fails, one_place_holds}
use Rattle.state.specs.declared.State.{State}
use Rattle.moves.specs.Steps.{start_of}
use Rattle.moves.specs.Fits.{mode_check}
use Rattle.verdict.specs.declared.Verdict.{Verdict}
use Rattle.verdict.specs.Verdict.{verdict_of, Judged}
use Rattle.verdict.proofs.Judged.{accepted_judged}
use Rattle.damage.specs.Damage.{show_checks}
use Rattle.showing.specs.Answers.{show_answer, show_buffer}
use Rattle.sheet_engine.specs.Answers.{verdict_answer, start_answer, damage_answer, damage_buffer}

module _ (t : Table) (r : Refusal) (told : r ≡ refusal_of t) where
  pub judged_law : r.number ≡ 0 → Judged t
  judged_law e = accepted_judged t (ap (λ (r : Refusal). r.number) (sym told) ∙ e)

  pub verdict_refused : (r.number ≡ 0 → ⊥) → Err r ≡ verdict_answer t
  unfolding verdict_answer
  verdict_refused h = table_refused no (Ok (verdict_of t)) t r told h

  pub verdict_given : r.number ≡ 0 → (v : Verdict) → v ≡ verdict_of t → Ok v ≡ verdict_answer t
  unfolding verdict_answer
  verdict_given e v is = ap Ok is ∙ table_accepted no (Ok (verdict_of t)) t r told e

  module _ (mode : ℕ) where
    pub start_refused : (r.number ≡ 0 → ⊥) → Err r ≡ start_answer t mode
    unfolding start_answer
    start_refused h = table_refused_first no (Ok (start_of t mode)) t (mode_check mode ∷ []) r told h

    pub start_bad_mode : r.number ≡ 0 → 1 < mode → no 9 mode ≡ start_answer t mode
    unfolding start_answer
    start_bad_mode e h = one_place_fails no (Ok (start_of t mode)) (mode_check mode) [] (omega arith) (lt-leb mode 1 h) ∙ table_accepted_first no (Ok (start_of t mode)) t (mode_check mode ∷ []) r told e

    pub start_fresh : r.number ≡ 0 → mode ≤ 1 → (s : State) → s ≡ start_of t mode → Ok s ≡ start_answer t mode
    unfolding start_answer checked
    start_fresh e h s is = ap Ok is ∙ (one_place_holds no (Ok (start_of t mode)) (mode_check mode) [] (omega arith) (le-leb mode 1 h) ∙ table_accepted_first no (Ok (start_of t mode)) t (mode_check mode ∷ []) r told e)

  -- the small sheet for a row
  module _ (row : ℕ) (lent : List ℕ) where
    abbrev Told : Result ℕ Refusal → List ℕ → Type 0
    Told a out = (a ≡ damage_answer t row (length lent)) × (out ≡ damage_buffer t row lent)

    pub damage_refused : (r.number ≡ 0 → ⊥) → Told (Err r) lent
    unfolding damage_answer damage_buffer
    damage_refused h = (table_refused_first no _ t (show_checks t row (length lent)) r told h, table_refused_first (λ number place. lent) _ t (show_checks t row (length lent)) r told h)

    pub damage_shown : r.number ≡ 0 → (a : Result ℕ Refusal) (out : List ℕ) → (a ≡ show_answer t row (length lent)) × (out ≡ show_buffer t row lent) → Told a out
    unfolding damage_answer damage_buffer show_answer show_buffer
    damage_shown e a out (f, g) = (f ∙ table_accepted_first no _ t (show_checks t row (length lent)) r told e, g ∙ table_accepted_first (λ number place. lent) _ t (show_checks t row (length lent)) r told e)
