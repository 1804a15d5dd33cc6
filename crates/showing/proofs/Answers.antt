-- The answers for a row: 15, then 12, or the size of the sheet. Assumes nothing.
use Prim.Native.Nat.{ℕ, ◌<◌, ◌≤◌}
use mathlib.Core.Path.{◌≡◌, refl, sym, ◌∙◌, ap}
use mathlib.Core.Bool.{true, false}
use Rattle.std.specs.Prelude.{Result, Ok}
use mathlib.Core.List.{List, [], ◌∷◌}
use native.Mathlib.Omega.{arith}
use lib.ListN.{length}
use borrow.Author.Tests.{le-leb, lt-leb}
use Rattle.laws.specs.Checks.{Check, checked}
use Rattle.laws.specs.Listed.{written}
use Rattle.laws.proofs.Listed.{written_short}
use Rattle.sheet.specs.declared.Refusal.{Refusal}
use Rattle.sheet.specs.Table.{Table}
use Rattle.sheet.specs.Rules.{no}
use Rattle.sheet.specs.Sheet.{room}
use Rattle.sheet.proofs.Refusals.{one_place_fails, one_place_holds}
use Rattle.damage.specs.Damage.{shown_sheet, showable, show_check}
use Rattle.showing.specs.Answers.{show_answer, show_buffer}

module _ (t : Table) (row : ℕ) (lent : List ℕ) where
  abbrev twelve : Check
  twelve = room (length (shown_sheet t row)) (length lent)

  abbrev pub Told : Result ℕ Refusal → List ℕ → Type 0
  Told a out = (a ≡ show_answer t row (length lent)) × (out ≡ show_buffer t row lent)

  pub not_shown : showable t row ≡ false → Told (no 15 row) lent
  unfolding show_answer show_buffer
  not_shown e = (one_place_fails no _ (show_check t row) (twelve ∷ []) (omega arith) e, one_place_fails (λ number place. lent) _ (show_check t row) (twelve ∷ []) (omega arith) e)

  module _ (e : showable t row ≡ true) (n : ℕ) (out : List ℕ) (f : n ≡ length (shown_sheet t row)) (g : out ≡ written (shown_sheet t row) lent) where
    pub shown_short : length lent < n → Told (no 12 n) out
    unfolding show_answer show_buffer
    shown_short h =
        let long = lt-leb (length (shown_sheet t row)) (length lent) (omega (arith, f)) in (
          ap (no 12) f ∙ (one_place_fails no _ twelve [] (omega arith) long ∙ one_place_holds no _ (show_check t row) (twelve ∷ []) refl e),
          g ∙ (sym (written_short (shown_sheet t row) lent (omega (arith, f))) ∙ (one_place_fails (λ number place. lent) _ twelve [] (omega arith) long ∙ one_place_holds (λ number place. lent) _ (show_check t row) (twelve ∷ []) refl e)),
        )

    pub shown_given : n ≤ length lent → Told (Ok n) out
    unfolding show_answer show_buffer checked
    shown_given h =
        let fits = le-leb (length (shown_sheet t row)) (length lent) (omega (arith, f)) in (
          ap Ok f ∙ (one_place_holds no _ twelve [] refl fits ∙ one_place_holds no _ (show_check t row) (twelve ∷ []) refl e),
          g ∙ (one_place_holds (λ number place. lent) _ twelve [] refl fits ∙ one_place_holds (λ number place. lent) _ (show_check t row) (twelve ∷ []) refl e),
        )
