-- WHAT IS WRITTEN IS THE COMPACTED SHEET. Assumes nothing.
use Prim.Native.Nat.{ℕ, ◌*◌}
use mathlib.Core.Path.{◌≡◌, sym, ◌∙◌, ap, ap₂}
use mathlib.Core.List.{List, ◌++◌}
use native.Mathlib.Omega.{arith}
use lib.ListN.{length, take}
use lib.Seq.{take_all}
use Rattle.laws.specs.Listed.{written}
use Rattle.sheet.specs.declared.Head.{Head}
use Rattle.sheet.specs.Table.{Table}
use Rattle.sheet.specs.Sheet.{front, sheet_of, size_of}
use Rattle.sheet.specs.Accepted.{WellFormed}
use Rattle.codec.specs.Answers.{InRange}
use Rattle.codec.proofs.Writing.{sheet_length}
use Rattle.state.specs.declared.State.{State}
use Rattle.compacted.specs.Compacted.{rank, compacted_terms, compacted_by, compacted_head, compacted_sheet}
use Rattle.compacted.proofs.Compacted.{compacted_lent, rank_upto}
use Rattle.laying.specs.LaidIn.{LaidIn}

module _ (t : Table) (w : WellFormed t) (s : State) (count : ℕ) (rows : List ℕ) (long : length rows ≡ 1024) (laid : LaidIn (rank t s t.n) (compacted_terms t s) count rows) (e : ℕ) (by : e ≡ compacted_by t.evaluation) where
  abbrev head : Head
  head = record { evaluation = e; m = t.m; n = count; k = t.k }

  pub in_range : InRange head rows t.conditions
  in_range = record {
    few_links = w.few_links;
    few_terms = omega (arith, laid.counted, rank_upto t s, w.few_terms);
    few_conditions = w.few_conditions;
    terms_lent = omega (arith, long, laid.counted, rank_upto t s, w.few_terms);
    conditions_lent = omega (arith, w.conditions_lent);
  }

  head_is : head ≡ compacted_head t s
  head_is = ap₂ (λ (e n : ℕ). record { evaluation = e; m = t.m; n = n; k = t.k }) by laid.counted

  rows_are : take (4 * count) rows ≡ take (4 * rank t s t.n) (compacted_terms t s)
  rows_are =
      let four : 4 * count ≡ count * 4 = omega arith in
      ap (λ (n : ℕ). take n rows) four ∙ (laid.begins ∙ sym (take_all (4 * rank t s t.n) (compacted_terms t s) (omega (arith, compacted_lent t s))))

  sheet_is : sheet_of head rows t.conditions ≡ compacted_sheet t s
  unfolding sheet_of
  sheet_is = ap₂ (λ (h : Head) (ts : List ℕ). front h ++ (ts ++ take (4 * t.k) t.conditions)) head_is rows_are

  pub wrote : (lent out : List ℕ) (r : ℕ) → r ≡ size_of head → out ≡ written (sheet_of head rows t.conditions) lent → (r ≡ length (compacted_sheet t s)) × (out ≡ written (compacted_sheet t s) lent)
  wrote lent out r f g = (
    f ∙ (sym (sheet_length head rows t.conditions in_range.terms_lent in_range.conditions_lent) ∙ ap length sheet_is),
    g ∙ ap (λ (l : List ℕ). written l lent) sheet_is,
  )
