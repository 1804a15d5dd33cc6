-- Places beyond the rows are no part of a table: it is compacted as the table without them. Assumes nothing.
use Prim.Native.Nat.{◌*◌}
use mathlib.Core.Path.{◌≡◌, refl}
use native.Mathlib.Omega.{arith}
use lib.Seq.{take-take}
use Rattle.sheet.specs.Table.{Table, cut}
use Rattle.sheet.specs.Sheet.{sheet_of}
use Rattle.state.specs.declared.State.{State}
use Rattle.moves.proofs.Beyond.{cut_left}
use Rattle.compacted.specs.Compacted.{is_kept, rank, kept_row, compacted_terms, compacted_sheet, restarted}

module _ (t : Table) (s : State) where
  same_count : rank t s t.n ≡ rank (cut t) s t.n
  unfolding rank is_kept
  same_count = rw (cut_left t s) refl

  same_terms : compacted_terms t s ≡ compacted_terms (cut t) s
  unfolding compacted_terms kept_row rank is_kept
  same_terms = rw (cut_left t s) refl

  pub cut_sheet : compacted_sheet t s ≡ compacted_sheet (cut t) s
  unfolding sheet_of
  cut_sheet = rw (same_count, same_terms, take-take (4 * t.k) (4 * t.k) t.conditions (omega arith)) refl

  pub cut_restarted : restarted t s ≡ restarted (cut t) s
  cut_restarted = rw (same_terms, same_count) refl
