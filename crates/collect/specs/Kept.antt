-- What the passes over the rows make: a table of 256 numbers, the bytes of the rows that are kept.
use Rattle.std.specs.Prelude.{ℕ, Bool, ◌&&◌, List, eqb, get_or}
use Rattle.laws.specs.Listed.{listed}
use Rattle.steps.specs.Rows.{Row}
use Rattle.steps.specs.Marks.{Marks}
use Rattle.sheet.specs.declared.Head.{Head}
use Rattle.sheet.specs.Table.{table_of, row_at}
use Rattle.layout.specs.Rows.{renumbered}
use Rattle.layout.specs.Bytes.{row_bytes, laid}
use Rattle.state.specs.declared.State.{State}
use Rattle.compacted.specs.Compacted.{rank, compacted_terms}
use Rattle.flags.specs.Flags.{flagged}
use Rattle.laying.specs.LaidIn.{LaidIn}
use Rattle.collect.specs.Tops.{kept_as}

-- a row is kept that is live, and its own top
abbrev pub kept_by : List ℕ → List ℕ → ℕ → Bool
kept_by live tops k = flagged live k && eqb (get_or tops k 0) k

-- the bytes of a row that is kept, from the tables
unfoldable pub new_bytes : Row → ℕ → List ℕ → List ℕ → List ℕ
new_bytes N mark tops ranks = row_bytes (renumbered (λ j. get_or ranks j 0) (kept_as N mark (λ j. get_or tops j 0)))

-- ... and of all of them, in their old order
abbrev pub new_terms : List ℕ → ℕ → Marks → (ℕ → Bool) → List ℕ → List ℕ → List ℕ
new_terms ts n μ kept tops ranks = laid (λ k. new_bytes (row_at ts k) (μ k) tops ranks) (listed kept 0 n)

-- the terms of the compacted table; condition rows are not asked, so that they may be any
abbrev pub Keeps : Head → List ℕ → State → ℕ → List ℕ → Type 0
Keeps h ts s count rows = (cs : List ℕ) → LaidIn (rank (table_of h ts cs) s h.n) (compacted_terms (table_of h ts cs) s) count rows
