-- What is left of a row begins at some row, its top. The top of a row, and a row that is kept, as they are computed: from the row, its mark and the tops of its children.
use Rattle.std.specs.Prelude.{ℕ, cond}
use Rattle.steps.specs.Rows.{Row, NIL, PREFIX, BRANCH}
use Rattle.steps.specs.Marks.{stand, Open, both, left, right, open_branches}
use Rattle.steps.specs.InFront.{waits_by, passed_by}

-- where both branches are open the row itself, else the top of the one that is
abbrev pub top_branch : Open → ℕ → ℕ → ℕ → ℕ
top_branch both i p q = i
top_branch left i p q = p
top_branch right i p q = q

-- the top of row i
unfoldable pub top_by : ℕ → Row → ℕ → (ℕ → ℕ) → ℕ
top_by i NIL m top = i
top_by i (PREFIX π c) m top = cond (passed_by (stand m)) (top c) i
top_by i (BRANCH κ p q) m top = top_branch (open_branches κ m) i (top p) (top q)

-- a row that is kept: its children are their tops, and "a dropped JOIN" is "NIL"; a passed row is not kept
unfoldable pub kept_as : Row → ℕ → (ℕ → ℕ) → Row
kept_as NIL m top = NIL
kept_as (PREFIX π c) m top = cond (waits_by (stand m)) (PREFIX π (top c)) NIL
kept_as (BRANCH κ p q) m top = BRANCH κ (top p) (top q)
