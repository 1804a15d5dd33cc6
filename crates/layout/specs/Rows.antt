-- A process as rows: the row of each number that stands in it.
use Rattle.std.specs.Prelude.{ℕ, cond, eqb}
use Rattle.calculus.specs.Process.{Process, nil, prefix, branch}
use Rattle.calculus.specs.Rows.{rows}
use Rattle.steps.specs.Rows.{Row, NIL, PREFIX, BRANCH}

-- the number of a process's first row
unfoldable pub root : Process → ℕ
root (nil r) = r
root (prefix r π P) = r
root (branch r κ P Q) = r

-- its row with the number k, which names its children by their numbers; NIL where it has no such row
unfoldable pub row_in : Process → ℕ → Row
row_in (nil r) k = NIL
row_in (prefix r π P) k = cond (eqb k r) (PREFIX π (root P)) (row_in P k)
row_in (branch r κ P Q) k = cond (eqb k r) (BRANCH κ (root P) (root Q)) (cond (rows P k) (row_in P k) (row_in Q k))

-- a row with other numbers for its children
unfoldable pub renumbered : (ℕ → ℕ) → Row → Row
renumbered ρ NIL = NIL
renumbered ρ (PREFIX π c) = PREFIX π (ρ c)
renumbered ρ (BRANCH κ p q) = BRANCH κ (ρ p) (ρ q)
