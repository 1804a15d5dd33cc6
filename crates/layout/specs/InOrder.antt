-- Document 02, request 4, after which the term rows of request 9 run too: "A term row stands before its children and its left branch before its right".
use Rattle.std.specs.Prelude.{ℕ, suc, ◌+◌, List, ◌++◌}
use Rattle.calculus.specs.Process.{Process, nil, prefix, branch}
use Rattle.steps.specs.Rows.{NIL, PREFIX, BRANCH}
use Rattle.layout.specs.Bytes.{row_bytes}

-- how many rows a process has
unfoldable pub size : Process → ℕ
size (nil r) = 1
size (prefix r π P) = suc (size P)
size (branch r κ P Q) = suc (size P + size Q)

-- its rows numbered from i on
unfoldable pub numbered : ℕ → Process → Process
numbered i (nil r) = nil i
numbered i (prefix r π P) = prefix i π (numbered (suc i) P)
numbered i (branch r κ P Q) = branch i κ (numbered (suc i) P) (numbered (suc i + size P) Q)

-- ... and their bytes
unfoldable pub in_order : ℕ → Process → List ℕ
in_order i (nil r) = row_bytes NIL
in_order i (prefix r π P) = row_bytes (PREFIX π (suc i)) ++ in_order (suc i) P
in_order i (branch r κ P Q) = row_bytes (BRANCH κ (suc i) (suc i + size P)) ++ (in_order (suc i) P ++ in_order (suc i + size P) Q)
