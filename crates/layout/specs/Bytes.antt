-- Document 01, "Terms, 4 bytes a row", and the rows of conditions: the bytes of a row, and rows one after another.
use Rattle.std.specs.Prelude.{ℕ, List, [], ◌∷◌, ◌++◌}
use Rattle.laws.specs.Tests.{bit}
use Rattle.calculus.specs.Process.{act, out, join, pick, flow}
use Rattle.conditions.specs.Operators.{AND, OR, EQ, NE}
use Rattle.conditions.specs.Conditions.{ConditionRow, FALSE, TRUE, LINK, OP}
use Rattle.steps.specs.Rows.{Row, NIL, PREFIX, BRANCH}

abbrev pub four : ℕ → ℕ → ℕ → ℕ → List ℕ
four kind a b c = kind ∷ (a ∷ (b ∷ (c ∷ [])))

-- "NIL 0, 0, 0, 0; ACT 1, activity, child, 0; OUT 2, link, 0 or 1, child; JOIN 3, condition row, child, 0; PICK 4, left, right, 0; FLOW 5, left, right, 0"
unfoldable pub row_bytes : Row → List ℕ
row_bytes NIL = four 0 0 0 0
row_bytes (PREFIX (act a) c) = four 1 a c 0
row_bytes (PREFIX (out l b) c) = four 2 l (bit b) c
row_bytes (PREFIX (join q) c) = four 3 q c 0
row_bytes (BRANCH pick p q) = four 4 p q 0
row_bytes (BRANCH flow p q) = four 5 p q 0

-- "0 FALSE and 1 TRUE (0, 0, 0 follow); 2 LINK (link, 0, 0); 3 AND, 4 OR, 5 EQ, 6 NE (two operand rows, 0)"
unfoldable pub condition_bytes : ConditionRow → List ℕ
condition_bytes FALSE = four 0 0 0 0
condition_bytes TRUE = four 1 0 0 0
condition_bytes (LINK l) = four 2 l 0 0
condition_bytes (OP AND a b) = four 3 a b 0
condition_bytes (OP OR a b) = four 4 a b 0
condition_bytes (OP EQ a b) = four 5 a b 0
condition_bytes (OP NE a b) = four 6 a b 0

-- the bytes of some numbers, one after another
unfoldable pub laid : (ℕ → List ℕ) → List ℕ → List ℕ
laid bytes [] = []
laid bytes (k ∷ ks) = bytes k ++ laid bytes ks
