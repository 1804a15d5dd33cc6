-- 64 values at once. A lane is a place in three words: one has the lanes that are true, one those that are false, one those that keep their value with every false link unset.
use Rattle.std.specs.Prelude.{ℕ, ◌<◌, ◌≡◌, cond, List, ltb, get_or}
use Rattle.calculus.specs.Status.{Value, Unset, Links}
use Rattle.conditions.specs.Operators.{Operator}
use Rattle.conditions.specs.Conditions.{ConditionRow, Evaluation}
use Rattle.conditions.specs.ByRows.{operate, value_by}
use Rattle.conditions.specs.Failure.{is_true, is_false}
use Rattle.conditions.specs.Total.{lowered}
use Rattle.sheet.specs.Table.{eval_of}
use Rattle.reach.specs.Masks.{has_bit}
use Rattle.lanes.specs.declared.Lanes.{Lanes}

-- lane j has the value val j, and low j with every false link unset: a lane that is not kept is then unset
unfoldable pub Shows : Lanes → (ℕ → Value) → (ℕ → Value) → Type 0
Shows w val low = (j : ℕ) → j < 64 → (has_bit w.trues j ≡ is_true (val j)) × (has_bit w.falses j ≡ is_false (val j)) × (low j ≡ cond (has_bit w.kept j) (val j) Unset)

-- true and false exchanged
abbrev pub turned : Lanes → Lanes
turned w = record { trues = w.falses; falses = w.trues; kept = w.kept }

abbrev pub lanes_at : List ℕ → List ℕ → List ℕ → ℕ → Lanes
lanes_at trues falses kept i = record { trues = get_or trues i 0; falses = get_or falses i 0; kept = get_or kept i 0 }

abbrev pub unset_lanes : Lanes
unset_lanes = record { trues = 0; falses = 0; kept = 0 }

-- the words of a link: what is kept of it is what is true; one from 64 on is unset
unfoldable pub link_lanes : List ℕ → List ℕ → ℕ → Lanes
link_lanes trues falses l = cond (ltb l 64) (lanes_at trues falses trues l) unset_lanes

-- lane j has the link values v j
unfoldable pub LinksShow : List ℕ → List ℕ → (ℕ → Links) → Type 0
LinksShow trues falses v = (l j : ℕ) → j < 64 → (has_bit (link_lanes trues falses l).trues j ≡ is_true (v j l)) × (has_bit (link_lanes trues falses l).falses j ≡ is_false (v j l))

-- lane j has the row values val j, and low j with every false link unset
unfoldable pub RowsShow : List ℕ → List ℕ → List ℕ → (ℕ → ℕ → Value) → (ℕ → ℕ → Value) → Type 0
RowsShow trues falses kept val low = (i : ℕ) → i < 256 → Shows (lanes_at trues falses kept i) (λ j. val j i) (λ j. low j i)

-- What the functions give, whatever the words they are handed show.
unfoldable pub Operated : Evaluation → Operator → Lanes → Lanes → Lanes → Type 0
Operated e o a b r = (x y x' y' : ℕ → Value) → Shows a x x' → Shows b y y' → Shows r (λ j. operate e o (x j) (y j)) (λ j. operate e o (x' j) (y' j))

unfoldable pub Stepped : Evaluation → ConditionRow → List ℕ → List ℕ → List ℕ → List ℕ → List ℕ → Lanes → Type 0
Stepped e N lt lf trues falses kept r = (v : ℕ → Links) (w w' : ℕ → ℕ → Value) → LinksShow lt lf v → RowsShow trues falses kept w w' → Shows r (λ j. value_by e N (v j) (w j)) (λ j. value_by e N (lowered (v j)) (w' j))

unfoldable pub Valued : ℕ → List ℕ → ℕ → List ℕ → List ℕ → Lanes → Type 0
Valued e cs row lt lf r = (v : ℕ → Links) → LinksShow lt lf v → Shows r (λ j. eval_of e cs row (v j)) (λ j. eval_of e cs row (lowered (v j)))
