-- Document 02, request 9, "after section 6 of" R: the process that shows the damage. Its rows have no numbers yet: they are 0 until the process is laid out.
use Rattle.std.specs.Prelude.{ℕ, Bool, true, false, cond, not, List, [], ◌∷◌}
use Rattle.laws.specs.Tests.{or}
use Rattle.calculus.specs.Process.{Process, nil, prefix, branch, act, out, join, pick, flow}
use Rattle.calculus.specs.Status.{Value, Unset, False, True, Links, with_unset}
use Rattle.conditions.specs.Conditions.{is_set}

-- an OUT of a value, none where it is unset
unfoldable pub out_by : Value → ℕ → Process → Process
out_by Unset l P = P
out_by False l P = prefix 0 (out l false) P
out_by True l P = prefix 0 (out l true) P

-- "in rising link order set the links [...] to those values": those of the list
unfoldable pub setting : Links → List ℕ → Process → Process
setting v [] P = P
setting v (l ∷ ls) P = out_by (v l) l (setting v ls P)

-- "then comes a PICK. Its left branch does activity 1, waits on the same condition, then does activity 2. Its right branch sets the named link true."
unfoldable pub choice : ℕ → ℕ → Process
choice c l = branch 0 pick (prefix 0 (act 1) (prefix 0 (join c) (prefix 0 (act 2) (nil 0)))) (prefix 0 (out l true) (nil 0))

-- "links that the number leaves unset"
unfoldable pub any_unset : Links → List ℕ → Bool
any_unset v [] = false
any_unset v (l ∷ ls) = or (not (is_set (v l))) (any_unset v ls)

-- "OUTs that set those links true": a value for them alone
abbrev pub true_where_unset : Value → Value
true_where_unset Unset = True
true_where_unset False = Unset
true_where_unset True = Unset

-- Of a condition c: its links in rising order, what its number makes of them, the named link; and a condition f that is FALSE.
module _ (ls : List ℕ) (v : Links) where
  -- "a JOIN on FALSE before OUTs that set those links true, in rising order"
  unfoldable pub beside : ℕ → Process
  beside f = prefix 0 (join f) (setting (λ k. true_where_unset (v k)) ls (nil 0))

  module _ (l : ℕ) where
    -- "set the links that its condition's number makes true or false to those values, all but the named link; then comes a PICK"
    unfoldable pub chain : ℕ → Process
    chain c = setting (with_unset v l) ls (choice c l)

    -- "If the condition reaches links that the number leaves unset, a FLOW at the root has this chain on its left and on its right a JOIN"
    unfoldable pub scene : ℕ → ℕ → Process
    scene c f = cond (any_unset v ls) (branch 0 flow (chain c) (beside f)) (chain c)
