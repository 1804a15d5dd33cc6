-- The laws of lanes: rows from their operands, and a table of them that is filled in rising order. Assumes nothing.
use Prim.Native.Nat.{ℕ, zero, suc, ◌+◌, ◌<◌}
use mathlib.Core.Path.{◌≡◌, refl, sym, ◌∙◌, ap}
use mathlib.Core.Bool.{Bool, true, false, cond}
use mathlib.Core.List.{List}
use mathlib.Core.Logic.{by_cases}
use native.Mathlib.Omega.{arith}
use native.Mathlib.Decide.{dec_lt, ℕ_discrete}
use lib.Dec.{ltb}
use lib.ListN.{get_or, length, set, replicate, length-set}
use lib.Seq.{get_or-set_same, get_or-set_other}
use Rattle.laws.specs.Up.{below}
use Rattle.laws.proofs.Up.{below_in, below_out, get_d_constant}
use Rattle.calculus.specs.Status.{Value, Unset, False, True, Links}
use Rattle.conditions.specs.Conditions.{Evaluation, FALSE, TRUE, LINK, OP}
use Rattle.conditions.specs.Operators.{Operator}
use Rattle.conditions.specs.ByRows.{value_by}
use Rattle.conditions.specs.Failure.{is_true}
use Rattle.conditions.specs.Total.{if_true, lowered}
use Rattle.conditions.proofs.ByRows.{value_at}
use Rattle.sheet.specs.Table.{condition_row_at, evaluation_of, eval_of}
use Rattle.reach.specs.Masks.{has_bit}
use Rattle.lanes.specs.declared.Lanes.{Lanes}
use Rattle.lanes.specs.declared.TheConstants.{FALSE as false_row, TRUE as true_row}
use Rattle.lanes.specs.Lanes.{Shows, lanes_at, unset_lanes, link_lanes, LinksShow, RowsShow, Operated, Stepped, Valued}
use Rattle.lanes.proofs.Operators.{shows_same, true_lanes, false_lanes}

-- what is kept of a link is what is true
kept_true : (lt lf : List ℕ) (l : ℕ) → (link_lanes lt lf l).kept ≡ (link_lanes lt lf l).trues
unfolding link_lanes
kept_true lt lf l = at (ltb l 64)
  where
    at : (b : Bool) → (cond b (lanes_at lt lf lt l) unset_lanes).kept ≡ (cond b (lanes_at lt lf lt l) unset_lanes).trues
    at true = refl
    at false = refl

low_true : (x : Value) → if_true x ≡ cond (is_true x) x Unset
low_true Unset = refl
low_true False = refl
low_true True = refl

-- the words of a link show it in every lane
link_shows : (lt lf : List ℕ) (v : ℕ → Links) (l : ℕ) → LinksShow lt lf v → Shows (link_lanes lt lf l) (λ j. v j l) (λ j. lowered (v j) l)
unfolding LinksShow Shows
link_shows lt lf v l p j h = let q = p l j h in
    (q.0, q.1, low_true (v j l) ∙ ap (λ (t : Bool). cond t (v j l) Unset) (sym q.0 ∙ ap (λ (w : ℕ). has_bit w j) (sym (kept_true lt lf l))))

-- a row of each kind
module _ (e : Evaluation) (lt lf trues falses kept : List ℕ) where
  pub stepped_false : Stepped e FALSE lt lf trues falses kept false_row
  unfolding Stepped value_by
  stepped_false v w w' p q = false_lanes

  pub stepped_true : Stepped e TRUE lt lf trues falses kept true_row
  unfolding Stepped value_by
  stepped_true v w w' p q = true_lanes

  pub stepped_link : (l : ℕ) (r : Lanes) → r ≡ link_lanes lt lf l → Stepped e (LINK l) lt lf trues falses kept r
  unfolding Stepped value_by
  stepped_link l r d v w w' p q = rw d (link_shows lt lf v l p)

  pub stepped_op : (o : Operator) (a b : ℕ) (A B r : Lanes) → a < 256 → b < 256 → A ≡ lanes_at trues falses kept a → B ≡ lanes_at trues falses kept b → Operated e o A B r → Stepped e (OP o a b) lt lf trues falses kept r
  unfolding Stepped value_by Operated RowsShow
  stepped_op o a b A B r h k p' q' s v w w' p q = s (λ j. w j a) (λ j. w j b) (λ j. w' j a) (λ j. w' j b) (rw p' (q a h)) (rw q' (q b k))

-- one row more changes what is seen of that row only
next : (i : ℕ) (f : ℕ → Value) (q : ℕ) → (q ≡ i → ⊥) → below False f i q ≡ below False f (i + 1) q
next i f q z = at (dec_lt q i)
  where
    at : Dec (q < i) → below False f i q ≡ below False f (i + 1) q
    at (yes h) = below_in False f i q h ∙ sym (below_in False f (i + 1) q (omega arith))
    at (no h) = below_out False f i q (omega arith) ∙ sym (below_out False f (i + 1) q (omega arith))

full : (x n i : ℕ) → i < n → get_or (replicate n x) i 0 ≡ x
full x zero i h = absurd (omega arith)
full x (suc n) zero h = refl
full x (suc n) (suc i) h = full x n i (omega arith)

-- a table that has come to row i
pub record Held (e : ℕ) (cs lt lf : List ℕ) (i : ℕ) (trues falses kept : List ℕ) : Type 0 where
  pub long_t : length trues ≡ 256
  pub long_f : length falses ≡ 256
  pub long_k : length kept ≡ 256
  pub shows : (v : ℕ → Links) → LinksShow lt lf v → RowsShow trues falses kept (λ j. below False (λ q. eval_of e cs q (v j)) i) (λ j. below False (λ q. eval_of e cs q (lowered (v j))) i)

module _ (e : ℕ) (cs lt lf : List ℕ) where
  pub held_none : Held e cs lt lf 0 (replicate 256 0) (replicate 256 18446744073709551615) (replicate 256 18446744073709551615)
  unfolding RowsShow
  held_none = record {
    long_t = refl;
    long_f = refl;
    long_k = refl;
    shows = (λ v s i h.
        let none : (u : Links) → False ≡ below False (λ q. eval_of e cs q u) 0 i = (λ u. sym (below_out False (λ q. eval_of e cs q u) 0 i (omega arith))) in
        rw (get_d_constant {A = ℕ} 0 256 i, full 18446744073709551615 256 i h)
        (shows_same _ (λ j. False) (λ j. False) _ _ (λ j. none (v j)) (λ j. none (lowered (v j))) false_lanes));
  }

  module _ (i : ℕ) (trues falses kept : List ℕ) (g : Held e cs lt lf i trues falses kept) (r : Lanes) (s : Stepped (evaluation_of e) (condition_row_at cs i) lt lf trues falses kept r) where
    -- the step at row i gives the row's value
    pub held_found : Valued e cs i lt lf r
    unfolding Stepped Valued
    held_found v p =
        let found : (u : Links) → value_by (evaluation_of e) (condition_row_at cs i) u (below False (λ q. eval_of e cs q u) i) ≡ eval_of e cs i u = (λ u. sym (value_at (evaluation_of e) (condition_row_at cs) i u)) in
        shows_same r _ _ _ _ (λ j. found (v j)) (λ j. found (lowered (v j))) (s v (λ j. below False (λ q. eval_of e cs q (v j)) i) (λ j. below False (λ q. eval_of e cs q (lowered (v j))) i) p (g.shows v p))

    pub held_more : i < 256 → Held e cs lt lf (i + 1) (set trues i r.trues) (set falses i r.falses) (set kept i r.kept)
    unfolding RowsShow Valued
    held_more h = record {
      long_t = length-set trues i r.trues ∙ g.long_t;
      long_f = length-set falses i r.falses ∙ g.long_f;
      long_k = length-set kept i r.kept ∙ g.long_k;
      shows = (λ v p q b. by_cases (ℕ_discrete q i)
          (λ (z : q ≡ i).
          let here : (u : Links) → eval_of e cs i u ≡ below False (λ k. eval_of e cs k u) (i + 1) i = (λ u. sym (below_in False (λ k. eval_of e cs k u) (i + 1) i (omega arith))) in
          rw (z, get_or-set_same trues i r.trues 0 (omega (arith, g.long_t)), get_or-set_same falses i r.falses 0 (omega (arith, g.long_f)), get_or-set_same kept i r.kept 0 (omega (arith, g.long_k)))
          (shows_same r (λ j. eval_of e cs i (v j)) (λ j. eval_of e cs i (lowered (v j))) _ _ (λ j. here (v j)) (λ j. here (lowered (v j))) (held_found v p)))
          (λ (z : q ≡ i → ⊥).
          rw (get_or-set_other trues i q r.trues 0 z, get_or-set_other falses i q r.falses 0 z, get_or-set_other kept i q r.kept 0 z)
          (shows_same _ (λ j. below False (λ k. eval_of e cs k (v j)) i q) (λ j. below False (λ k. eval_of e cs k (lowered (v j))) i q) _ _ (λ j. next i (λ k. eval_of e cs k (v j)) q z) (λ j. next i (λ k. eval_of e cs k (lowered (v j))) q z) (g.shows v p q b))));
    }
