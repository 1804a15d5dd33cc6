-- The falling pass over a table of flags. Assumes nothing.
use Prim.Native.Nat.{ℕ, ◌+◌, ◌<◌}
use mathlib.Core.Path.{◌≡◌, refl, sym, ◌∙◌, ap}
use mathlib.Core.Bool.{Bool, true, false}
use mathlib.Core.List.{List}
use mathlib.Core.Logic.{by_cases}
use native.Mathlib.Omega.{arith}
use native.Mathlib.Decide.{ℕ_discrete}
use lib.Dec.{eqb}
use lib.ListN.{get_or, set, length-set, replicate}
use lib.Seq.{get_or-set_same, get_or-set_other}
use borrow.Author.Tests.{eq-eqb, ne_eqb}
use Rattle.laws.specs.Tests.{or, bit}
use Rattle.laws.proofs.Tests.{self, or_r, or_none, or_right}
use Rattle.laws.proofs.Up.{get_d_constant}
use Rattle.conditions.specs.Conditions.{ConditionRow, FALSE, TRUE, LINK, OP}
use Rattle.sheet.specs.Table.{condition_row_at}
use Rattle.worth.specs.Pass.{is_operand}
use Rattle.flags.specs.Flags.{Shows}
use Rattle.flags.proofs.Shown.{shown}
use Rattle.damage.specs.Reached.{reaches_row, Lower, LowerTo}
use Rattle.excerpt.specs.Excerpt.{with_operands}
use Rattle.excerpt.proofs.Reaching.{Passed, passed_none, passed_hit, passed_miss, passed_all}

shows_same : (v w : ℕ → Bool) (t : List ℕ) → Shows v 256 t → ((j : ℕ) → v j ≡ w j) → Shows w 256 t
shows_same v w t g e = record { size = g.size; at = λ j h. g.at j h ∙ ap bit (e j) }

-- one flag more
shows_also : (v : ℕ → Bool) (t : List ℕ) (a : ℕ) → a < 256 → Shows v 256 t → Shows (λ j. or (v j) (eqb j a)) 256 (set t a 1)
shows_also v t a h g = record {
  size = length-set t a 1 ∙ g.size;
  at = λ j l.
      by_cases (ℕ_discrete j a)
      (λ (z : j ≡ a). rw z (get_or-set_same t a 1 0 (omega (arith, g.size)) ∙ sym (ap bit (or_r (v a) (self a)))))
      (λ z. get_or-set_other t a j 1 0 z ∙ (g.at j l ∙ ap bit (sym (ap (or (v j)) (ne_eqb j a z) ∙ or_none (v j)))));
}

shows_first : (c : ℕ) → c < 256 → Shows (λ j. eqb j c) 256 (set (replicate 256 0) c 1)
unfolding or
shows_first c h = shows_also (λ j. false) (replicate 256 0) c h (record { size = refl; at = λ j l. get_d_constant {A = ℕ} 0 256 j })

shows_operands : (v : ℕ → Bool) (t : List ℕ) (i : ℕ) (N : ConditionRow) → i < 256 → Lower i N → Shows v 256 t → Shows (λ j. or (v j) (is_operand N j)) 256 (with_operands N t)
unfolding with_operands is_operand Lower
shows_operands v t i FALSE h l g = shows_same v _ t g (λ j. sym (or_none (v j)))
shows_operands v t i TRUE h l g = shows_same v _ t g (λ j. sym (or_none (v j)))
shows_operands v t i (LINK x) h l g = shows_same v _ t g (λ j. sym (or_none (v j)))
shows_operands v t i (OP o a b) h l g = shows_same _ _ _ (shows_also _ (set t a 1) b (omega (arith, l.1)) (shows_also v t a (omega (arith, l.0)) g)) (λ j. or_right (v j) (eqb j a) (eqb j b))

-- the table shows a test by which the rows from i on have been passed
abbrev pub Flagging : List ℕ → ℕ → ℕ → List ℕ → Type 0
Flagging cs c i t = (v : ℕ → Bool) × (Shows v 256 t × Passed (condition_row_at cs) c i v)

module _ (cs : List ℕ) (c : ℕ) (lower : LowerTo cs (c + 1)) (small : c < 256) where
  abbrev inside : c < c + 1
  inside = omega arith

  pub flagging_none : Flagging cs c (c + 1) (set (replicate 256 0) c 1)
  flagging_none = (λ j. eqb j c, (shows_first c small, passed_none (condition_row_at cs) (c + 1) lower c inside))

  module _ (i : ℕ) (t : List ℕ) (h : i < c + 1) (w : Flagging cs c (i + 1) t) where
    pub flagging_hit : get_or t i 0 ≡ 1 → Flagging cs c i (with_operands (condition_row_at cs i) t)
    flagging_hit e =
        let (v, (g, p)) = w in
        let yes : v i ≡ true = sym (shown v 256 t g i (omega arith)) ∙ eq-eqb _ 1 e in
        (λ j. or (v j) (is_operand (condition_row_at cs i) j), (shows_operands v t i (condition_row_at cs i) (omega arith) (lower i h) g, passed_hit (condition_row_at cs) (c + 1) lower c inside i v p h yes))

    pub flagging_miss : (get_or t i 0 ≡ 1 → ⊥) → Flagging cs c i t
    flagging_miss e =
        let (v, (g, p)) = w in
        (v, (g, passed_miss (condition_row_at cs) (c + 1) lower c inside i v p (sym (shown v 256 t g i (omega arith)) ∙ ne_eqb _ 1 e)))

  pub flagging_all : (t : List ℕ) → Flagging cs c 0 t → Shows (reaches_row (condition_row_at cs) c) 256 t
  flagging_all t (v, (g, p)) = shows_same v _ t g (passed_all (condition_row_at cs) (c + 1) lower c inside v p)
