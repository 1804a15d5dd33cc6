-- States that are alike in the calculus list the same steps, cleaning steps apart. Assumes nothing.
use Rattle.std.specs.Prelude.{Ok}
use mathlib.Core.Path.{◌≡◌, sym, ap, ◌∙◌, subst}
use mathlib.Core.Bool.{true, true≢false}
use Prim.Native.Nat.{ℕ}
use Rattle.calculus.specs.Process.{Prefix}
use Rattle.calculus.specs.Status.{Value, Links}
use Rattle.calculus.specs.Plain.{Label, step, clean}
use Rattle.calculus.specs.Places.{takes, drops, Mode, plain, cleaning, cleans, Move, move, label}
use Rattle.calculus.specs.Runs.{Lists, Alike as Similar}
use Rattle.calculus.specs.Rows.{row_of}
use Rattle.sheet.specs.Table.{Table, eval_in}
use Rattle.sheet.specs.Accepted.{WellFormed}
use Rattle.state.specs.declared.State.{State}
use Rattle.state.specs.declared.StepKind.TheVariants.{Clean}
use Rattle.moves.specs.Steps.{mode_of, links_of, Sized, left_in, kind_of, kind_in, kind_at, has_step}
use Rattle.moves.specs.Runs.{Alike}
use Rattle.moves.proofs.Moves.{not_clean, step_move, move_step}

module _ (t : Table) (w : WellFormed t) where
  abbrev eval : ℕ → Links → Value
  eval = eval_in t

  module _ (s : State) (size : Sized s) (r : ℕ) where
    -- a step that is listed and no cleaning
    has_lists : has_step t s r ≡ true → (kind_at t s r ≡ Ok Clean → ⊥) → (π : Prefix) × (kind_at t s r ≡ kind_of π) × Lists eval (mode_of s.mode) (left_in t s) (links_of s) (step r π)
    unfolding kind_in row_of
    has_lists h n = let (α, p, q, (y, a, _, _)) = step_move t w s size r h in at α p q y a
      where
        at : (α : Label) → row_of α ≡ r → kind_in α ≡ kind_at t s r → (y : Move eval (mode_of s.mode) (left_in t s) (links_of s)) → label eval y ≡ α → (π : Prefix) × (kind_at t s r ≡ kind_of π) × Lists eval (mode_of s.mode) (left_in t s) (links_of s) (step r π)
        at (step k π) p q y a = (π, sym q, (y, a ∙ ap (λ (k : ℕ). step k π) p))
        at (clean k) p q y a = absurd (n (sym q))

    lists_has : (π : Prefix) → Lists eval (mode_of s.mode) (left_in t s) (links_of s) (step r π) → (has_step t s r ≡ true) × (kind_at t s r ≡ kind_of π)
    unfolding kind_in row_of
    lists_has π (y, a) =
        let l = move_step t w s size y in
        subst (λ (α : Label). (has_step t s (row_of α) ≡ true) × (kind_at t s (row_of α) ≡ kind_in α)) a (l.there, l.kind)

    plain_kind : mode_of s.mode ≡ plain → has_step t s r ≡ true → kind_at t s r ≡ Ok Clean → ⊥
    unfolding kind_in cleans
    plain_kind e h c = let (α, p, q, (y, a, _, _)) = step_move t w s size r h in at y (ap kind_in a ∙ (q ∙ c))
      where
        at : (y : Move eval (mode_of s.mode) (left_in t s) (links_of s)) → kind_in (label eval y) ≡ Ok Clean → ⊥
        at (move takes x a o) f = not_clean _ f
        at (move drops x a o) f = true≢false (sym a ∙ ap cleans e)

  -- states alike in the calculus are alike
  pub similar_alike : (s z : State) → Sized s → Sized z → mode_of s.mode ≡ plain → mode_of z.mode ≡ cleaning → Similar eval cleaning (left_in t s) (links_of s) (left_in t z) (links_of z) → Alike t s z
  similar_alike s z hs hz es ez (al, less) = record {
    same_steps = λ r. (
      λ h. let (k, h') = forth r h in (h', λ c. plain_kind s hs r es h (k ∙ c)),
      λ c.
          let (π, k, l) = has_lists z hz r c.0 c.1 in
          (lists_has s hs r π (subst (λ (m : Mode). Lists eval m (left_in t s) (links_of s) (step r π)) (sym es) ((al r π).1 (subst (λ (m : Mode). Lists eval m (left_in t z) (links_of z) (step r π)) ez l)))).0,
    );
    same_kinds = λ r h. (forth r h).0;
    below = less;
  }
    where
      forth : (r : ℕ) → has_step t s r ≡ true → (kind_at t s r ≡ kind_at t z r) × (has_step t z r ≡ true)
      forth r h =
          let (π, k, l) = has_lists s hs r h (plain_kind s hs r es h) in
          let (h', k') = lists_has z hz r π (subst (λ (m : Mode). Lists eval m (left_in t z) (links_of z) (step r π)) (sym ez) ((al r π).0 (subst (λ (m : Mode). Lists eval m (left_in t s) (links_of s) (step r π)) es l))) in
          (k ∙ sym k', h')
