-- What is known of a row that is narrow, and its failure from what the searches find. Assumes nothing.
use Prim.Native.Nat.{ℕ, ◌^◌, ◌≤◌}
use mathlib.Core.Path.{◌≡◌, refl, sym, ◌∙◌, ap, ap₂}
use mathlib.Core.Bool.{true, false, not}
use mathlib.Core.List.{List}
use Rattle.std.proofs.Common.{Option, Some, None}
use native.Mathlib.Omega.{arith}
use native.Mathlib.Nat.{pow-le-pow_right}
use lib.ListN.{length}
use borrow.Author.Tests.{not-true}
use Rattle.laws.specs.Lowest.{lowest}
use Rattle.laws.specs.Listed.{listed}
use Rattle.calculus.specs.Status.{Links}
use Rattle.conditions.specs.Conditions.{condition}
use Rattle.conditions.specs.Numbers.{assign}
use Rattle.conditions.specs.Failure.{is_false}
use Rattle.conditions.specs.Total.{steady, passes}
use Rattle.conditions.proofs.Total.{condition_passes, condition_unsteady}
use Rattle.conditions.proofs.Least.{condition_number, condition_link}
use Rattle.sheet.specs.Table.{condition_row_at, evaluation_of, eval_of}
use Rattle.reach.specs.Masks.{has_bit}
use Rattle.reach.proofs.Links.{mask_links, mask_width}
use Rattle.words.specs.declared.Base.{Base}
use Rattle.words.specs.declared.Base.TheVariants.{Two, Three}
use Rattle.words.specs.Words.{base_of}
use Rattle.failure.specs.Blocks.{numbers}
use Rattle.failure.specs.declared.Failure.{Failure}
use Rattle.failure.specs.Failure.{links_at, fails_at, number_at, link_at, failure_of, Narrow}

-- of a row that is narrow
module _ (m : ℕ) (cs : List ℕ) (row mask : ℕ) (g : Narrow m cs row mask) where
  -- the links of the mask are those of the condition
  pub narrow_links : listed (has_bit mask) 0 m ≡ links_at m cs row
  narrow_links = ap (λ (x : ℕ). listed (has_bit x) 0 m) g.its_mask ∙ mask_links cs m row g.few_links

  pub narrow_width : (q : ℕ) → q ≡ length (listed (has_bit mask) 0 64) → q ≡ length (links_at m cs row)
  narrow_width q e = e ∙ ap (λ (x : ℕ). length (listed (has_bit x) 0 64)) g.its_mask ∙ mask_width cs m row g.few_links g.below_m

  -- so few numbers are tried
  pub narrow_numbers : (b : Base) → numbers b m cs row ≤ 6561
  unfolding base_of
  narrow_numbers Two = let h : 2 ^ length (links_at m cs row) ≤ 2 ^ 8 = pow-le-pow_right (omega arith) g.narrow in omega arith
  narrow_numbers Three = let h : 3 ^ length (links_at m cs row) ≤ 3 ^ 8 = pow-le-pow_right (omega arith) g.narrow in omega arith

  pub narrow_few : length (listed (has_bit mask) 0 m) ≤ 8
  narrow_few = rw narrow_links g.narrow

  pub narrow_passes : (e : ℕ) → passes (eval_of e cs row) (links_at m cs row) ≡ not (fails_at e m cs row)
  unfolding fails_at
  narrow_passes e = condition_passes (evaluation_of e) m (condition (condition_row_at cs) row) g.below_m

  pub narrow_unsteady : (e : ℕ) (v : Links) → steady (eval_of e cs row) v ≡ false → fails_at e m cs row ≡ true
  unfolding fails_at
  narrow_unsteady e v q = condition_unsteady (evaluation_of e) m (condition (condition_row_at cs) row) g.below_m v q

  -- the number is the smallest at which the condition is not steady
  pub narrow_number : (e : ℕ) → number_at e m cs row ≡ lowest (λ x. steady (eval_of e cs row) (assign (links_at m cs row) x)) 0 (3 ^ length (links_at m cs row))
  unfolding number_at
  narrow_number e = condition_number (evaluation_of e) m (condition (condition_row_at cs) row) g.below_m

  -- the link is the lowest that is false there
  narrow_link : (e : ℕ) → fails_at e m cs row ≡ true → link_at e m cs row ≡ lowest (λ l. not (is_false (assign (links_at m cs row) (number_at e m cs row) l))) 0 m
  unfolding fails_at number_at link_at
  narrow_link e h = condition_link (evaluation_of e) m (condition (condition_row_at cs) row) g.below_m h

  -- the failure, from what the searches find
  pub failure_at : (e x l : ℕ) → fails_at e m cs row ≡ true → x ≡ number_at e m cs row → l ≡ lowest (λ l. not (is_false (assign (listed (has_bit mask) 0 m) x l))) 0 m → Some (record { number = x; link = l }) ≡ failure_of e m cs row
  unfolding failure_of
  failure_at e x l f p q = rw f (ap₂ found p (q ∙ rw (narrow_links, p) (sym (narrow_link e f))))
    where
      found : ℕ → ℕ → Option Failure
      found n k = Some (record { number = n; link = k })

pub failure_none : (e m : ℕ) (cs : List ℕ) (row : ℕ) → not (fails_at e m cs row) ≡ true → None ≡ failure_of e m cs row
unfolding failure_of
failure_none e m cs row h = rw (not-true (fails_at e m cs row) h) refl
