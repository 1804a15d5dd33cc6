-- The verdict by its number and values, and that a failure comes with an offending pair. Assumes nothing.
use Rattle.sheet.specs.declared.Refusal.{Refusal}
use Rattle.std.specs.Prelude.{Result, Ok, Err}
use Prim.Native.Nat.{ℕ}
use mathlib.Core.Path.{◌≡◌, refl, sym, ◌∙◌, ap}
use mathlib.Core.Logic.{◌↔◌}
use native.Mathlib.Omega.{arith}
use Rattle.conditions.specs.Conditions.{Condition, condition}
use Rattle.conditions.proofs.Numbers.{links_inside}
use Rattle.conditions.proofs.Failure.{Pair, offends_fails, condition_pair}
use Rattle.sheet.specs.Table.{Table, condition_row_at, evaluation_of, eval_in}
use Rattle.sheet.specs.Rules.{refusal_of}
use Rattle.sheet.proofs.Accepted.{meets, well_formed}
use Rattle.failure.specs.Failure.{links_at}
use Rattle.verdict.specs.Verdict.{verdict_of}
use Rattle.verdict.specs.declared.Verdict.{Verdict}
use Rattle.verdict.specs.declared.Verdict.TheVariants.{Pass, Fail}
use Rattle.sheet_engine.specs.Answers.{verdict_answer}
use Rattle.sheet_engine.specs.Values.{verdict_values, FailsAt}
use Rattle.sheet_engine.proofs.Calls.{verdict_given}
use Rattle.sheet_engine.proofs.Promises.{refusal_answered}
use Rattle.promises.specs.Calls.{Passes, Fails}

abbrev fails_in : Result Verdict Refusal → ℕ
fails_in a = (verdict_values a).fails

verdict_passes : (v : Verdict) → fails_in (Ok v) ≡ 0 → v ≡ Pass
verdict_passes Pass e = refl
verdict_passes (Fail row number link) e = absurd (omega (arith, e))

is_fail : (a : Result Verdict Refusal) → fails_in a ≡ 1 → (j : ℕ) × (x : ℕ) × (l : ℕ) × (a ≡ Ok (Fail j x l))
is_fail (Ok Pass) e = absurd (omega (arith, e))
is_fail (Ok (Fail row number link)) e = (row, number, link, refl)
is_fail (Err r) e = absurd (omega (arith, e))

pub pass_told : (t : Table) → Passes t ↔ (verdict_answer t ≡ Ok Pass)
pass_told t = (
  λ (accepted, passes).
      let g = verdict_given t (refusal_of t) refl (sym (refusal_answered t).0 ∙ accepted) (verdict_of t) refl in
      sym g ∙ ap Ok (verdict_passes (verdict_of t) (ap fails_in g ∙ passes)),
  λ v. (ap (λ (a : Result Verdict Refusal). (verdict_values a).refusal) v, ap fails_in v),
)

pub fail_told : (t : Table) → Fails t ↔ ((j : ℕ) × (x : ℕ) × (l : ℕ) × (verdict_answer t ≡ Ok (Fail j x l)))
fail_told t = (is_fail (verdict_answer t), λ (j, x, l, v). ap fails_in v)

pub offending : (t : Table) → (refusal_of t).number ≡ 0 → {j x l : ℕ} (f : FailsAt t j x l) → Pair (eval_in t f.condition)
offending t e {j} {x} {l} f =
    let w = well_formed t (meets t e) in
    let q : ℕ = f.condition in
    let c : Condition = condition (condition_row_at t.conditions) q in
    (condition_pair (evaluation_of t.evaluation) t.m c (λ k r. w.links q k (w.joins j q f.child f.inside f.row_is_join) r)).0
    (offends_fails (eval_in t q) t.m (links_at t.m t.conditions q) (links_inside t.m c) x l f.offends)
