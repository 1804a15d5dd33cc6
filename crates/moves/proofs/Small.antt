-- (b) Link values stay 0 to 2. Assumes nothing.
use mathlib.Core.Path.{◌≡◌, sym, subst}
use mathlib.Core.Bool.{Bool, true, false}
use mathlib.Core.Logic.{⊎_elim}
use mathlib.Core.Option.{some}
use Prim.Native.Nat.{ℕ, zero, suc, ◌<◌, ◌≤◌}
use native.Mathlib.Omega.{arith}
use lib.ListN.{get_or}
use Rattle.laws.proofs.Tests.{cond_all}
use Rattle.calculus.specs.Process.{act, out, join}
use Rattle.calculus.specs.Places.{sets, Turn, takes, drops, falsifies}
use Rattle.conditions.specs.Numbers.{digit}
use Rattle.steps.specs.Rows.{Row, NIL, PREFIX, BRANCH, first_of}
use Rattle.steps.specs.InFront.{parent_of, right_of, reached}
use Rattle.sheet.specs.Table.{Table}
use Rattle.state.specs.declared.State.{State}
use Rattle.state.specs.State.{pass_of, drop_of, decide_of, set_of}
use Rattle.moves.specs.Steps.{mode_of, marks_of, nodes, remainder_in, turn_at, falsify_from, falsified, is_waiting_pick, other_of, decided_of, own_link, own_of, taken_of, dropped_of, stepped_by, stepped_of}
use Rattle.moves.proofs.Falsify.{set_cases}
use Rattle.moves.proofs.Climb.{climb_induction}
use Rattle.moves.proofs.Moves.{turn_parts}

abbrev pub Small : State → Type 0
Small z = (l : ℕ) → l < 64 → get_or z.links l 0 ≤ 2

small_set : (z : State) (i v : ℕ) → v ≤ 2 → Small z → Small (set_of z i v)
small_set z i v h s l a = ⊎_elim (λ e. subst (λ (x : ℕ). x ≤ 2) (sym e.1) h) (λ e. subst (λ (x : ℕ). x ≤ 2) (sym e) (s l a)) (set_cases z.links i v l)

small_falsify : (f : ℕ → Bool) (i c : ℕ) (z : State) → Small z → Small (falsify_from f i c z)
unfolding falsify_from
small_falsify f i zero z s = s
small_falsify f i (suc c) z s = small_falsify f (suc i) c _ (cond_all Small (f i) (small_set z i 1 (omega arith) s) s)

small_own : (N : Row) (z : State) → Small z → Small (own_of N z)
unfolding own_of own_link digit
small_own NIL z s = s
small_own (PREFIX (act a) c) z s = s
small_own (PREFIX (out l true) c) z s = small_set z l 2 (omega arith) s
small_own (PREFIX (out l false) c) z s = small_set z l 1 (omega arith) s
small_own (PREFIX (join q) c) z s = s
small_own (BRANCH κ p q) z s = s

module _ (t : Table) (s : State) where
  small_falsified : (i : ℕ) (z : State) → Small z → Small (falsified t.terms t.n (marks_of s) i z)
  unfolding falsified
  small_falsified i z h = small_falsify (sets (remainder_in t.terms t.n (marks_of s) i)) 0 64 z h

  small_decided : (j : ℕ) (z : State) → Small z → Small (decided_of t.terms t.n s j z)
  unfolding decided_of
  small_decided j z h =
      let p : ℕ = parent_of (nodes t) j in
      let side : Bool = right_of (nodes t) j in
      cond_all Small (is_waiting_pick (nodes t p) (marks_of s p)) (cond_all Small (falsifies (mode_of s.mode)) (small_falsified (other_of (nodes t p) side) (decide_of z p side) h) h) h

  module _ (r : ℕ) (h : Small s) where
    turn_small : reached (nodes t) (marks_of s) r ≡ true → (u : Turn) → turn_at t s r ≡ some u → Small (stepped_of t s r)
    unfolding stepped_of stepped_by taken_of dropped_of
    turn_small g takes e = rw e (climb_induction t.terms t.n s (λ j z. Small z) (λ j z _ _ _ c. small_decided j z c) r (own_of (nodes t r) (pass_of s r)) g (small_own (nodes t r) (pass_of s r) h))
    turn_small g drops e = rw e (small_falsified (first_of (nodes t r)) (drop_of s r) h)

    pub step_small : (u : Turn) → turn_at t s r ≡ some u → Small (stepped_of t s r)
    step_small u e =
        let (_, g, _) = turn_parts t s r u e in
        turn_small g u e
