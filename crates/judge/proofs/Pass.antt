-- The pass over the term rows: what holds once the rows below i are judged, counted and noted. Assumes nothing.
use Prim.Native.Nat.{ℕ, ◌+◌, ◌*◌, ◌<◌, ◌≤◌}
use mathlib.Core.Path.{◌≡◌, ◌∙◌}
use mathlib.Core.Bool.{true}
use mathlib.Core.List.{List}
use native.Mathlib.Omega.{arith}
use lib.ListN.{get_or}
use Rattle.laws.specs.Checks.{Check, place_of}
use Rattle.laws.proofs.Checks.{place_holds}
use Rattle.sheet.specs.Table.{Table, row_at}
use Rattle.sheet.specs.Rules.{term_ok, terms, tree, from5, from6, from7, no}
use Rattle.judge.specs.declared.Notes.{Notes}
use Rattle.judge.specs.Judge.{AfterConditions, Sound, OneMore, Children, Once, Misnamed, links_noted, AfterRows}
use Rattle.judge.proofs.Chain.{first, fails, holds, holds_all}
use Rattle.judge.proofs.Counts.{sound_none, sound_more, sound_holds, once_none, children_more, named_once, not_named_once, tree_holds, tree_fails}
use Rattle.judge.proofs.Links.{NotedBelow, none_noted, row_noted, all_noted}

pub record Passed (t : Table) (masks : List ℕ) (i : ℕ) (named : List ℕ) (s : Notes) : Type 0 where
  pub sound : Sound t.m t.n t.k t.terms i
  pub children : Children t.terms i named
  pub once : Once t.terms i
  pub noted : NotedBelow t masks i s

pub none_passed : (t : Table) (masks named : List ℕ) → Children t.terms 0 named → Passed t masks 0 named (record { linked = 0; twice = 0; wanted = 0; join = t.n })
none_passed t masks named c = record { sound = sound_none t.m t.n t.k t.terms; children = c; once = once_none t.terms; noted = none_noted t masks }

module _ (t : Table) (masks : List ℕ) (g : AfterConditions t masks) (i : ℕ) (named : List ℕ) (s : Notes) (p : Passed t masks i named s) (low : i < t.n) where
  abbrev few : i < 256
  few = omega (arith, g.lent.few_terms)

  pub row_passed : get_or named i 0 ≡ 1 → term_ok t.terms t.m t.n t.k i ≡ true → (named' : List ℕ) → OneMore named (row_at t.terms i) named' → Passed t masks (i + 1) named' (links_noted s t.n i (get_or t.terms (i * 4) 0) (get_or t.terms (i * 4 + 1) 0) masks)
  row_passed one ok named' more = record {
    sound = sound_more t.m t.n t.k t.terms i p.sound ok;
    children = children_more t.terms i named named' p.children more;
    once = named_once t.terms i named few p.children p.once one;
    noted = row_noted t masks g i low ok s p.noted;
  }

  pub row_misnamed : (get_or named i 0 ≡ 1 → ⊥) → Misnamed t i
  row_misnamed other =
      let d = not_named_once t.terms i named few p.children other in
      record { lent = g.lent; sound = p.sound; once = p.once; low = d.0; high = low; not_once = d.1 }

module _ (t : Table) (masks named : List ℕ) (s : Notes) (p : Passed t masks t.n named s) where
  pub all_passed : AfterConditions t masks → AfterRows t masks s
  all_passed g = all_noted t masks s g p.sound p.noted

  -- 5 and 6 hold
  pub rows_hold : first (from7 t) ≡ first (from5 t)
  rows_hold =
      holds_all (tree t.n t.terms) (from7 t) (tree_holds t.m t.n t.k t.terms p.sound p.once) ∙
      holds_all (terms t.m t.n t.k t.terms) (from6 t) (sound_holds t.m t.n t.k t.terms p.sound)

-- 6 fails at a row, where 5 holds of those after it too
pub misnamed_fails : (t : Table) (i : ℕ) → Misnamed t i → (p : ℕ) → p ≡ place_of (terms t.m t.n t.k t.terms) → t.n ≤ p → no 6 i ≡ first (from5 t)
unfolding Sound
misnamed_fails t i g p e h =
    let c : Check = terms t.m t.n t.k t.terms in
    fails (tree t.n t.terms) (from7 t) i (tree_fails t.m t.n t.k t.terms (λ q a. place_holds c p e h q (omega arith) a) i g.low g.high g.once g.not_once) g.high ∙
    holds c (from6 t) p e h
