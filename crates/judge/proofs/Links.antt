-- What the pass over the term rows has noted of OUT rows and JOIN rows, and checks 7 and 8 from it; 13 is in `Wanted`. Assumes nothing.
use Prim.Native.Nat.{ℕ, zero, suc, ◌+◌, ◌*◌, ◌<◌, ◌≤◌}
use mathlib.Core.Path.{◌≡◌, refl, sym, ◌∙◌, ap}
use mathlib.Core.Bool.{Bool, true, false, cond, not, ◌&&◌}
use mathlib.Core.List.{List}
use mathlib.Core.Logic.{⊎_elim}
use native.Mathlib.Omega.{arith}
use lib.Bits.{bit_and, bit_or}
use lib.Count.{count_trailing_zeros}
use lib.Dec.{eqb, leb}
use lib.ListN.{length, get_or}
use borrow.Author.Tests.{eqb-true, ltb-true, ltb-false, le-leb, lt-leb}
use Rattle.laws.specs.Sums.{count, sum}
use Rattle.laws.specs.Tests.{or}
use Rattle.laws.specs.Checks.{Check, place_of, Holds}
use Rattle.laws.specs.Listed.{listed}
use Rattle.laws.proofs.Sums.{sum_more}
use Rattle.laws.proofs.Tests.{or_true, or_false, cond_cases}
use Rattle.laws.proofs.Up.{filled_at}
use Rattle.laws.proofs.Lowest.{lowest_below, lowest_at}
use Rattle.laws.proofs.Checks.{place_is, Noted, noted_none, noted_more, noted_before, noted_here, noted_end}
use Rattle.calculus.specs.Places.{own}
use Rattle.steps.specs.Rows.{is_source}
use Rattle.conditions.specs.Conditions.{link, reached}
use Rattle.reach.specs.Masks.{has_bit, link_bit, mask_of, mask_at}
use Rattle.reach.proofs.Bits.{bit_or_law, bit_and_law, bit_none, trailing_lowest}
use Rattle.reach.proofs.Links.{mask_reached, mask_width}
use Rattle.sheet.specs.Table.{Table, row_by, row_at}
use Rattle.sheet.specs.Rules.{term_ok, sources, few_links_rule, one_source, narrow}
use Rattle.sheet.proofs.Rows.{row_no_source, join_below, join_asked}
use Rattle.sheet.proofs.Accepted.{links_below}
use Rattle.judge.specs.declared.Notes.{Notes}
use Rattle.judge.specs.Judge.{AfterConditions, Sound, source_noted, wide_noted, join_noted, links_noted, Wanted, AfterRows}
use Rattle.judge.proofs.Wanted.{wanted_other, wanted_join}

-- 7: one OUT row more, or none
counted : (c : ℕ) (s : Bool) → (or (leb 1 c) s ≡ leb 1 (c + cond s 1 0)) × (or (leb 2 c) (leb 1 c && s) ≡ leb 2 (c + cond s 1 0))
unfolding or
counted zero true = (refl, refl)
counted zero false = (refl, refl)
counted (suc zero) true = (refl, refl)
counted (suc zero) false = (refl, refl)
counted (suc (suc c)) s = rw (le-leb 1 (suc (suc c)) (omega arith), le-leb 2 (suc (suc c)) (omega arith), le-leb 1 (suc (suc c) + cond s 1 0) (omega arith), le-leb 2 (suc (suc c) + cond s 1 0) (omega arith)) (refl, refl)

-- the links that an OUT row below i sets, and those that two set
unfoldable pub Linked : List ℕ → ℕ → ℕ → ℕ → Type 0
Linked ts i linked twice = (l : ℕ) → l < 64 → (has_bit linked l ≡ leb 1 (sources ts i l)) × (has_bit twice l ≡ leb 2 (sources ts i l))

linked_none : (ts : List ℕ) → Linked ts 0 0 0
unfolding Linked sources count sum
linked_none ts l h = (bit_none l, bit_none l)

module _ (ts : List ℕ) (i linked twice : ℕ) (g : Linked ts i linked twice) where
  sources_more : (l : ℕ) → sources ts (i + 1) l ≡ sources ts i l + cond (is_source (row_at ts i) l) 1 0
  unfolding sources count
  sources_more l = sum_more (λ i. cond (is_source (row_at ts i) l) 1 0) i

  linked_more : (a : ℕ) → ((l : ℕ) → is_source (row_at ts i) l ≡ eqb l a) → Linked ts (i + 1) (bit_or linked (link_bit a)) (bit_or twice (bit_and linked (link_bit a)))
  unfolding Linked mask_of reached
  linked_more a is l h =
      let b : has_bit (link_bit a) l ≡ eqb l a = mask_reached (link a) l h in
      let c : ℕ = sources ts i l in
      rw (sources_more l, is l, bit_or_law linked (link_bit a) l, bit_or_law twice (bit_and linked (link_bit a)) l, bit_and_law linked (link_bit a) l, b, (g l h).0, (g l h).1) (counted c (eqb l a))

  linked_same : ((l : ℕ) → is_source (row_at ts i) l ≡ false) → Linked ts (i + 1) linked twice
  unfolding Linked
  linked_same none l h = let e : sources ts i l + 0 ≡ sources ts i l = omega arith in rw (sources_more l, none l, e) (g l h)

-- what a row sets, by its kind
module _ (ts : List ℕ) (i : ℕ) where
  source_is : eqb (get_or ts (i * 4) 0) 2 ≡ true → (l : ℕ) → is_source (row_at ts i) l ≡ eqb l (get_or ts (i * 4 + 1) 0)
  unfolding row_at row_by is_source own
  source_is e l = rw (eqb-true (get_or ts (i * 4) 0) 2 e) refl

  source_not : eqb (get_or ts (i * 4) 0) 2 ≡ false → (l : ℕ) → is_source (row_at ts i) l ≡ false
  unfolding row_at
  source_not e l = row_no_source (get_or ts (i * 4) 0) _ _ _ l e

-- 7, from the links that two OUT rows set
module _ (m n : ℕ) (ts : List ℕ) (twice : ℕ) (few : m ≤ 64) (doubled : (l : ℕ) → l < 64 → has_bit twice l ≡ leb 2 (sources ts n l)) where
  few_or_two : (c : ℕ) → leb c 1 ≡ not (leb 2 c)
  few_or_two zero = refl
  few_or_two (suc zero) = refl
  few_or_two (suc (suc c)) = rw (lt-leb (suc (suc c)) 1 (omega arith), le-leb 2 (suc (suc c)) (omega arith))

  source_rule : (l : ℕ) → l < 64 → leb (sources ts n l) 1 ≡ not (has_bit twice l)
  source_rule l h = few_or_two (sources ts n l) ∙ ap not (sym (doubled l h))

  single_below : (l : ℕ) → l < m → l < count_trailing_zeros 64 twice → leb (sources ts n l) 1 ≡ true
  single_below l h k = source_rule l (omega arith) ∙ lowest_below (λ j. not (has_bit twice j)) 0 64 l (omega arith) (rw (← trailing_lowest 64 twice) k)

  pub sources_hold : m ≤ count_trailing_zeros 64 twice → Holds (one_source m n ts)
  sources_hold h l low high = single_below l high (omega arith)

  pub sources_fail : count_trailing_zeros 64 twice < m → count_trailing_zeros 64 twice ≡ place_of (one_source m n ts)
  sources_fail h =
      place_is (one_source m n ts) (count_trailing_zeros 64 twice) (omega arith) (λ l a b. single_below l (omega arith) b) h
      (source_rule (count_trailing_zeros 64 twice) (omega arith) ∙ rw (trailing_lowest 64 twice) (lowest_at (λ j. not (has_bit twice j)) 0 64 (rw (← trailing_lowest 64 twice) (omega arith))))

-- 8, by the mask
mask_few : (t : Table) (masks : List ℕ) → AfterConditions t masks → (q : ℕ) → q < t.k → leb (length (listed (has_bit (get_or masks q 0)) 0 64)) 8 ≡ few_links_rule t.m t.conditions q
unfolding few_links_rule
mask_few t masks g q h = rw (filled_at 0 (mask_at t.conditions) t.k masks q g.masked h, mask_width t.conditions t.m q g.few_links (λ l r. links_below t.m t.k t.conditions g.sound q l h r)) refl

-- what is noted once the rows below i are
pub record NotedBelow (t : Table) (masks : List ℕ) (i : ℕ) (s : Notes) : Type 0 where
  pub linked : Linked t.terms i s.linked s.twice
  pub wanted : Wanted t.terms masks i s.wanted
  pub joined : Noted (narrow t.m t.n t.terms t.conditions) i s.join

pub none_noted : (t : Table) (masks : List ℕ) → NotedBelow t masks 0 (record { linked = 0; twice = 0; wanted = 0; join = t.n })
none_noted t masks = record { linked = linked_none t.terms; wanted = λ j h. absurd (omega arith); joined = noted_none (narrow t.m t.n t.terms t.conditions) }

module _ (t : Table) (masks : List ℕ) (g : AfterConditions t masks) (i : ℕ) (low : i < t.n) (ok : term_ok t.terms t.m t.n t.k i ≡ true) (s : Notes) (b : NotedBelow t masks i s) where
  abbrev kind : ℕ
  kind = get_or t.terms (i * 4) 0

  abbrev byte : ℕ
  byte = get_or t.terms (i * 4 + 1) 0

  abbrev narrows : Check
  narrows = narrow t.m t.n t.terms t.conditions

  -- the row is no OUT row, or no JOIN row
  none_linked : eqb kind 2 ≡ false → Linked t.terms (i + 1) s.linked s.twice
  none_linked two = linked_same t.terms i s.linked s.twice b.linked (source_not t.terms i two)

  none_wanted : eqb kind 3 ≡ false → Wanted t.terms masks (i + 1) s.wanted
  none_wanted = wanted_other t.terms masks i s.wanted b.wanted

  none_joined : eqb kind 3 ≡ false → Noted narrows (i + 1) s.join
  none_joined three = noted_more narrows i s.join b.joined low (rw (join_asked (few_links_rule t.m t.conditions) t.terms i, three))

  -- 8 of a JOIN row, by its mask
  few_noted : eqb kind 3 ≡ true → leb (length (listed (has_bit (get_or masks byte 0)) 0 64)) 8 ≡ narrows.rule i
  few_noted three = rw (join_asked (few_links_rule t.m t.conditions) t.terms i, three) (mask_few t masks g byte (join_below t.terms t.m t.n t.k i ok (eqb-true kind 3 three)))

  source_noted_law : eqb kind 2 ≡ true → NotedBelow t masks (i + 1) (source_noted s byte)
  unfolding source_noted
  source_noted_law two =
      let three : eqb kind 3 ≡ false = rw (eqb-true kind 2 two) refl in
      record {
        linked = linked_more t.terms i s.linked s.twice b.linked byte (source_is t.terms i two);
        wanted = none_wanted three;
        joined = none_joined three;
      }

  join_noted_law : eqb kind 2 ≡ false → eqb kind 3 ≡ true → NotedBelow t masks (i + 1) (join_noted s t.n i (get_or masks byte 0))
  unfolding join_noted wide_noted
  join_noted_law two three =
      record {
        linked = none_linked two;
        wanted = wanted_join t.terms masks i s.wanted b.wanted three;
        joined = cond_cases (Noted narrows (i + 1)) _
            (λ e. ⊎_elim (λ k. noted_more narrows i s.join b.joined low (sym (few_noted three) ∙ k)) (λ k. noted_before narrows i s.join b.joined (ltb-true _ _ k)) (or_true e))
            (λ e. noted_here narrows i s.join b.joined (ltb-false _ _ (or_false e).1) low (sym (few_noted three) ∙ (or_false e).0));
      }

  pub row_noted : NotedBelow t masks (i + 1) (links_noted s t.n i kind byte masks)
  unfolding links_noted
  row_noted =
      cond_cases (NotedBelow t masks (i + 1)) _ source_noted_law
      (λ two. cond_cases (NotedBelow t masks (i + 1)) _ (join_noted_law two) (λ three. record { linked = none_linked two; wanted = none_wanted three; joined = none_joined three }))

pub all_noted : (t : Table) (masks : List ℕ) (s : Notes) → AfterConditions t masks → Sound t.m t.n t.k t.terms t.n → NotedBelow t masks t.n s → AfterRows t masks s
unfolding Linked
all_noted t masks s g sound b = record { conditions = g; sound = sound; linked = λ l h. (b.linked l h).0; doubled = λ l h. (b.linked l h).1; wanted = b.wanted; joined = noted_end _ t.n s.join b.joined refl }
