-- THE PARTS MAKE THE SMALL SHEET: the condition rows that are kept with FALSE behind them, and the term rows. Assumes nothing.
use Prim.Native.Nat.{ℕ, ◌+◌, ◌-◌, ◌*◌, ◌<◌, ◌≤◌}
use mathlib.Core.Path.{◌≡◌, refl, sym, ◌∙◌, ap, ap₂, subst}
use mathlib.Core.Bool.{Bool, true, false, cond}
use mathlib.Core.List.{List, [], ◌++◌, append-nil}
use native.Mathlib.Omega.{arith}
use lib.ListN.{length, take}
use lib.Seq.{paste, take-take, take_at, length-take-le}
use borrow.Author.Tests.{eqb-true, lt-ltb, le-leb, lt-leb}
use Rattle.laws.specs.Tests.{bit}
use Rattle.laws.specs.Listed.{listed, written}
use Rattle.laws.proofs.Tests.{bit_small}
use Rattle.laws.proofs.Sums.{count_upto}
use Rattle.calculus.specs.Status.{Links}
use Rattle.conditions.specs.Conditions.{condition}
use Rattle.conditions.specs.Numbers.{assign}
use Rattle.conditions.proofs.Numbers.{links_inside}
use Rattle.sheet.specs.declared.Head.{Head}
use Rattle.sheet.specs.Table.{Table, condition_row_at, lazy_of}
use Rattle.sheet.specs.Sheet.{front, sheet_of, size_of}
use Rattle.sheet.specs.Accepted.{WellFormed}
use Rattle.sheet.proofs.Rows.{row_join}
use Rattle.sheet.proofs.Accepted.{meets, well_formed}
use Rattle.layout.specs.Bytes.{four, condition_bytes}
use Rattle.layout.specs.InOrder.{size, in_order}
use Rattle.reach.specs.Masks.{has_bit}
use Rattle.sheet.specs.Rules.{no}
use Rattle.std.specs.Prelude.{Ok}
use Rattle.codec.specs.Answers.{InRange}
use Rattle.codec.proofs.Writing.{sheet_length}
use Rattle.failure.specs.Failure.{link_at}
use Rattle.failure.proofs.Search.{narrow_links, narrow_few}
use Rattle.verdict.proofs.Exactly.{number_offends}
use Rattle.verdict.proofs.Joins.{second_at, join_condition_law}
use Rattle.laying.specs.LaidIn.{LaidIn}
use Rattle.laying.proofs.Laid.{put_size, put_next}
use Rattle.damage.specs.Scene.{any_unset, scene}
use Rattle.damage.specs.Reached.{LowerTo}
use Rattle.damage.specs.Damage.{its_links, offending, named, leaves_unset, is_reached, rank, kept_conditions, damage_conditions, damage_process, damage_head, damage_sheet, condition_at, shown_sheet, showable}
use Rattle.damage.proofs.Reached.{rule_lower, rank_last}
use Rattle.damage.proofs.Scene.{scene_size}
use Rattle.damage.proofs.Kept.{damage_whole}
use Rattle.damage.proofs.Damage.{join_inside}
use Rattle.excerpt.specs.Excerpt.{Excerpts}
use Rattle.showing.specs.Asked.{Asked}
use Rattle.showing.proofs.Answers.{Told, shown_short, shown_given}

-- what is taken of rows with one more behind them
one_more : (b : Bool) (kept : ℕ) (rows row : List ℕ) → kept * 4 + 4 ≤ length rows → length row ≡ 4 → take ((kept + bit b) * 4) (paste rows (kept * 4) row 4) ≡ take (kept * 4) rows ++ cond b row []
one_more true kept rows row room four = put_next rows kept row room four
one_more false kept rows row room four =
    let all : (kept + 0) * 4 ≡ kept * 4 = omega arith in
    ap (λ (j : ℕ). take j (paste rows (kept * 4) row 4)) all ∙
    (sym (take-take (kept * 4) ((kept + 1) * 4) (paste rows (kept * 4) row 4) (omega arith)) ∙
    (ap (take (kept * 4)) (put_next rows kept row room four) ∙
    (take_at (take (kept * 4) rows) row (kept * 4) (length-take-le (kept * 4) rows (omega arith)) ∙ sym (append-nil (take (kept * 4) rows)))))

-- where no link is left unset, no JOIN waits on FALSE
scene_unwaited : (ls : List ℕ) (v : Links) (l c f g : ℕ) (b : Bool) → any_unset v ls ≡ b → (b ≡ true → f ≡ g) → scene ls v l c f ≡ scene ls v l c g
unfolding scene
scene_unwaited ls v l c f g true e h = ap (scene ls v l c) (h refl)
scene_unwaited ls v l c f g false e h = rw e refl

module _ (t : Table) (row mask x l : ℕ) (asked : Asked t row mask x l) where
  abbrev c : ℕ
  c = condition_at t row

  abbrev ls : List ℕ
  ls = listed (has_bit mask) 0 t.m

  links_are : ls ≡ its_links t c
  links_are = narrow_links t.m t.conditions c mask asked.narrow

  lower : LowerTo t.conditions t.k
  lower = rule_lower t.m t.k t.conditions (meets t asked.accepted).rule_4

  abbrev w : WellFormed t
  w = well_formed t (meets t asked.accepted)

  inside : c < t.k
  inside = join_inside t w row asked.inside asked.row_is_join

  -- the row is lent, and its second byte is its condition
  pub row_small : row < 256
  row_small = omega (arith, asked.inside, w.few_terms)

  pub row_lent : row * 4 + 4 ≤ length t.terms
  row_lent = omega (arith, asked.inside, w.terms_lent)

  its_byte : second_at t.terms row ≡ c
  its_byte = sym (join_condition_law t.terms row (eqb-true _ 3 (sym (row_join t.terms row) ∙ asked.row_is_join)))

  pub to_excerpt : (((t.k ≤ 256) × (t.k * 4 ≤ length t.conditions)) × (t.k * 4 ≤ 1028)) × ((second_at t.terms row < t.k) × LowerTo t.conditions t.k)
  to_excerpt = (((w.few_conditions, w.conditions_lent), omega (arith, w.few_conditions)), (omega (arith, its_byte, inside), lower))

  pub link_small : l < 64
  link_small = omega (arith, asked.its_link, links_inside t.m (condition (condition_row_at t.conditions) c) (link_at t.evaluation t.m t.conditions c) (number_offends t c asked.fails).among, w.few_links)

  -- the condition rows that are kept, FALSE behind them
  module _ (kept : ℕ) (rows : List ℕ) (kept-rows : Excerpts t.conditions t.k (second_at t.terms row) kept rows) where
    laid : LaidIn (rank t c t.k) (kept_conditions t c) kept rows
    laid = subst (λ (q : ℕ). LaidIn (rank t q t.k) (kept_conditions t q) kept rows) its_byte (kept-rows t refl refl)

    pub kept_few : (1 ≤ kept) × (kept ≤ 256)
    unfolding rank
    kept_few = (omega (arith, laid.counted, rank_last t c lower inside), omega (arith, laid.counted, count_upto (is_reached t c) t.k, w.few_conditions))

    module _ (v : Links) (values : v ≡ assign ls x) (unset : Bool) (left : unset ≡ any_unset v ls) where
      values_are : v ≡ offending t c
      unfolding offending
      values_are = values ∙ ap₂ assign links_are asked.its_number

      unset_is : unset ≡ leaves_unset t c
      unfolding leaves_unset
      unset_is = left ∙ ap₂ any_unset values_are links_are

      count_is : kept + bit unset ≡ (damage_head t c).k
      unfolding damage_head
      count_is = ap₂ (λ (n : ℕ) (b : Bool). n + bit b) laid.counted unset_is

      -- 15: too many condition rows
      pub too_many : 256 < kept + bit unset → showable t row ≡ false
      unfolding showable
      too_many h = rw (lt-ltb row t.n asked.inside, asked.row_is_join, asked.fails) (lt-leb (damage_head t c).k 256 (omega (arith, count_is)))

      module _ (few : kept + bit unset ≤ 256) where
        is_shown : showable t row ≡ true
        unfolding showable
        is_shown = rw (lt-ltb row t.n asked.inside, asked.row_is_join, asked.fails) (le-leb (damage_head t c).k 256 (omega (arith, count_is)))

        process_is : scene ls v l (kept - 1) (kept + bit unset - 1) ≡ damage_process t c
        unfolding damage_process named
        process_is =
            scene_unwaited ls v l (kept - 1) (kept + bit unset - 1) kept unset (sym left) (λ e. omega (arith, ap bit e)) ∙
            rw (links_are, values_are, asked.its_link) (ap₂ (scene (its_links t c) (offending t c) (link_at t.evaluation t.m t.conditions c)) (omega (arith, laid.counted, rank_last t c lower inside)) laid.counted)

        module _ (long-rows : length rows ≡ 1028) (conditions : List ℕ) (added : conditions ≡ paste rows (kept * 4) (four 0 0 0 0) 4) (n : ℕ) (terms : List ℕ) (shown : LaidIn (size (scene ls v l (kept - 1) (kept + bit unset - 1))) (in_order 0 (scene ls v l (kept - 1) (kept + bit unset - 1))) n terms) (e : ℕ) (by : e ≡ bit (lazy_of t.evaluation)) where
          abbrev head : Head
          head = record { evaluation = e; m = t.m; n = n; k = kept + bit unset }

          room : kept * 4 + 4 ≤ length rows
          room = omega (arith, long-rows, kept_few.1)

          conditions_are : take (4 * (kept + bit unset)) conditions ≡ damage_conditions t c
          unfolding damage_conditions condition_bytes
          conditions_are =
              let four_each : 4 * (kept + bit unset) ≡ (kept + bit unset) * 4 = omega arith in
              ap₂ take four_each added ∙
              (one_more unset kept rows (four 0 0 0 0) room refl ∙ ap₂ (λ (xs : List ℕ) (b : Bool). xs ++ cond b (four 0 0 0 0) []) laid.begins unset_is)

          terms_are : take (4 * n) terms ≡ in_order 0 (damage_process t c)
          terms_are =
              let four_each : 4 * n ≡ n * 4 = omega arith in
              ap (λ (j : ℕ). take j terms) four_each ∙ (shown.begins ∙ ap (in_order 0) process_is)

          n_is : n ≡ size (damage_process t c)
          n_is = shown.counted ∙ ap size process_is

          few_rows : n ≤ 26
          few_rows = omega (arith, shown.counted, scene_size ls v l (kept - 1) (kept + bit unset - 1), narrow_few t.m t.conditions c mask asked.narrow)

          head_is : head ≡ damage_head t c
          unfolding damage_head
          head_is = λ i. record { evaluation = by i; m = t.m; n = n_is i; k = count_is i }

          sheet_is : sheet_of head terms conditions ≡ shown_sheet t row
          unfolding damage_sheet sheet_of
          sheet_is =
              ap₂ (λ (a b : List ℕ). front head ++ (a ++ b)) terms_are conditions_are ∙
              ap₂ (λ (h : Head) (xs : List ℕ). front h ++ xs) head_is (sym (ap₂ ◌++◌ (ap (λ (u : Table). u.terms) (damage_whole t c)) (ap (λ (u : Table). u.conditions) (damage_whole t c))))

          module _ (long : length terms ≡ 104) where
            pub in_range : InRange head terms conditions
            in_range = record {
              few_links = asked.narrow.few_links;
              few_terms = omega (arith, few_rows);
              few_conditions = few;
              terms_lent = omega (arith, few_rows, long);
              conditions_lent = omega (arith, ap length added, put_size rows kept (four 0 0 0 0) room refl, bit_small unset);
            }

            -- what is then answered: 12, or the size
            pub wrote : (lent out : List ℕ) (r : ℕ) → r ≡ size_of head → out ≡ written (sheet_of head terms conditions) lent → (length lent < r → Told t row lent (no 12 r) out) × (r ≤ length lent → Told t row lent (Ok r) out)
            wrote lent out r f g =
                let Long-as = f ∙ (sym (sheet_length head terms conditions in_range.terms_lent in_range.conditions_lent) ∙ ap length sheet_is) in
                let as_written = g ∙ ap (λ (xs : List ℕ). written xs lent) sheet_is in
                (shown_short t row lent is_shown r out Long-as as_written, shown_given t row lent is_shown r out Long-as as_written)
