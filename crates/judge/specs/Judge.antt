-- What a check may rest on once those before it hold, and what the pass over the term rows notes.
use Rattle.std.specs.Prelude.{ℕ, ◌+◌, ◌*◌, ◌<◌, ◌≤◌, ◌≡◌, Bool, true, cond, List, eqb, ltb, leb, length, get_or, set}
use Rattle.std.specs.Int.Bits.{bit_and, bit_or}
use Rattle.laws.specs.Tests.{or}
use Rattle.laws.specs.Up.{Filled}
use Rattle.laws.specs.Checks.{place_of, Holds}
use Rattle.laws.specs.Listed.{listed}
use Rattle.steps.specs.Rows.{Row}
use Rattle.reach.specs.Masks.{has_bit, link_bit, within, mask_at}
use Rattle.sheet.specs.Table.{Table}
use Rattle.sheet.specs.Rules.{term_ok, same, namings, times_named, sources, conditions, narrow}
use Rattle.judge.specs.declared.Notes.{Notes}

-- 1: the rows are lent
pub record Lent (t : Table) : Type 0 where
  pub some_row : 1 ≤ t.n
  pub few_terms : t.n ≤ 256
  pub few_conditions : t.k ≤ 256
  pub terms_lent : t.n * 4 ≤ length t.terms
  pub conditions_lent : t.k * 4 ≤ length t.conditions

-- 1, 3 and 4 hold, and the masks are made
pub record AfterConditions (t : Table) (masks : List ℕ) : Type 0 where
  pub lent : Lent t
  pub few_links : t.m ≤ 64
  pub masked : Filled 0 (mask_at t.conditions) t.k masks
  pub sound : Holds (conditions t.m t.k t.conditions)

-- 5 holds of the rows below i
unfoldable pub Sound : ℕ → ℕ → ℕ → List ℕ → ℕ → Type 0
Sound m n k ts i = (p : ℕ) → p < i → term_ok ts m n k p ≡ true

-- one more at a key
unfoldable pub bumped : List ℕ → ℕ → List ℕ
bumped t key = set t key (get_or t key 0 + 1)

-- no count is above b
unfoldable pub Few : List ℕ → ℕ → Type 0
Few t b = (j : ℕ) → get_or t j 0 ≤ b

-- one more for each child of a row
pub record OneMore (t : List ℕ) (N : Row) (t' : List ℕ) : Type 0 where
  pub long : length t' ≡ length t
  pub few : (b : ℕ) → Few t b → Few t' (b + 2)
  pub counted : (j : ℕ) → 1 ≤ j → get_or t' j 0 ≡ get_or t j 0 + namings N j

-- how often the rows below i name each row from i on; row 0 counts as named, being the root
pub record Children (ts : List ℕ) (i : ℕ) (t : List ℕ) : Type 0 where
  pub long : length t ≡ 256
  pub few : Few t (2 * i + 1)
  pub counted : (j : ℕ) → i ≤ j → j < 256 → get_or t j 0 ≡ same 0 j + times_named ts i j

-- 6 holds of the rows below i, if no row names itself or one before it
unfoldable pub Once : List ℕ → ℕ → Type 0
Once ts i = (j : ℕ) → 1 ≤ j → j < i → times_named ts j j ≡ 1

-- ... and i is the first row of which it does not
pub record Misnamed (t : Table) (i : ℕ) : Type 0 where
  pub lent : Lent t
  pub sound : Sound t.m t.n t.k t.terms i
  pub once : Once t.terms i
  pub low : 1 ≤ i
  pub high : i < t.n
  pub not_once : times_named t.terms i i ≡ 1 → ⊥

-- an OUT row noted, by its link
unfoldable pub source_noted : Notes → ℕ → Notes
source_noted s l = record { linked = bit_or s.linked (link_bit l); twice = bit_or s.twice (bit_and s.linked (link_bit l)); wanted = s.wanted; join = s.join }

-- the lowest JOIN row so far whose condition reaches more than 8 links, n where there is none, once this JOIN row is noted by its mask
unfoldable pub wide_noted : ℕ → ℕ → ℕ → ℕ → ℕ
wide_noted join n row mask = cond (or (leb (length (listed (has_bit mask) 0 64)) 8) (ltb join n)) join row

-- a JOIN row noted, by the links that its condition reaches
unfoldable pub join_noted : Notes → ℕ → ℕ → ℕ → Notes
join_noted s n row mask = record { linked = s.linked; twice = s.twice; wanted = bit_or s.wanted mask; join = wide_noted s.join n row mask }

-- a row noted, by its kind and first byte
unfoldable pub links_noted : Notes → ℕ → ℕ → ℕ → ℕ → List ℕ → Notes
links_noted s n row kind a masks = cond (eqb kind 2) (source_noted s a) (cond (eqb kind 3) (join_noted s n row (get_or masks a 0)) s)

-- every link that a row wants is in a mask, by the row's kind and first byte, of a sheet that was never compacted: a JOIN wants those that its condition reaches
unfoldable pub wants_within : ℕ → ℕ → List ℕ → ℕ → Bool
wants_within kind a masks links = cond (eqb kind 3) (within (get_or masks a 0) links) true

unfoldable pub row_within : List ℕ → List ℕ → ℕ → ℕ → Bool
row_within ts masks links j = wants_within (get_or ts (j * 4) 0) (get_or ts (j * 4 + 1) 0) masks links

-- ... of each row below i
abbrev pub Wanted : List ℕ → List ℕ → ℕ → ℕ → Type 0
Wanted ts masks i links = (j : ℕ) → j < i → row_within ts masks links j ≡ true

-- 1 and 3 to 5 hold, the masks are made, and every row is noted
pub record AfterRows (t : Table) (masks : List ℕ) (s : Notes) : Type 0 where
  pub conditions : AfterConditions t masks
  pub sound : Sound t.m t.n t.k t.terms t.n
  pub linked : (l : ℕ) → l < 64 → has_bit s.linked l ≡ leb 1 (sources t.terms t.n l)
  pub doubled : (l : ℕ) → l < 64 → has_bit s.twice l ≡ leb 2 (sources t.terms t.n l)
  pub wanted : Wanted t.terms masks t.n s.wanted
  pub joined : s.join ≡ place_of (narrow t.m t.n t.terms t.conditions)
