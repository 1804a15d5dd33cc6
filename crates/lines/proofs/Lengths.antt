-- How long each line is at most, by how many digits its numbers have. Assumes nothing.
use Rattle.std.specs.Prelude.{Ok, Err}
use mathlib.Core.Path.{◌≡◌, refl, ap}
use mathlib.Core.Bool.{Bool, true, false, cond}
use mathlib.Core.List.{List, [], ◌∷◌, ◌++◌, Memᴰ}
use Prim.Native.Nat.{ℕ, suc, ◌+◌, ◌*◌, ◌^◌, ◌≤◌, ◌<◌}
use native.Mathlib.Omega.{arith}
use lib.Dec.{eqb}
use lib.ListN.{length, length-append, length-take, take}
use Rattle.moves.specs.Steps.{Kind}
use Rattle.state.specs.declared.StepKind.TheVariants as kind
use Rattle.verdict.specs.declared.Verdict.TheVariants as verdict
use Rattle.sheet_engine.specs.declared.Stands.{Stands}
use Rattle.sheet_engine.specs.declared.Stands.TheVariants as standing
use Rattle.lines.specs.Lines.{field, fields, feed, refused_word, refused_line, pass_words, fail_words, verdict_line, step_word, act_word, set_word, open_word, clean_word, named_line, step_line, letters, links_word, links_line, enabled_word, waiting_word, finished_word, rows_line, finished_line, wait_field, wait_fields, waiting_line, last_line}
use Rattle.lines.proofs.Decimal.{decimal_short, decimal_digits}

-- at most so many bytes
pub record Short (xs : List ℕ) (n : ℕ) : Type 0 where
  pub is : length xs ≤ n

pub joined : {xs ys : List ℕ} (a b : ℕ) → Short xs a → Short ys b → Short (xs ++ ys) (a + b)
joined {xs} {ys} a b g h = let e = length-append xs ys in record { is = omega (arith, e, g.is, h.is) }

pub within : {xs : List ℕ} (a b : ℕ) → a ≤ b → Short xs a → Short xs b
within a b h g = record { is = omega (arith, h, g.is) }

-- a text that is written out
said : (xs : List ℕ) → Short xs (length xs)
said xs = record { is = omega arith }

field_any : (x : ℕ) → Short (field x) 21
unfolding field
field_any x = let h = decimal_short x in record { is = omega (arith, h) }

field_short : (d x : ℕ) → x < 10 ^ suc d → Short (field x) (suc (suc d))
unfolding field
field_short d x h = let e = decimal_digits d x h in record { is = omega (arith, e) }

-- numbers of three digits
abbrev pub Small : List ℕ → Type 0
Small xs = (x : ℕ) → Memᴰ x xs → x < 1000

fields_short : (xs : List ℕ) → Small xs → Short (fields xs) (4 * length xs)
unfolding fields
fields_short [] h = record { is = omega arith }
fields_short (x ∷ xs) h = within _ _ (omega arith) (joined 4 (4 * length xs) (field_short 2 x (h x (Memᴰ.head refl))) (fields_short xs (λ y m. h y (Memᴰ.tail m))))

-- whatever its number and its place
pub refused_short : (n p : ℕ) → Short (refused_line n p) 50
unfolding refused_line
refused_short n p = joined 7 43 (said refused_word) (joined 21 22 (field_any n) (joined 21 1 (field_any p) (said feed)))

pub pass_short : Short (verdict_line (Ok verdict.Pass)) 13
unfolding verdict_line
pass_short = said (pass_words ++ feed)

pub fail_short : (row number link : ℕ) → row < 1000 → number < 10000 → link < 100 → Short (verdict_line (Ok (verdict.Fail row number link))) 25
unfolding verdict_line
fail_short row number link r n l = joined 12 13 (said fail_words) (joined 4 9 (field_short 2 row r) (joined 5 4 (field_short 3 number n) (joined 3 1 (field_short 1 link l) (said feed))))

-- a step: three digits of an activity, two of a link, and one of the value that it is set to
unfoldable pub Few : Kind → Type 0
Few (Ok (kind.Act a)) = a < 1000
Few (Ok (kind.Set l v)) = (l < 100) × (v < 10)
Few (Ok kind.Open) = Unit {0}
Few (Ok kind.Clean) = Unit {0}
Few (Err e) = ⊥

named_short : (row : ℕ) (word xs : List ℕ) (a b : ℕ) → row < 1000 → Short word a → Short (fields xs) b → Short (named_line row word xs) (4 + (4 + (a + (b + 1))))
unfolding named_line
named_short row word xs a b r g h = joined 4 (4 + (a + (b + 1))) (said step_word) (joined 4 (a + (b + 1)) (field_short 2 row r) (joined a (b + 1) g (joined b 1 h (said feed))))

pub step_short : (row : ℕ) (k : Kind) → row < 1000 → Few k → Short (step_line row k) 18
unfolding step_line Few fields
step_short row (Ok (kind.Act a)) r h = within 17 18 (omega arith) (named_short row act_word (a ∷ []) 4 4 r (said act_word) (joined 4 0 (field_short 2 a h) (said [])))
step_short row (Ok (kind.Set l v)) r h = named_short row set_word (l ∷ (v ∷ [])) 4 5 r (said set_word) (joined 3 2 (field_short 1 l h.0) (joined 2 0 (field_short 0 v h.1) (said [])))
step_short row (Ok kind.Open) r h = within 14 18 (omega arith) (named_short row open_word [] 5 0 r (said open_word) (said []))
step_short row (Ok kind.Clean) r h = within 15 18 (omega arith) (named_short row clean_word [] 6 0 r (said clean_word) (said []))
step_short row (Err e) r h = absurd h

letters_length : (xs : List ℕ) → length (letters xs) ≡ length xs
unfolding letters
letters_length [] = refl
letters_length (x ∷ xs) = ap suc (letters_length xs)

pub links_short : (m : ℕ) (xs : List ℕ) → m ≤ 64 → Short (links_line m xs) 71
unfolding links_line
links_short m xs h = joined 5 66 (said links_word) (joined 65 1 (at (eqb m 0)) (said feed))
  where
    at : (b : Bool) → Short (cond b [] (32 ∷ letters (take m xs))) 65
    at true = record { is = omega arith }
    at false = let e = letters_length (take m xs) in let f = length-take m xs in record { is = omega (arith, e, f, h) }

-- a link of three digits, or none
wait_short : (l : ℕ) → l < 1000 → Short (wait_field l) 4
unfolding wait_field
wait_short l h = at (eqb l 255)
  where
    at : (b : Bool) → Short (cond b (32 ∷ (45 ∷ [])) (field l)) 4
    at true = record { is = omega arith }
    at false = field_short 2 l h

wait_fields_short : (rows links : List ℕ) → Small rows → Small links → Short (wait_fields rows links) (8 * length rows)
unfolding wait_fields
wait_fields_short [] links h k = record { is = omega arith }
wait_fields_short (r ∷ rows) [] h k = record { is = omega arith }
wait_fields_short (r ∷ rows) (l ∷ links) h k =
    let more = wait_fields_short rows links (λ y m. h y (Memᴰ.tail m)) (λ y m. k y (Memᴰ.tail m)) in
    within _ _ (omega arith) (joined 4 (4 + 8 * length rows) (field_short 2 r (h r (Memᴰ.head refl))) (joined 4 (8 * length rows) (wait_short l (k l (Memᴰ.head refl))) more))

-- at most 256 rows, of three digits each
pub record FewRows (xs : List ℕ) : Type 0 where
  pub few : length xs ≤ 256
  pub small : Small xs

rows_short : (word xs : List ℕ) → Short word 7 → FewRows xs → Short (rows_line word xs) 1032
unfolding rows_line
rows_short word xs w h = joined 7 1025 w (joined 1024 1 (within (4 * length xs) 1024 (omega (arith, h.few)) (fields_short xs h.small)) (said feed))

waiting_short : (rows links : List ℕ) → FewRows rows → Small links → Short (waiting_line rows links) 2056
unfolding waiting_line
waiting_short rows links h k = joined 7 2049 (said waiting_word) (joined 2048 1 (within (8 * length rows) 2048 (omega (arith, h.few)) (wait_fields_short rows links h.small k)) (said feed))

pub last_short : (a : Stands) (steps waiting links : List ℕ) → FewRows steps → FewRows waiting → Small links → Short (last_line a steps waiting links) 2056
unfolding last_line finished_line
last_short standing.Enabled steps waiting links s w l = within 1032 2056 (omega arith) (rows_short enabled_word steps (said enabled_word) s)
last_short standing.Finished steps waiting links s w l = within 9 2056 (omega arith) (said (finished_word ++ feed))
last_short (standing.Waiting count) steps waiting links s w l = waiting_short waiting links w l
