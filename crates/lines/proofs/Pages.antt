-- Bytes added to a page one after another, and the page on which all find room. Assumes nothing.
use mathlib.Core.Path.{◌≡◌, refl, sym, ap, subst, ◌∙◌}
use mathlib.Core.Bool.{Bool, true, false, cond}
use mathlib.Core.List.{List, [], ◌∷◌, ◌++◌}
use Prim.Native.Nat.{ℕ, suc, ◌+◌, ◌≤◌, ◌<◌}
use native.Mathlib.Omega.{arith}
use native.Mathlib.Numerals.{add-one}
use lib.Dec.{ltb}
use lib.ListN.{length, set, length-set, drop, take, drop_of_length-le, get_or}
use lib.Seq.{drop-cons, sets, sets-eq}
use borrow.Author.Tests.{lt-ltb, le-ltb, le-leb, ne_eqb}
use Rattle.laws.specs.Listed.{written}
use Rattle.lines.specs.declared.Page as lent
use Rattle.lines.specs.Page.{Page, page, more, added, page_of, Puts}
use Rattle.lines.specs.Lines.{field, fields, feed, letter, letters, links_word, links_line, wait_field, wait_fields}

pub added_append : (p : Page) (xs ys : List ℕ) → added (added p xs) ys ≡ added p (xs ++ ys)
unfolding added
added_append p [] ys = refl
added_append p (x ∷ xs) ys = added_append (more p x) xs ys

-- xs, and then ys
pub then : {p q r : lent.Page} {xs ys : List ℕ} → Puts p q xs → Puts q r ys → Puts p r (xs ++ ys)
then {p} {q} {r} {xs} {ys} e f = record {
  same = f.same ∙ e.same;
  put = f.put ∙ ap (λ (z : Page). added z ys) e.put ∙ added_append (page_of p) xs ys;
}

-- the same bytes, said in other words
pub puts_as : {p q : lent.Page} {xs ys : List ℕ} → Puts p q xs → xs ≡ ys → Puts p q ys
puts_as {p} {q} e f = subst (Puts p q) f e

pub more_room : (b : List ℕ) (e x : ℕ) → e < length b → page (set b e x) (e + 1) ≡ added (page b e) (x ∷ [])
unfolding more added
more_room b e x h = rw (lt-ltb e (length b) h)

pub more_full : (b : List ℕ) (e x : ℕ) → length b ≤ e → page b e ≡ added (page b e) (x ∷ [])
unfolding more added
more_full b e x h = rw (le-ltb e (length b) h)

more_length : (p : Page) (x : ℕ) → length (more p x).bytes ≡ length p.bytes
unfolding more
more_length p x = at (ltb p.end (length p.bytes))
  where
    at : (b : Bool) → length (cond b (page (set p.bytes p.end x) (p.end + 1)) p).bytes ≡ length p.bytes
    at true = length-set p.bytes p.end x
    at false = refl

added_length : (p : Page) (xs : List ℕ) → length (added p xs).bytes ≡ length p.bytes
unfolding added
added_length p [] = refl
added_length p (x ∷ xs) = added_length (more p x) xs ∙ more_length p x

pub kept_length : (b₀ b : List ℕ) (e₀ e : ℕ) (xs : List ℕ) → page b e ≡ added (page b₀ e₀) xs → length b ≡ length b₀
kept_length b₀ b e₀ e xs h = ap (λ (p : Page). length p.bytes) h ∙ added_length (page b₀ e₀) xs

-- a text that is put a piece a turn: what is left, added to what is there, gives the whole
pub record Putting (p : lent.Page) (xs : List ℕ) (q : lent.Page) (ys : List ℕ) : Type 0 where
  pub same : q.out.ghost_name ≡ p.out.ghost_name
  pub rest : added (page_of q) ys ≡ added (page_of p) xs

pub none_put : (p : lent.Page) (xs : List ℕ) → Putting p xs p xs
none_put p xs = record { same = refl; rest = refl }

pub more_put : {p q r : lent.Page} {xs us vs zs : List ℕ} → Putting p xs q zs → zs ≡ us ++ vs → Puts q r us → Putting p xs r vs
more_put {p} {q} {r} {xs} {us} {vs} a s h = record {
  same = h.same ∙ a.same;
  rest = ap (λ (z : Page). added z vs) h.put ∙ added_append (page_of q) us vs ∙ ap (added (page_of q)) (sym s) ∙ a.rest;
}

pub all_put : {p q r : lent.Page} {xs ys : List ℕ} → Putting p xs q ys → Puts q r ys → Puts p r xs
all_put a e = record { same = e.same ∙ a.same; put = e.put ∙ a.rest }

pub nothing_put : (p : lent.Page) → Puts p p []
unfolding added
nothing_put p = record { same = refl; put = refl }

pub end_put : {p q : lent.Page} {xs ys : List ℕ} → Putting p xs q ys → ys ≡ [] → Puts p q xs
end_put {p} {q} a s = all_put a (puts_as (nothing_put q) (sym s))

-- the next of a list
pub next : (xs : List ℕ) (i : ℕ) → i < length xs → drop i xs ≡ (get_or xs i 0 ∷ []) ++ drop (i + 1) xs
next xs i h = drop-cons xs i 0 h ∙ ap (λ (j : ℕ). get_or xs i 0 ∷ drop j xs) (sym (add-one i))

-- what is left of a list's letters, and of its fields
pub letters_next : (xs : List ℕ) (i : ℕ) → i < length xs → letters (drop i xs) ≡ (letter (get_or xs i 0) ∷ []) ++ letters (drop (i + 1) xs)
unfolding letters
letters_next xs i h = ap letters (next xs i h)

pub fields_next : (xs : List ℕ) (i : ℕ) → i < length xs → fields (drop i xs) ≡ field (get_or xs i 0) ++ fields (drop (i + 1) xs)
unfolding fields
fields_next xs i h = ap fields (next xs i h)

pub letters_end : (xs : List ℕ) (i : ℕ) → length xs ≤ i → letters (drop i xs) ≡ []
unfolding letters
letters_end xs i h = ap letters (drop_of_length-le xs h)

pub fields_end : (xs : List ℕ) (i : ℕ) → length xs ≤ i → fields (drop i xs) ≡ []
unfolding fields
fields_end xs i h = ap fields (drop_of_length-le xs h)

-- what is left of rows and of what each waits for
pub waits_next : (rows links : List ℕ) (i : ℕ) → i < length rows → i < length links → wait_fields (drop i rows) (drop i links) ≡ field (get_or rows i 0) ++ (wait_field (get_or links i 0) ++ wait_fields (drop (i + 1) rows) (drop (i + 1) links))
unfolding wait_fields
waits_next rows links i h k = ap (λ (xs : List ℕ). wait_fields xs (drop i links)) (next rows i h) ∙ ap (wait_fields (get_or rows i 0 ∷ drop (i + 1) rows)) (next links i k)

pub waits_end : (rows links : List ℕ) (i : ℕ) → length rows ≤ i → wait_fields (drop i rows) (drop i links) ≡ []
unfolding wait_fields
waits_end rows links i h = ap (λ (xs : List ℕ). wait_fields xs (drop i links)) (drop_of_length-le rows h)

pub wait_false : (l : ℕ) → l ≡ 255 → wait_field l ≡ 32 ∷ (45 ∷ [])
unfolding wait_field
wait_false l h = rw h

pub wait_link : (l : ℕ) → (l ≡ 255 → ⊥) → wait_field l ≡ field l
unfolding wait_field
wait_link l h = rw (ne_eqb l 255 h)

pub links_none : (m : ℕ) (xs : List ℕ) → m ≡ 0 → links_line m xs ≡ links_word ++ feed
unfolding links_line
links_none m xs h = rw h

pub links_some : (m : ℕ) (xs : List ℕ) → (m ≡ 0 → ⊥) → links_line m xs ≡ links_word ++ ((32 ∷ letters (take m xs)) ++ feed)
unfolding links_line
links_some m xs h = rw (ne_eqb m 0 h)

-- where there is room, every byte is there
added_sets : (b : List ℕ) (e : ℕ) (xs : List ℕ) → e + length xs ≤ length b → added (page b e) xs ≡ page (sets b e xs) (e + length xs)
unfolding added
added_sets b e [] h = let z : e ≡ e + 0 = omega arith in ap (page b) z
added_sets b e (x ∷ xs) h =
    let k = length-set b e x in
    let z : e + 1 + length xs ≡ e + suc (length xs) = omega arith in
    ap (λ (p : Page). added p xs) (sym (more_room b e x (omega (arith, h)))) ∙ (added_sets (set b e x) (e + 1) xs (omega (arith, h, k)) ∙ (ap (page (sets (set b e x) (e + 1) xs)) z ∙ ap (λ (i : ℕ). page (sets (set b e x) i xs) (e + suc (length xs))) (add-one e)))

pub added_all : (b : List ℕ) (e : ℕ) (xs c : List ℕ) → length xs ≤ length b → page c e ≡ added (page b 0) xs → (e ≡ length xs) × (c ≡ written xs b)
unfolding written
added_all b e xs c h k =
    let z : 0 + length xs ≡ length xs = omega arith in
    let w : page c e ≡ page (sets b 0 xs) (length xs) = k ∙ (added_sets b 0 xs (omega (arith, h)) ∙ ap (page (sets b 0 xs)) z) in
    (ap (λ (p : Page). p.end) w, ap (λ (p : Page). p.bytes) w ∙ (sets-eq xs b 0 (omega (arith, h)) ∙ rw (le-leb (length xs) (length b) h, z) refl))
