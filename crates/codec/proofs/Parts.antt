-- A part is empty exactly where reading refuses. Assumes nothing.
use Prim.Native.Nat.{ℕ}
use mathlib.Core.Path.{◌≡◌, sym, ◌∙◌, ap}
use mathlib.Core.List.{List, []}
use Rattle.std.specs.Prelude.{Result, Ok, Err}
use Rattle.laws.proofs.Checks.{checked_map}
use Rattle.sheet.specs.declared.Head.{Head}
use Rattle.sheet.specs.Sheet.{head_of, sheet_checks}
use Rattle.sheet.specs.declared.Refusal.{Refusal}
use Rattle.sheet.specs.Rules.{no}
use Rattle.codec.specs.Answers.{read_of, part_of, Framed}
use Rattle.codec.proofs.Judged.{lengths, accepted_is}

abbrev part_by : List ℕ → Result Head Refusal → List ℕ
part_by body (Ok h) = body
part_by body (Err e) = []

part_read : (s body : List ℕ) → part_by body (read_of s) ≡ part_of s body
unfolding read_of part_of
part_read s body = checked_map (part_by body) no (Ok (head_of s)) (sheet_checks s)

module _ (s body : List ℕ) (a : Result Head Refusal) (told : a ≡ read_of s) where
  pub part_whole : (h : Head) → a ≡ Ok h → body ≡ part_of s body
  part_whole h e = ap (part_by body) (sym e ∙ told) ∙ part_read s body

  pub part_empty : (r : Refusal) → a ≡ Err r → [] ≡ part_of s body
  part_empty r e = ap (part_by body) (sym e ∙ told) ∙ part_read s body

-- a sheet that is read has right contents
pub read_framed : (s : List ℕ) (a : Result Head Refusal) → a ≡ read_of s → (h : Head) → a ≡ Ok h → Framed s
read_framed s a told h e = let r = accepted_is s h (sym told ∙ e) in record { long = (lengths s r.size).0; sound = r.sound }
