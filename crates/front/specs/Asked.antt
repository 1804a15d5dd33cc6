-- What a row hands down to its children: that one reaches it, that it is held, that it is live. One pass for each.
use Rattle.std.specs.Prelude.{ℕ, Bool, true, false, ◌&&◌, List}
use Rattle.laws.specs.Tests.{or}
use Rattle.steps.specs.Rows.{Row}
use Rattle.steps.specs.Marks.{Marks}
use Rattle.steps.specs.InFront.{waiting_step, leads, inherited}
use Rattle.sheet.specs.Table.{row_at}
use Rattle.moves.specs.Fits.{keeps}
use Rattle.flags.specs.Flags.{Shows}
use Rattle.front.specs.declared.Question.{Question}
use Rattle.front.specs.declared.Question.TheVariants.{Reached, Held, Live}

-- what a row hands to a child: what was handed to it, where one goes on from it; also where it waits; where its remainder has what is below
unfoldable pub next_by : Question → Bool → Bool → Bool → Bool → Bool
next_by Reached leads waits keeps b = b && leads
next_by Held leads waits keeps b = or b waits
next_by Live leads waits keeps b = b && keeps

unfoldable pub next_of : Question → Row → ℕ → Bool → Bool → Bool
next_of q N m s b = next_by q (leads N m s) (waiting_step N m) (keeps N m s) b

unfoldable pub top_of : Question → Bool
top_of Reached = true
top_of Held = false
top_of Live = true

unfoldable pub asked_at : Question → (ℕ → Row) → Marks → ℕ → Bool
asked_at q node μ = inherited node false (top_of q) (λ p s b. next_of q (node p) (μ p) s b)

-- the table tells which rows are live
abbrev pub ShowsLive : List ℕ → ℕ → Marks → List ℕ → Type 0
ShowsLive ts n μ t = Shows (asked_at Live (row_at ts) μ) n t
