-- Document 01, "State and steps": a fresh state and the changes.
use Rattle.std.specs.Prelude.{Bool, true, false, ℕ, set, replicate}
use Rattle.state.specs.declared.State.{State}

-- "A fresh state has 0 in all places but the mode." By document 02, request 6, it carries its two counts too: `start_of` (`moves/specs/Steps`) puts them in.
abbrev pub fresh_of : ℕ → State
fresh_of m = record { mode = m; marks = replicate 256 0; links = replicate 64 0; acts = 0; unset = 0 }

-- 1 passed, 4 dropped; 2 left taken, 3 right taken
abbrev pub pass_of : State → ℕ → State
pass_of s row = record { mode = s.mode; marks = set s.marks row 1; links = s.links; acts = s.acts; unset = s.unset }

abbrev pub drop_of : State → ℕ → State
drop_of s row = record { mode = s.mode; marks = set s.marks row 4; links = s.links; acts = s.acts; unset = s.unset }

abbrev pub side_mark : Bool → ℕ
side_mark true = 3
side_mark false = 2

abbrev pub decide_of : State → ℕ → Bool → State
decide_of s row right = record { mode = s.mode; marks = set s.marks row (side_mark right); links = s.links; acts = s.acts; unset = s.unset }

abbrev pub set_of : State → ℕ → ℕ → State
set_of s link value = record { mode = s.mode; marks = s.marks; links = set s.links link value; acts = s.acts; unset = s.unset }

-- Document 02, request 6: "The state gains two numbers"
abbrev pub with_counts : State → ℕ → ℕ → State
with_counts s acts unset = record { mode = s.mode; marks = s.marks; links = s.links; acts = acts; unset = unset }

-- Document 02, request 8: "a state of the same mode, waiting marks and the old link values"; and the old counts
abbrev pub restart_of : State → State
restart_of s = record { mode = s.mode; marks = replicate 256 0; links = s.links; acts = s.acts; unset = s.unset }
