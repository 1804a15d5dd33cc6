-- Rows laid behind others in an array: those of a process, and the OUTs of a list of links; and link values as bytes.
use Rattle.std.specs.Prelude.{ℕ, ◌+◌, ◌*◌, ◌<◌, ◌≡◌, List, ◌++◌, length, take}
use Rattle.calculus.specs.Process.{Process}
use Rattle.calculus.specs.Status.{Links}
use Rattle.layout.specs.InOrder.{size, in_order}
use Rattle.evaluate.specs.Values.{links_in}
use Rattle.damage.specs.Scene.{setting, true_where_unset}

-- behind i rows stand those of the process, in order; row r is the next
pub record Lays (P : Process) (i : ℕ) (before : List ℕ) (r : ℕ) (after : List ℕ) : Type 0 where
  pub long : length after ≡ length before
  pub next : r ≡ i + size P
  pub rows : take (r * 4) after ≡ take (i * 4) before ++ in_order i P

-- behind i rows stand the OUTs of a list of links: whatever comes next, it comes behind them
pub record LaysOuts (v : Links) (ls : List ℕ) (i : ℕ) (before : List ℕ) (r : ℕ) (after : List ℕ) : Type 0 where
  pub long : length after ≡ length before
  pub next : (P : Process) → r + size P ≡ i + size (setting v ls P)
  pub rows : (P : Process) → take (r * 4) after ++ in_order r P ≡ take (i * 4) before ++ in_order i (setting v ls P)

-- true for the links that are unset, and unset for the others
abbrev pub TrueWhereUnset : List ℕ → List ℕ → Type 0
TrueWhereUnset values r = (l : ℕ) → l < 64 → links_in r l ≡ true_where_unset (links_in values l)
