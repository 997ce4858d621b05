-- Logs in time order. Assumes nothing.
use Rattle.std.specs.Prelude.{ℕ, ◌≤◌, List, length}
use Rattle.line.specs.declared.Line.{Line}
use Rattle.truth.specs.Truth.{at}

-- times never fall
abbrev pub InOrder : List Line → Type 0
InOrder log = (h j : ℕ) → 1 ≤ h → h ≤ j → j ≤ length log → (at log h).time ≤ (at log j).time
