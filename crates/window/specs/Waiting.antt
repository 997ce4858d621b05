-- What waits in a queue: seconds, the oldest first. Assumes nothing.
use Rattle.std.specs.Prelude.{ℕ, List, [], ◌∷◌, map}
use Rattle.std.specs.List.{flat_map}
use Rattle.window.specs.declared.Truths.{Truths}
use Rattle.window.specs.declared.cells.Cell.{Cell}
use Rattle.window.specs.declared.cells.Slot.{Slot}

-- a second with its lines
pub record Second : Type 0 where
  pub time : ℕ
  pub lines : List Truths

-- the lines of all seconds, in order
abbrev pub lines_of : List Second → List Truths
lines_of seconds = flat_map (λ second. second.lines) seconds

module _ {V : Type 0} (value : List Truths → V) where
  abbrev pub cell_of : Second → Cell V
  cell_of second = record { time = second.time; value = value second.lines }

  abbrev pub cells_of : List Second → List (Cell V)
  cells_of seconds = map cell_of seconds

  -- for each second, the value from it on
  abbrev pub folds_of : List Second → List V
  folds_of [] = []
  folds_of (second ∷ later) = value (lines_of (second ∷ later)) ∷ folds_of later

abbrev pub cells_in : {V : Type 0} → List (Slot V) → List (Cell V)
cells_in slots = map (λ slot. slot.cell) slots

abbrev pub folds_in : {V : Type 0} → List (Slot V) → List V
folds_in slots = map (λ slot. slot.fold) slots
