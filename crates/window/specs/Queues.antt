-- What a queue means. Assumes nothing.
use Rattle.std.specs.Prelude.{◌≡◌, ℕ, ◌≤◌, List, [], ◌∷◌, length, take, drop, Option, None, Some}
use Rattle.std.specs.VecDeque.{deque_len, deque_capacity}
use Rattle.window.specs.declared.Truths.{Truths}
use Rattle.window.specs.declared.cells.Cell.{Cell}
use Rattle.window.specs.declared.queue.Queue.{Queue}
use Rattle.window.specs.Waiting.{Second, lines_of, cell_of, cells_of, folds_of, cells_in, folds_in}

-- how many cells a queue has, and how many it has room for
abbrev pub count : {V : Type 0} → Queue V → ℕ
count q = deque_len q.slots

abbrev pub room : {V : Type 0} → Queue V → ℕ
room q = deque_capacity q.slots

module _ {V : Type 0} (value : List Truths → V) where
  -- these seconds wait in the queue
  pub record Holds (q : Queue V) (seconds : List Second) : Type 0 where
    pub within : q.front ≤ length seconds
    pub cells : cells_in q.slots.items ≡ cells_of value seconds
    pub folds : folds_in (take q.front q.slots.items) ≡ folds_of value (take q.front seconds)
    pub newer : q.newer ≡ value (lines_of (drop q.front seconds))

  -- the cell of the first second, if there is one
  abbrev pub first : List Second → Option (Cell V)
  first [] = None
  first (second ∷ later) = Some (cell_of value second)
