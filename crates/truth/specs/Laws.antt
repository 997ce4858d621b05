-- What is true of truth. Assumes nothing.
use Rattle.std.specs.Prelude.{◌≡◌, ℕ, ◌+◌, ◌<◌, ◌≤◌, List, ◌++◌, length, Some}
use Rattle.line.specs.declared.Line.{Line}
use Rattle.sheet.specs.declared.Formula.{Formula}
use Rattle.sheet.specs.Formulas.{reach}
use Rattle.truth.specs.Order.{InOrder}
use Rattle.truth.specs.Truth.{at, holds, Meanings}

-- what follows a place does not change the truth at it
abbrev pub LooksBack : Type 0
LooksBack =
    (M : Meanings) (formulas : List Formula) (log more : List Line) (n j : ℕ) → 1 ≤ j → j ≤ length log
    → holds M formulas (log ++ more) n j ≡ holds M formulas log n j

-- past the reach nothing matters: where a formula has a reach and the last line is later than the
-- first by more than that, lines in front, in time order with the log, change nothing at the last line
abbrev pub PastReach : Type 0
PastReach =
    (M : Meanings) (formulas : List Formula) (front log : List Line) (n seconds : ℕ) → reach formulas n ≡ Some seconds
    → InOrder (front ++ log) → 1 ≤ length log → (at log 1).time + seconds < (at log (length log)).time
    → holds M formulas (front ++ log) n (length front + length log) ≡ holds M formulas log n (length log)
