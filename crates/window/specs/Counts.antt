-- What a resetting count tells of lines, the oldest first. Assumes nothing.
use Rattle.std.specs.Prelude.{ℕ, Bool, cond, ◌||◌, List, [], ◌∷◌}
use Rattle.std.specs.List.{list_any, count_by}
use Rattle.window.specs.declared.Truths.{Truths}
use Rattle.window.specs.declared.counts.Tally.{Tally}
use Rattle.window.specs.declared.counts.ResettingCount.{ResettingCount}

-- some line has a
abbrev pub reset : List Truths → Bool
reset lines = list_any (λ line. line.a) lines

-- the lines after the last that has a; all of them, where none has it
abbrev pub after_reset : List Truths → List Truths
after_reset [] = []
after_reset (line ∷ later) = cond (line.a || reset later) (after_reset later) (line ∷ later)

-- how many of those have b
abbrev pub counted : List Truths → ℕ
counted lines = count_by (λ line. line.b) (after_reset lines)

abbrev pub value : {S : Type 0} → (S → ℕ → ℕ → ℕ) → ResettingCount S → List Truths → Tally
value folding kind lines = record { reset = reset lines; class = folding kind.set.now kind.scale (counted lines) }
