-- What is judged of a log, and what has settled. Assumes nothing.
use Rattle.std.specs.Prelude.{ℕ, suc, ◌-◌, Bool, false, cond, List, [], ◌∷◌, Some, None, Option, nat_lt}
use Rattle.line.specs.declared.Line.{Line}
use Rattle.truth.specs.Truth.{at}

-- how many lines come before the first whose time is before that of the line before it
abbrev pub risen : List Line → ℕ
risen [] = 0
risen (l ∷ []) = 1
risen (l ∷ m ∷ log) = suc (cond (nat_lt m.time l.time) 0 (risen (m ∷ log)))

-- there is a reach, and the place is later than the first by more
abbrev pub settled : Option ℕ → List Line → ℕ → Bool
settled None log j = false
settled (Some reach) log j = nat_lt reach ((at log j).time - (at log 1).time)
