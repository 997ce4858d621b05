-- What the judge refuses: the first of the reasons that applies, in the order of their numbers, over
-- the whole log. Assumes nothing.
use Rattle.std.specs.Prelude.{ℕ, Bool, false, cond, ◌||◌, List, [], ◌∷◌, length, Some, None, Option, ◌==◌, nat_le, nat_lt}
use Rattle.line.specs.declared.Line.{Line}
use Rattle.line.specs.Marks.{unknown}
use Rattle.sheet.specs.declared.Formula.{Formula}
use Rattle.judge.specs.declared.answers.Refusal.{Refusal}
use Rattle.judge.specs.declared.answers.Refusal.TheVariants.{Unknown, Backward, Long, NoFormula, NoPlace}

-- some line has an unknown mark
abbrev pub any_unknown : List Line → Bool
any_unknown [] = false
any_unknown (l ∷ log) = unknown l.marks || any_unknown log

-- some time is before that of the line before it
abbrev pub falls : List Line → Bool
falls [] = false
falls (l ∷ []) = false
falls (l ∷ m ∷ log) = nat_lt m.time l.time || falls (m ∷ log)

abbrev pub refusal : List Formula → List Line → ℕ → ℕ → Option Refusal
refusal formulas log n j =
    cond (any_unknown log) (Some Unknown)
    (cond (falls log) (Some Backward)
    (cond (nat_lt 1024 (length log)) (Some Long)
    (cond (nat_le (length formulas) n) (Some NoFormula)
    (cond (j == 0 || nat_lt (length log) j) (Some NoPlace) None))))
