-- How a line is spelled in a text log. Assumes nothing.
use Rattle.std.specs.Prelude.{ℕ, zero, suc, ◌+◌, ◌^◌, ◌<◌, cond, List, [], ◌∷◌, ◌++◌, decimal}
use Rattle.line.specs.declared.Line.{Line}
use Rattle.line.specs.Marks.{has, Known}

-- the letters of the marks below n that are set, in order: a for mark 0
unfoldable pub letters_below : ℕ → ℕ → List ℕ
letters_below zero marks = []
letters_below (suc n) marks = letters_below n marks ++ cond (has marks n) ((97 + n) ∷ []) []

-- a hyphen where there is no letter
abbrev pub or_hyphen : List ℕ → List ℕ
or_hyphen [] = 45 ∷ []
or_hyphen (x ∷ xs) = x ∷ xs

-- the time in decimal, a space, the letters of the known marks or a hyphen
abbrev pub written : Line → List ℕ
written l = decimal l.time ++ 32 ∷ or_hyphen (letters_below 26 l.marks)

-- the same with the line feed that ends it
abbrev pub text : Line → List ℕ
text l = written l ++ 10 ∷ []

-- a line that a text log can hold: a time of 32 bits, and known marks only
pub record Lawful (l : Line) : Type 0 where
  pub time : l.time < 2 ^ 32
  pub marks : Known l.marks
