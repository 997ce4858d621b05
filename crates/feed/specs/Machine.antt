-- The machine that reads a text log. What it reads is said by `Spelled`; nothing here has to be
-- believed. Assumes nothing.
use Rattle.std.specs.Prelude.{ℕ, suc, ◌+◌, ◌-◌, ◌*◌, ◌^◌, Bool, cond, ◌&&◌, List, [], ◌∷◌, ◌++◌, decimal, ◌==◌, nat_le, nat_lt}
use Rattle.line.specs.declared.Line.{Line}
use Rattle.line.specs.Spelling.{letters_below}
use Rattle.feed.specs.declared.answers.Cause.{Cause}
use Rattle.feed.specs.declared.answers.Cause.TheVariants.{Time as TimeWrong, Marks as MarksWrong, Cut}
use Rattle.feed.specs.declared.answers.Ending.{Ending}
use Rattle.feed.specs.declared.answers.Ending.TheVariants.{Clean, Fault as Faulty}
use Rattle.feed.specs.declared.text.machine.State.{State}
use Rattle.feed.specs.declared.text.machine.State.TheVariants.{Start, Time, Space, Marks, Hyphen}
use Rattle.feed.specs.declared.text.machine.Step.{Step}
use Rattle.feed.specs.declared.text.machine.Step.TheVariants.{On, Line as Done, Wrong}
use Rattle.feed.specs.Codes.{fault}

abbrev pub is_digit : ℕ → Bool
is_digit b = nat_le 48 b && nat_le b 57

abbrev pub is_letter : ℕ → Bool
is_letter b = nat_le 97 b && nat_le b 122

abbrev pub line : ℕ → ℕ → Line
line time marks = record { time = time; marks = marks }

abbrev pub step : State → ℕ → Step
step Start b = cond (is_digit b) (On (Time (b - 48))) Wrong
step (Time t) b = cond (b == 32) (On (Space t)) (cond (is_digit b && (nat_lt 0 t && nat_lt (t * 10 + (b - 48)) (2 ^ 32))) (On (Time (t * 10 + (b - 48)))) Wrong)
step (Space t) b = cond (b == 45) (On (Hyphen t)) (cond (is_letter b) (On (Marks t (2 ^ (b - 97)))) Wrong)
step (Marks t m) b = cond (b == 10) (Done (line t m)) (cond (is_letter b && nat_lt m (2 ^ (b - 97))) (On (Marks t (m + 2 ^ (b - 97)))) Wrong)
step (Hyphen t) b = cond (b == 10) (Done (line t 0)) Wrong

-- what is wrong where no step is left
abbrev pub cause : State → Cause
cause Start = TimeWrong
cause (Time t) = TimeWrong
cause (Space t) = MarksWrong
cause (Marks t m) = MarksWrong
cause (Hyphen t) = MarksWrong

-- the end of the text in a state, at the place p
abbrev pub stop : State → ℕ → Ending
stop Start p = Clean
stop (Time t) p = Faulty (fault 4 Cut p)
stop (Space t) p = Faulty (fault 4 Cut p)
stop (Marks t m) p = Faulty (fault 4 Cut p)
stop (Hyphen t) p = Faulty (fault 4 Cut p)

-- the lines that the machine finds in bytes, from a state
unfoldable pub lines_from : State → List ℕ → List Line
lines_from s [] = []
lines_from s (b ∷ bs) = elim (step s b) [ On t ↦ lines_from t bs | Done l ↦ l ∷ lines_from Start bs | Wrong ↦ [] ]

-- and where it ends, the first byte being at the place p
unfoldable pub end_from : State → ℕ → List ℕ → Ending
end_from s p [] = stop s p
end_from s p (b ∷ bs) = elim (step s b) [ On t ↦ end_from t (suc p) bs | Done l ↦ end_from Start (suc p) bs | Wrong ↦ Faulty (fault 4 (cause s) p) ]

-- the text that leads to a state
abbrev pub said : State → List ℕ
said Start = []
said (Time t) = decimal t
said (Space t) = decimal t ++ 32 ∷ []
said (Marks t m) = decimal t ++ 32 ∷ letters_below 26 m
said (Hyphen t) = decimal t ++ 32 ∷ 45 ∷ []
