-- The worked examples: each with what comes out and what should. Assumes nothing.
use Rattle.std.specs.Prelude.{◌≡◌, ℕ, ◌+◌, Bool, cond, List, [], ◌∷◌, ◌++◌, map, Some, None, Option}
use Rattle.line.specs.declared.Line.{Line}
use Rattle.scale.specs.Limits as limit
use Rattle.scale.specs.Wheels as wheel
use Rattle.sheet.specs.declared.Formula.{Formula}
use Rattle.sheet.specs.declared.Formula.TheVariants.{Mark, Not, Previous}
use Rattle.sheet.specs.declared.Window.{Window}
use Rattle.sheet.specs.declared.Window.TheVariants.{Closed}
use Rattle.sheet.specs.Contents.{rule_reach}
use Rattle.sheet.specs.Formulas.{total}
use Rattle.truth.specs.Truth.{counted, holds}
use Rattle.bench.specs.Bench.{limits, sheet}

-- marks, and lines

abbrev none : ℕ
none = 0

abbrev a : ℕ
a = 1

abbrev b : ℕ
b = 2

abbrev p : ℕ
p = 32768

abbrev s : ℕ
s = 262144

abbrev line : ℕ → ℕ → Line
line t m = record { time = t; marks = m }

abbrev pub log : List Line
log = line 0 b ∷ line 3 b ∷ line 4 (b + p) ∷ line 6 b ∷ line 9 (a + b) ∷ line 12 b ∷ line 15 none ∷ line 20 s ∷ line 29 none ∷ []

-- answers as numbers

abbrev digit : Bool → ℕ
digit t = cond t 1 0

abbrev told : Option ℕ → List ℕ
told None = []
told (Some n) = n ∷ []

-- how many b there are since the last p, at a place
abbrev boluses : Window → List Line → ℕ → ℕ
boluses w lines j = counted lines (holds limits sheet.formulas lines 1) (holds limits sheet.formulas lines 0) w j

-- a formula of the bench sheet at a place
abbrev answer : List Line → ℕ → ℕ → ℕ
answer lines n j = digit (holds limits sheet.formulas lines n j)

-- an alarm of that age, not silenced
abbrev aged : ℕ → ℕ
aged t = answer (line 0 a ∷ line t none ∷ []) 6 2

-- previous, and its not
abbrev before : List Formula
before = Mark 1 ∷ Previous 0 (Closed 0 10) ∷ Not 1 ∷ []

pub record Example : Type 0 where
  pub out : List ℕ
  pub wanted : List ℕ

abbrev pub example : List ℕ → List ℕ → Example
example out wanted = record { out = out; wanted = wanted }

abbrev pub examples : List Example
examples =
    example (map (boluses (Closed 0 10) log) (3 ∷ 5 ∷ 6 ∷ 7 ∷ 8 ∷ [])) (0 ∷ 2 ∷ 3 ∷ 3 ∷ 1 ∷ [])
    ∷ example (map aged (4 ∷ 5 ∷ 19 ∷ 20 ∷ [])) (0 ∷ 1 ∷ 1 ∷ 0 ∷ [])
    ∷ example (boluses (Closed 5 10) (line 0 b ∷ line 6 p ∷ line 7 none ∷ []) 3 ∷ []) (1 ∷ [])
    ∷ example (boluses (Closed 0 10) (line 0 p ∷ line 0 b ∷ []) 2 ∷ []) (1 ∷ [])
    ∷ example (boluses (Closed 0 10) (line 0 b ∷ line 0 p ∷ []) 2 ∷ []) (0 ∷ [])
    ∷ example (map (λ n. digit (holds limits before (line 0 b ∷ []) n 1)) (1 ∷ 2 ∷ [])) (0 ∷ 1 ∷ [])
    ∷ example (told (rule_reach sheet 0) ++ told (rule_reach sheet 1)) (9 ∷ 19 ∷ [])
    ∷ example (total sheet.formulas ∷ []) (30 ∷ [])
    ∷ example (map (wheel.folded 2 3) (0 ∷ 1 ∷ 2 ∷ 3 ∷ 4 ∷ 5 ∷ 6 ∷ 7 ∷ [])) (0 ∷ 1 ∷ 2 ∷ 3 ∷ 4 ∷ 2 ∷ 3 ∷ 4 ∷ [])
    ∷ example (wheel.joined 2 3 4 4 ∷ []) (2 ∷ [])
    ∷ example (map (λ n. digit (limit.says 2 n)) (2 ∷ 3 ∷ [])) (0 ∷ 1 ∷ [])
    ∷ example (map (answer log 2) (1 ∷ 2 ∷ 3 ∷ 4 ∷ 5 ∷ 6 ∷ 7 ∷ 8 ∷ 9 ∷ [])) (0 ∷ 0 ∷ 0 ∷ 0 ∷ 0 ∷ 1 ∷ 1 ∷ 0 ∷ 0 ∷ [])
    ∷ example (map (answer log 6) (1 ∷ 2 ∷ 3 ∷ 4 ∷ 5 ∷ 6 ∷ 7 ∷ 8 ∷ 9 ∷ [])) (0 ∷ 0 ∷ 0 ∷ 0 ∷ 0 ∷ 0 ∷ 1 ∷ 0 ∷ 0 ∷ [])
    ∷ []

-- every example comes out as it should
abbrev pub Worked : Type 0
Worked = map (λ e. e.out) examples ≡ map (λ e. e.wanted) examples
