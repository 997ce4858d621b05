-- When a formula holds at a place of a log. This is the page to believe. Assumes nothing.
use Rattle.std.specs.Prelude.{ℕ, ◌-◌, Bool, false, not, ◌&&◌, ◌||◌, List, nat_lt, slice_index_or}
use Rattle.line.specs.declared.Line.{Line}
use Rattle.line.specs.Marks.{has}
use Rattle.sheet.specs.declared.Formula.{Formula}
use Rattle.sheet.specs.declared.Formula.TheVariants.{Never, Mark, Not, Or, Previous, Since, Count}
use Rattle.sheet.specs.declared.Window.{Window}
use Rattle.sheet.specs.Formulas.{built}
use Rattle.sheet.specs.Windows.{inside}
use Rattle.truth.specs.Places.{some, every, last, count}

-- what is asked of the scales: a yes or no for each scale and each count
pub record Meanings : Type 0 where
  pub says : ℕ → ℕ → Bool

abbrev pub blank : Line
blank = record { time = 0; marks = 0 }

-- the line at a place; places are numbered from 1
abbrev pub at : List Line → ℕ → Line
at log j = slice_index_or log (j - 1) blank

-- the gap in seconds from place h to place j lies in the window
abbrev pub within : List Line → Window → ℕ → ℕ → Bool
within log w j h = inside w ((at log j).time - (at log h).time)

module _ (log : List Line) where
  -- j is not the first place, the gap to the place before lies in the window, and a holds there
  abbrev pub previous : (ℕ → Bool) → Window → ℕ → Bool
  previous a w j = nat_lt 1 j && (within log w j (j - 1) && a (j - 1))

  -- some place h up to j has its gap to j in the window, b holds at h, and a holds at every place
  -- after h up to j
  abbrev pub since : (ℕ → Bool) → (ℕ → Bool) → Window → ℕ → Bool
  since a b w j = some j (λ h. within log w j h && (b h && every h j a))

  -- of the places up to j whose gap to j lies in the window: the last where a holds, or 0
  abbrev pub reset : (ℕ → Bool) → Window → ℕ → ℕ
  reset a w j = last j (λ h. within log w j h && a h)

  -- and how many after that have b
  abbrev pub counted : (ℕ → Bool) → (ℕ → Bool) → Window → ℕ → ℕ
  counted a b w j = count j (λ h. within log w j h && (nat_lt (reset a w j) h && b h))

-- a formula at a place, where the formulas before it are known
abbrev pub truth_of : Meanings → List Line → List (ℕ → Bool) → Formula → ℕ → Bool
truth_of M log before Never j = false
truth_of M log before (Mark m) j = has (at log j).marks m
truth_of M log before (Not a) j = not (slice_index_or before a (λ _. false) j)
truth_of M log before (Or a b) j = slice_index_or before a (λ _. false) j || slice_index_or before b (λ _. false) j
truth_of M log before (Previous a w) j = previous log (slice_index_or before a (λ _. false)) w j
truth_of M log before (Since a b w) j = since log (slice_index_or before a (λ _. false)) (slice_index_or before b (λ _. false)) w j
truth_of M log before (Count a b s w) j = M.says s (counted log (slice_index_or before a (λ _. false)) (slice_index_or before b (λ _. false)) w j)

-- the formula with a number, on a sheet, at a place
abbrev pub holds : Meanings → List Formula → List Line → ℕ → ℕ → Bool
holds M formulas log n j = slice_index_or (built (truth_of M log) formulas) n (λ _. false) j
