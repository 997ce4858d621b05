-- What the judge answers. Assumes nothing.
use Rattle.std.specs.Prelude.{ℕ, Bool, List, Some, None, Ok, Err, Option, Result}
use Rattle.line.specs.declared.Line.{Line}
use Rattle.scale.specs.declared.Plain.{Plain}
use Rattle.sheet.specs.declared.Formula.{Formula}
use Rattle.truth.specs.Truth.{holds}
use Rattle.judge.specs.declared.answers.Refusal.{Refusal}
use Rattle.judge.specs.Refused.{refusal}
use Rattle.judge.specs.Scales.{meaning}

abbrev unless : Option Refusal → Bool → Result Bool Refusal
unless None truth = Ok truth
unless (Some why) truth = Err why

-- the truth of the formula n at the place j, unless that is refused
abbrev pub judged : List Formula → List Plain → List Line → ℕ → ℕ → Result Bool Refusal
judged formulas scales log n j = unless (refusal formulas log n j) (holds (meaning scales) formulas log n j)
