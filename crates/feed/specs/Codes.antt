-- The service numbers of what can be wrong with a log's bytes. Assumes nothing.
use Rattle.std.specs.Prelude.{ℕ}
use Rattle.line.specs.declared.Fault.{Fault}
use Rattle.feed.specs.declared.answers.Cause.{Cause}
use Rattle.feed.specs.declared.answers.Cause.TheVariants.{Torn, Time, Marks, Cut}

abbrev pub number : Cause → ℕ
number Torn = 51
number Time = 52
number Marks = 53
number Cut = 54

-- the fault that a feed of a layer tells
abbrev pub fault : ℕ → Cause → ℕ → Fault
fault layer cause place = record { layer = layer; number = number cause; place = place }
