-- What the numbers of a wheel mean, as they are offered. Assumes nothing.
use Rattle.std.specs.Prelude.{ℕ, Bool, Option}
use Rattle.scale.specs.declared.answers.Refusal.{Refusal}
use Rattle.scale.specs.declared.wheels.WheelNumbers.{WheelNumbers}
use Rattle.scale.specs.Wheels as wheel

abbrev pub says : WheelNumbers → ℕ → Bool
says numbers n = wheel.says numbers.bound numbers.period numbers.pattern n

-- why these numbers are no wheel
abbrev pub refusal : WheelNumbers → Option Refusal
refusal numbers = wheel.refusal numbers.bound numbers.period numbers.pattern
