-- The service numbers of what a scale is refused for. Assumes nothing.
use Rattle.std.specs.Prelude.{ℕ}
use Rattle.scale.specs.declared.answers.Refusal.{Refusal}
use Rattle.scale.specs.declared.answers.Refusal.TheVariants.{Scale, Limit, Wheel, Pattern}

abbrev pub number : Refusal → ℕ
number Scale = 17
number Limit = 31
number Wheel = 32
number Pattern = 33
