-- The service numbers of what the judge refuses. Assumes nothing.
use Rattle.std.specs.Prelude.{ℕ}
use Rattle.judge.specs.declared.answers.Refusal.{Refusal}
use Rattle.judge.specs.declared.answers.Refusal.TheVariants.{Unknown, Backward, Long, NoFormula, NoPlace}

abbrev pub number : Refusal → ℕ
number Unknown = 41
number Backward = 42
number Long = 61
number NoFormula = 62
number NoPlace = 63
