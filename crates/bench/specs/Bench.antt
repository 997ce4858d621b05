-- The bench sheet and its limits. Assumes nothing.
use Rattle.std.specs.Prelude.{◌≡◌, ℕ, zero, suc, ◌≤◌, List, [], ◌∷◌}
use Rattle.scale.specs.declared.Plain.{Plain}
use Rattle.scale.specs.Limits as limit
use Rattle.sheet.specs.declared.Formula.TheVariants.{Mark, Not, Since, Count}
use Rattle.sheet.specs.declared.Window.TheVariants.{Closed}
use Rattle.sheet.specs.Contents.{Contents}
use Rattle.truth.specs.Truth.{Meanings}
use Rattle.judge.specs.Scales.{said}

abbrev pub sheet : Contents
sheet = record {
  formulas = Mark 1 ∷ Mark 15 ∷ Count 1 0 0 (Closed 0 10) ∷ Mark 0 ∷ Mark 18 ∷ Not 4 ∷ Since 5 3 (Closed 5 20) ∷ [];
  rules = 2 ∷ 6 ∷ [];
}

-- the limit of each scale
abbrev pub limit_of : ℕ → ℕ
limit_of zero = 2
limit_of (suc s) = 0

abbrev pub limits : Meanings
limits = record { says = λ s n. limit.says (limit_of s) n }

-- eight plain scales are these limits
abbrev pub Means : List Plain → Type 0
Means scales = (s n : ℕ) → s ≤ 7 → said scales s n ≡ limits.says s n
