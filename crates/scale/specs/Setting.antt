-- What setting one scale of a table does. Assumes nothing.
use Rattle.std.specs.Prelude.{◌≡◌, ℕ, min, Bool, cond, List, Some, None, Option, ◌==◌, nat_le, slice_set}
use Rattle.scale.specs.declared.answers.Refusal.{Refusal}
use Rattle.scale.specs.declared.answers.Refusal.TheVariants.{Scale}

-- why a setting is refused: for its scale, and else for its numbers
abbrev pub refusal : ℕ → Option Refusal → Option Refusal
refusal scale numbers = cond (nat_le scale 7) numbers (Some Scale)

-- the table before and after: only the set scale has another element, which is as it was given;
-- a refusal leaves all as it was
abbrev pub Changed : {X : Type 0} → Option Refusal → (X → Type 0) → ℕ → List X → List X → Type 0
Changed None Given scale before after = (x : _) × Given x × (after ≡ slice_set before scale x)
Changed (Some e) Given scale before after = after ≡ before

-- what the scales say before and after: only the set one says what the given numbers say
abbrev pub Says : Option Refusal → ℕ → (ℕ → Bool) → (ℕ → ℕ → Bool) → (ℕ → ℕ → Bool) → Type 0
Says None scale given before after = (i n : ℕ) → after i n ≡ cond (min i 7 == scale) (given n) (before i n)
Says (Some e) scale given before after = (i n : ℕ) → after i n ≡ before i n
