-- What eight plain scales mean. Assumes nothing.
use Rattle.std.specs.Prelude.{ℕ, zero, suc, Bool, false, List, [], ◌∷◌}
use Rattle.scale.specs.declared.Plain.{Plain}
use Rattle.scale.specs.Plain.{says}
use Rattle.truth.specs.Truth.{Meanings}

abbrev pub said : List Plain → ℕ → ℕ → Bool
said [] scale n = false
said (p ∷ ps) zero n = says p n
said (p ∷ ps) (suc scale) n = said ps scale n

abbrev pub meaning : List Plain → Meanings
meaning scales = record { says = said scales }
