-- What one of several scales says. Assumes nothing.
use Rattle.std.proofs.Common.{◌≡◌, ℕ, zero, suc, ◌<◌, ◌≤◌, false, List, [], ◌∷◌, length, get_or, refl, arith}
use Rattle.scale.specs.declared.Plain.{Plain}
use Rattle.scale.specs.Plain.{says}
use Rattle.judge.specs.Scales.{said}

pub said_at : (ps : List Plain) (s n : ℕ) (p : Plain) → s < length ps → said ps s n ≡ says (get_or ps s p) n
said_at [] s n p lt = absurd (omega arith)
said_at (q ∷ ps) zero n p lt = refl
said_at (q ∷ ps) (suc s) n p lt = said_at ps s n p (omega arith)

pub said_past : (ps : List Plain) (s n : ℕ) → length ps ≤ s → said ps s n ≡ false
said_past [] s n le = refl
said_past (q ∷ ps) zero n le = absurd (omega arith)
said_past (q ∷ ps) (suc s) n le = said_past ps s n (omega arith)
