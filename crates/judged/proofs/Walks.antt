-- The walk over a log up to a falling time. Assumes nothing.
use Rattle.std.proofs.Common.{◌≡◌, ℕ, suc, Bool, cond, ltb, List, [], ◌∷◌, refl, sym, ap, ◌∙◌, arith}
use Rattle.std.proofs.lemmas.Bool.{le-ltb}
use Rattle.line.specs.declared.Line.{Line}
use Rattle.judged.specs.Held.{risen}

-- how many lines come before the first that is before the line in front of it, the first being
-- measured at t
abbrev pub above : ℕ → List Line → ℕ
above t [] = 0
above t (l ∷ log) = cond (ltb l.time t) 0 (suc (above l.time log))

-- behind a first line, which nothing comes before
behind : (l : Line) (log : List Line) → risen (l ∷ log) ≡ suc (above l.time log)
behind l [] = refl
behind l (m ∷ log) = ap (λ (n : ℕ). suc (cond (ltb m.time l.time) 0 n)) (behind m log)

pub from_start : (log : List Line) → above 0 log ≡ risen log
from_start [] = refl
from_start (l ∷ log) = ap (λ (t : Bool). cond t 0 (suc (above l.time log))) (le-ltb l.time 0 (omega arith)) ∙ sym (behind l log)
