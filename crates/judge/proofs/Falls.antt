-- A log falls unless each line is no later than the next. Assumes nothing.
use Rattle.std.proofs.Common.{◌≡◌, ℕ, zero, suc, ◌+◌, ◌<◌, Bool, true, false, not, ◌||◌, ltb, leb, List, [], ◌∷◌, length, get_or, sym, refl, ap, ap₂, arith}
use Rattle.std.specs.List.{AllAdjacentBelow, IsAllAdjacentAnswer}
use Rattle.std.proofs.lemmas.Bool.{le-ltb, leb-false, leb-true, lt-ltb, or_right}
use Rattle.line.specs.declared.Line.{Line}
use Rattle.judge.specs.Refused.{falls}

abbrev pub no_later : Line → Line → Bool
no_later l m = leb l.time m.time

rising : (log : List Line) → AllAdjacentBelow (λ l m. true ≡ no_later l m) log (length log) → falls log ≡ false
rising [] h = refl
rising (l ∷ []) h = refl
rising (l ∷ m ∷ log) h =
    ap₂ ◌||◌ (le-ltb m.time l.time (leb-true l.time m.time (sym (h 0 l (omega arith)))))
    (rising (m ∷ log) (λ k d lt. let e : suc k + 1 ≡ suc (k + 1) = omega arith in rw e at (h (suc k) d (omega arith))))

falling : (log : List Line) (k : ℕ) → k + 1 < length log → ((d : Line) → false ≡ no_later (get_or log k d) (get_or log (k + 1) d)) → falls log ≡ true
falling [] k lt here = absurd (omega arith)
falling (l ∷ []) k lt here = absurd (omega arith)
falling (l ∷ m ∷ log) zero lt here = ap (λ (t : Bool). t || falls (m ∷ log)) (lt-ltb m.time l.time (leb-false l.time m.time (sym (here l))))
falling (l ∷ m ∷ log) (suc k) lt here =
    or_right (ltb m.time l.time) _
    (falling (m ∷ log) k (omega arith) (λ d. let e : suc k + 1 ≡ suc (k + 1) = omega arith in rw e at (here d)))

pub falls_unless : (log : List Line) (sorted : Bool) → IsAllAdjacentAnswer (λ l m b. b ≡ no_later l m) log sorted → not sorted ≡ falls log
falls_unless log true h = sym (rising log h)
falls_unless log false h = sym (falling log h.0 h.1 h.2)
