-- Eight scales that are the bench limits. Assumes nothing.
use Rattle.std.proofs.Common.{◌≡◌, ℕ, zero, suc, [], ◌∷◌, IfOk, Ok, Result, subst, arith}
use Rattle.scale.specs.declared.Plain.{Plain}
use Rattle.scale.specs.Plain.{says}
use Rattle.scale.specs.Limits as limit
use Rattle.bench.specs.Bench.{Means}

-- what was promised of a scale that was made
pub made_says : {E : Type 0} (k : ℕ) (r : Result Plain E) (p : Plain) → IfOk r (λ q. (n : ℕ) → says q n ≡ limit.says k n) → r ≡ Ok p → (n : ℕ) → says p n ≡ limit.says k n
made_says {E} k r p m e = subst (λ (x : Result Plain E). IfOk x (λ q. (n : ℕ) → says q n ≡ limit.says k n)) e m

pub means : (p q : Plain) → ((n : ℕ) → says p n ≡ limit.says 2 n) → ((n : ℕ) → says q n ≡ limit.says 0 n) → Means (p ∷ q ∷ q ∷ q ∷ q ∷ q ∷ q ∷ q ∷ [])
means p q t z zero n le = t n
means p q t z (suc zero) n le = z n
means p q t z (suc (suc zero)) n le = z n
means p q t z (suc (suc (suc zero))) n le = z n
means p q t z (suc (suc (suc (suc zero)))) n le = z n
means p q t z (suc (suc (suc (suc (suc zero))))) n le = z n
means p q t z (suc (suc (suc (suc (suc (suc zero)))))) n le = z n
means p q t z (suc (suc (suc (suc (suc (suc (suc zero))))))) n le = z n
means p q t z (suc (suc (suc (suc (suc (suc (suc (suc s)))))))) n le = absurd (omega arith)
