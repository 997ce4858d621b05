-- Formulas that are lawful behind others, one after another. Assumes nothing.
use Rattle.std.proofs.Common.{◌≡◌, ℕ, suc, ◌+◌, ◌<◌, true, List, ◌∷◌, length, get_or, subst, add-zero, arith}
use Rattle.sheet.specs.declared.formulas.Formula.{Formula}
use Rattle.sheet.specs.declared.formulas.Formula.TheVariants.{Never}
use Rattle.sheet.specs.Conditions.{EachLawful, lawful_at}

-- every formula to come is lawful behind n others
abbrev pub LawfulFrom : ℕ → List Formula → Type 0
LawfulFrom n fs = (i : ℕ) → i < length fs → lawful_at (n + i) (get_or fs i Never) ≡ true

pub lawful_all : (fs : List Formula) → EachLawful fs → LawfulFrom 0 fs
lawful_all fs h i lt = let e : i ≡ 0 + i = omega arith in subst (λ (k : ℕ). lawful_at k (get_or fs i Never) ≡ true) e (h i lt)

module _ (n : ℕ) (f : Formula) (fs : List Formula) (h : LawfulFrom n (f ∷ fs)) where
  pub lawful_first : lawful_at n f ≡ true
  lawful_first = subst (λ (k : ℕ). lawful_at k f ≡ true) (add-zero n) (h 0 (omega arith))

  pub lawful_later : (m : ℕ) → m ≡ n + 1 → LawfulFrom m fs
  lawful_later m e i lt = let k : n + suc i ≡ m + i = omega arith in subst (λ (k : ℕ). lawful_at k (get_or fs i Never) ≡ true) k (h (suc i) (omega arith))
