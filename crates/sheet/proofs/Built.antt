-- A value for each formula, made from those before it: one formula more is one value more. Assumes nothing.
use Rattle.std.proofs.Common.{◌≡◌, ◌+◌, List, [], ◌∷◌, ◌++◌, length, sym, refl, ◌∙◌, add-zero, zero-add, arith, length-append}
use Rattle.sheet.specs.declared.formulas.Formula.{Formula}
use Rattle.sheet.specs.Formulas.{built, built_on, cells_of, total}

module _ {X : Type 0} (step : List X → Formula → X) where
  built_on-push : (done : List X) (fs : List Formula) (f : Formula) → built_on step done (fs ++ f ∷ []) ≡ built_on step done fs ++ step (built_on step done fs) f ∷ []
  built_on-push done [] f = refl
  built_on-push done (g ∷ fs) f = built_on-push (done ++ step done g ∷ []) fs f

  pub built-push : (fs : List Formula) (f : Formula) → built step (fs ++ f ∷ []) ≡ built step fs ++ step (built step fs) f ∷ []
  built-push fs f = built_on-push [] fs f

  length-built_on : (done : List X) (fs : List Formula) → length (built_on step done fs) ≡ length done + length fs
  length-built_on done [] = sym (add-zero (length done))
  length-built_on done (f ∷ fs) = length-built_on (done ++ step done f ∷ []) fs ∙ omega (arith, length-append done (step done f ∷ []))

  pub length-built : (fs : List Formula) → length (built step fs) ≡ length fs
  length-built fs = length-built_on [] fs ∙ zero-add (length fs)

pub total-push : (fs : List Formula) (f : Formula) → total (fs ++ f ∷ []) ≡ total fs + cells_of f
total-push [] f = omega arith
total-push (g ∷ fs) f = omega (arith, total-push fs f)
