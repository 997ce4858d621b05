-- Values that are built side by side from the same formulas. Assumes nothing.
use Rattle.std.proofs.Common.{◌≡◌, ℕ, suc, List, [], ◌∷◌, ◌++◌, length, get_or, refl, ⊎_elim, arith, length-append}
use Rattle.std.proofs.lemmas.List.{get_or_append_left, get_or_past, get_or_push}
use Rattle.std.proofs.lemmas.Bool.{cases_order}
use Rattle.sheet.specs.declared.Formula.{Formula}
use Rattle.sheet.specs.Formulas.{built, built_on}

module _ {X Y Z : Type 0} (dx : X) (dy : Y) (dz : Z) (R : X → Y → Z → Type 0) (none : R dx dy dz) where
  -- R holds at every number, also at those that are not there
  abbrev pub Everywhere : List X → List Y → List Z → Type 0
  Everywhere xs ys zs = (i : ℕ) → R (get_or xs i dx) (get_or ys i dy) (get_or zs i dz)

  one_more : (xs : List X) (ys : List Y) (zs : List Z) (n : ℕ) → length xs ≡ n → length ys ≡ n → length zs ≡ n → Everywhere xs ys zs → (x : X) (y : Y) (z : Z) → R x y z → Everywhere (xs ++ x ∷ []) (ys ++ y ∷ []) (zs ++ z ∷ [])
  one_more xs ys zs n ex ey ez all x y z here i =
      ⊎_elim
      (λ e. rw (get_or_push xs x dx i (omega arith), get_or_push ys y dy i (omega arith), get_or_push zs z dz i (omega arith)) here)
      (λ other.
      ⊎_elim
      (λ lt. rw (get_or_append_left xs (x ∷ []) dx i (omega arith), get_or_append_left ys (y ∷ []) dy i (omega arith), get_or_append_left zs (z ∷ []) dz i (omega arith)) (all i))
      (λ gt. rw (get_or_past (xs ++ x ∷ []) i dx (omega (arith, length-append xs (x ∷ []))), get_or_past (ys ++ y ∷ []) i dy (omega (arith, length-append ys (y ∷ []))), get_or_past (zs ++ z ∷ []) i dz (omega (arith, length-append zs (z ∷ [])))) none)
      other)
      (cases_order i n)

  module _ (f : List X → Formula → X) (g : List Y → Formula → Y) (h : List Z → Formula → Z) (each : (xs : List X) (ys : List Y) (zs : List Z) → Everywhere xs ys zs → (e : Formula) → R (f xs e) (g ys e) (h zs e)) where
    built_along_on : (fs : List Formula) (xs : List X) (ys : List Y) (zs : List Z) (n : ℕ) → length xs ≡ n → length ys ≡ n → length zs ≡ n → Everywhere xs ys zs → Everywhere (built_on f xs fs) (built_on g ys fs) (built_on h zs fs)
    built_along_on [] xs ys zs n ex ey ez all = all
    built_along_on (e ∷ fs) xs ys zs n ex ey ez all =
        built_along_on fs (xs ++ f xs e ∷ []) (ys ++ g ys e ∷ []) (zs ++ h zs e ∷ []) (suc n)
        (omega (arith, length-append xs (f xs e ∷ []))) (omega (arith, length-append ys (g ys e ∷ []))) (omega (arith, length-append zs (h zs e ∷ [])))
        (one_more xs ys zs n ex ey ez all (f xs e) (g ys e) (h zs e) (each xs ys zs all e))

    -- what holds of each value, if it holds of those before it, holds of all
    pub built_along : (fs : List Formula) → Everywhere (built f fs) (built g fs) (built h fs)
    built_along fs = built_along_on fs [] [] [] 0 refl refl refl (λ i. none)
