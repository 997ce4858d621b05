-- Some, every, last and how many, of places that agree, and of places that are moved on. Assumes nothing.
use Rattle.std.proofs.Common.{◌≡◌, ℕ, zero, suc, ◌+◌, ◌<◌, ◌≤◌, Bool, true, false, cond, not, ◌&&◌, ◌||◌, ltb, sym, refl, ap, ◌∙◌, ap₂, add-zero, arith}
use Rattle.std.proofs.lemmas.Bool.{le-ltb, ltb-true}
use Rattle.std.proofs.lemmas.Bool.Decides.{nat_tests}
use Rattle.truth.specs.Places.{some, every, last, count}

-- tests that agree up to j

abbrev pub Agree : ℕ → (ℕ → Bool) → (ℕ → Bool) → Type 0
Agree j p q = (h : ℕ) → 1 ≤ h → h ≤ j → p h ≡ q h

fewer : (j : ℕ) (p q : ℕ → Bool) → Agree (suc j) p q → Agree j p q
fewer j p q e h lo hi = e h lo (omega arith)

-- tests that matter only where another holds

pub where_so : (t x y : Bool) → (t ≡ true → x ≡ y) → (t && x) ≡ (t && y)
where_so true x y e = e refl
where_so false x y e = refl

or_where : (t x y : Bool) → (t ≡ true → x ≡ y) → (not t || x) ≡ (not t || y)
or_where true x y e = e refl
or_where false x y e = refl

-- so do what some, every and the last place say, and how many there are

pub some_agree : (j : ℕ) (p q : ℕ → Bool) → Agree j p q → some j p ≡ some j q
some_agree zero p q e = refl
some_agree (suc j) p q e = λ i. e (suc j) (omega arith) (omega arith) i || some_agree j p q (fewer j p q e) i

pub every_agree : (h j : ℕ) (p q : ℕ → Bool) → ((k : ℕ) → h < k → k ≤ j → p k ≡ q k) → every h j p ≡ every h j q
every_agree h zero p q e = refl
every_agree h (suc j) p q e =
    λ i. or_where (ltb h (suc j)) _ _ (λ t. e (suc j) (ltb-true h (suc j) t) (omega arith)) i && every_agree h j p q (λ k lo hi. e k lo (omega arith)) i

pub last_agree : (j : ℕ) (p q : ℕ → Bool) → Agree j p q → last j p ≡ last j q
last_agree zero p q e = refl
last_agree (suc j) p q e = λ i. cond (e (suc j) (omega arith) (omega arith) i) (suc j) (last_agree j p q (fewer j p q e) i)

pub count_agree : (j : ℕ) (p q : ℕ → Bool) → Agree j p q → count j p ≡ count j q
count_agree zero p q e = refl
count_agree (suc j) p q e = λ i. cond (e (suc j) (omega arith) (omega arith) i) 1 0 + count_agree j p q (fewer j p q e) i

-- no place up to j

abbrev pub NoneUpTo : ℕ → (ℕ → Bool) → Type 0
NoneUpTo j p = (h : ℕ) → 1 ≤ h → h ≤ j → p h ≡ false

pub some_none : (j : ℕ) (p : ℕ → Bool) → NoneUpTo j p → some j p ≡ false
some_none zero p e = refl
some_none (suc j) p e = ap₂ ◌||◌ (e (suc j) (omega arith) (omega arith)) (some_none j p (λ h lo hi. e h lo (omega arith)))

last_none : (j : ℕ) (p : ℕ → Bool) → NoneUpTo j p → last j p ≡ 0
last_none zero p e = refl
last_none (suc j) p e = ap (λ (b : Bool). cond b (suc j) (last j p)) (e (suc j) (omega arith) (omega arith)) ∙ last_none j p (λ h lo hi. e h lo (omega arith))

pub count_none : (j : ℕ) (p : ℕ → Bool) → NoneUpTo j p → count j p ≡ 0
count_none zero p e = refl
count_none (suc j) p e = (λ i. cond (e (suc j) (omega arith) (omega arith) i) 1 0 + count j p) ∙ (let r = count_none j p (λ h lo hi. e h lo (omega arith)) in omega arith)

-- every place after h is vacuous up to h
pub every_vacuous : (h j : ℕ) (p : ℕ → Bool) → j ≤ h → every h j p ≡ true
every_vacuous h zero p le = refl
every_vacuous h (suc j) p le = ap₂ ◌&&◌ (ap (λ (b : Bool). not b || p (suc j)) (le-ltb h (suc j) le)) (every_vacuous h j p (omega arith))

-- k places further on

abbrev pub moved : ℕ → ℕ → ℕ
moved k zero = zero
moved k (suc m) = k + suc m

module _ (k : ℕ) where
  next : (j : ℕ) → k + suc j ≡ suc (k + j)
  next j = omega arith

  pub some_moved : (j : ℕ) (p : ℕ → Bool) → NoneUpTo k p → some (k + j) p ≡ some j (λ h. p (k + h))
  some_moved zero p e = ap (λ (n : ℕ). some n p) (add-zero k) ∙ some_none k p e
  some_moved (suc j) p e = ap (λ (n : ℕ). some n p) (next j) ∙ (λ i. p (sym (next j) i) || some_moved j p e i)

  pub last_moved : (j : ℕ) (p : ℕ → Bool) → NoneUpTo k p → last (k + j) p ≡ moved k (last j (λ h. p (k + h)))
  last_moved zero p e = ap (λ (n : ℕ). last n p) (add-zero k) ∙ last_none k p e
  last_moved (suc j) p e = ap (λ (n : ℕ). last n p) (next j) ∙ (λ i. cond (p (sym (next j) i)) (sym (next j) i) (last_moved j p e i)) ∙ by (p (k + suc j))
    where
      by : (b : Bool) → cond b (k + suc j) (moved k (last j (λ h. p (k + h)))) ≡ moved k (cond b (suc j) (last j (λ h. p (k + h))))
      by true = refl
      by false = refl

  pub count_moved : (j : ℕ) (p : ℕ → Bool) → NoneUpTo k p → count (k + j) p ≡ count j (λ h. p (k + h))
  count_moved zero p e = ap (λ (n : ℕ). count n p) (add-zero k) ∙ count_none k p e
  count_moved (suc j) p e = ap (λ (n : ℕ). count n p) (next j) ∙ (λ i. cond (p (sym (next j) i)) 1 0 + count_moved j p e i)

  pub after_moved : (h j : ℕ) → ltb (k + h) (k + j) ≡ ltb h j
  after_moved h j = grind (arith, nat_tests)

  pub every_moved : (h j : ℕ) (p : ℕ → Bool) → every (k + h) (k + j) p ≡ every h j (λ i. p (k + i))
  every_moved h zero p = ap (λ (n : ℕ). every (k + h) n p) (add-zero k) ∙ every_vacuous (k + h) k p (omega arith)
  every_moved h (suc j) p =
      ap (λ (n : ℕ). every (k + h) n p) (next j)
      ∙ (λ i. (not (ltb (k + h) (sym (next j) i)) || p (sym (next j) i)) && every_moved h j p i)
      ∙ (λ i. (not (after_moved h (suc j) i) || p (k + suc j)) && every h j (λ i. p (k + i)))
