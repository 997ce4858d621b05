-- The truth of a formula, by the truths of those that it names. Assumes nothing.
use Rattle.std.proofs.Common.{◌≡◌, ℕ, suc, ◌-◌, ◌<◌, Bool, true, false, not, ◌&&◌, ◌||◌, ltb, List, [], ◌∷◌, ◌++◌, length, get_or, take, drop, sym, refl, ap, ◌∙◌, ⊎_elim, arith, length-append}
use Rattle.std.proofs.lemmas.List.{get_or_append_left, get_or_past, get_or_push, length-take-le}
use Rattle.std.proofs.lemmas.Bool.{and_parts, cases_lt, ltb-true}
use Rattle.std.proofs.Math.Seq.{split_at}
use Rattle.line.specs.declared.Line.{Line}
use Rattle.line.specs.Marks.{has}
use Rattle.sheet.specs.declared.Formula.{Formula}
use Rattle.sheet.specs.declared.Formula.TheVariants.{Never, Mark, Not, Or, Previous, Since, Count}
use Rattle.sheet.specs.declared.Window.{Window}
use Rattle.sheet.specs.Conditions.{EachLawful, lawful_at}
use Rattle.sheet.specs.Formulas.{built, built_on}
use Rattle.sheet.proofs.Built.{length-built}
use Rattle.truth.specs.Truth.{at, counted, holds, Meanings, previous, since, truth_of, within}
use Rattle.truth.proofs.Back.{never}
use Rattle.judge.specs.declared.held.Held.{Held}
use Rattle.judge.specs.Counting.{count_up_to, since_up_to, truth}
use Rattle.judge.specs.Scales.{meaning, said}

-- what is built on others is made from a front of them, and stays as more is built on it

module _ {X : Type 0} (step : List X → Formula → X) (d : X) where
  stays : (fs : List Formula) (done : List X) (i : ℕ) → i < length done → get_or (built_on step done fs) i d ≡ get_or done i d
  stays [] done i lt = refl
  stays (f ∷ fs) done i lt = stays fs (done ++ step done f ∷ []) i (omega (arith, length-append done (step done f ∷ []))) ∙ get_or_append_left done (step done f ∷ []) d i lt

  in_two : (fs gs : List Formula) (done : List X) → built_on step done (fs ++ gs) ≡ built_on step (built_on step done fs) gs
  in_two [] gs done = refl
  in_two (f ∷ fs) gs done = in_two fs gs (done ++ step done f ∷ [])

  module _ (fs : List Formula) (n : ℕ) (lt : n < length fs) where
    abbrev front : List X
    front = built step (take n fs)

    long : length front ≡ n
    long = length-built step (take n fs) ∙ length-take-le n fs (omega arith)

    split : built step fs ≡ built_on step front (get_or fs n Never ∷ drop (suc n) fs)
    split = ap (built step) (split_at fs n Never lt) ∙ in_two (take n fs) (get_or fs n Never ∷ drop (suc n) fs) []

    value_at : get_or (built step fs) n d ≡ step front (get_or fs n Never)
    value_at =
        ap (λ (xs : List X). get_or xs n d) split
        ∙ stays (drop (suc n) fs) (front ++ step front (get_or fs n Never) ∷ []) n (omega (arith, long, length-append front (step front (get_or fs n Never) ∷ [])))
        ∙ get_or_push front (step front (get_or fs n Never)) d n long

    same_at : (i : ℕ) → i < n → get_or front i d ≡ get_or (built step fs) i d
    same_at i below = sym (ap (λ (xs : List X). get_or xs i d) split ∙ stays (get_or fs n Never ∷ drop (suc n) fs) front i (omega (arith, long)))

-- a formula looks only at those that it names

module _ (M : Meanings) (log : List Line) (ts us : List (ℕ → Bool)) (n : ℕ) (same : (i : ℕ) → i < n → get_or ts i never ≡ get_or us i never) where
  named : (a : ℕ) → ltb a n ≡ true → get_or ts a never ≡ get_or us a never
  named a h = same a (ltb-true a n h)

  looks : (f : Formula) → lawful_at n f ≡ true → truth_of M log ts f ≡ truth_of M log us f
  looks Never h = refl
  looks (Mark m) h = refl
  looks (Not a) h = λ i j. not (named a h i j)
  looks (Or a b) h = let p = and_parts (ltb a n) _ h in λ i j. named a p.0 i j || named b p.1 i j
  looks (Previous a w) h = let p = and_parts (ltb a n) _ h in λ i j. previous log (named a p.0 i) w j
  looks (Since a b w) h = let p = and_parts (ltb a n) _ h in let q = and_parts (ltb b n) _ p.1 in λ i j. since log (named a p.0 i) (named b q.0 i) w j
  looks (Count a b s w) h = let p = and_parts (ltb a n) _ h in let q = and_parts (ltb b n) _ p.1 in λ i j. M.says s (counted log (named a p.0 i) (named b q.0 i) w j)

-- so a formula's truth is made of theirs

module _ (M : Meanings) (fs : List Formula) (log : List Line) (n : ℕ) (lt : n < length fs) (lawful : EachLawful fs) where
  truth_at : get_or (built (truth_of M log) fs) n never ≡ truth_of M log (built (truth_of M log) fs) (get_or fs n Never)
  truth_at = value_at (truth_of M log) never fs n lt ∙ looks M log (built (truth_of M log) (take n fs)) (built (truth_of M log) fs) n (same_at (truth_of M log) never fs n lt) (get_or fs n Never) (lawful n lt)

  -- the truth of the formula n, with those that it names as they are on the whole sheet
  pub unroll : (g : Formula) → g ≡ get_or fs n Never → (j : ℕ) → holds M fs log n j ≡ truth_of M log (built (truth_of M log) fs) g j
  unroll g e j = ap (λ (t : ℕ → Bool). t j) (truth_at ∙ ap (truth_of M log (built (truth_of M log) fs)) (sym e))

module _ (held : Held) where
  unfoldable pub by_named : Formula → ℕ → Bool
  by_named f j = truth_of (meaning held.scales.now) held.log.now (built (truth_of (meaning held.scales.now) held.log.now) held.formulas.now) f j

  pub unrolled : (n j : ℕ) → truth held n j ≡ by_named (get_or held.formulas.now n Never) j
  unfolding truth by_named
  unrolled n j =
      let M = meaning held.scales.now in
      let log = held.log.now in
      let fs = held.formulas.now in
      let all = built (truth_of M log) fs in
      ap (λ (t : ℕ → Bool). t j)
      (⊎_elim
      (λ lt. truth_at M fs log n lt held.lawful)
      (λ past. get_or_past all n never (omega (arith, length-built (truth_of M log) fs)) ∙ sym (ap (truth_of M log all) (get_or_past fs n Never past)))
      (cases_lt n (length fs)))

  module _ (j : ℕ) where
    pub of_never : by_named Never j ≡ false
    unfolding by_named
    of_never = refl

    pub of_mark : (m : ℕ) → by_named (Mark m) j ≡ has (at held.log.now j).marks m
    unfolding by_named
    of_mark m = refl

    pub of_not : (a : ℕ) → by_named (Not a) j ≡ not (truth held a j)
    unfolding by_named truth
    of_not a = refl

    pub of_or : (a b : ℕ) → by_named (Or a b) j ≡ (truth held a j || truth held b j)
    unfolding by_named truth
    of_or a b = refl

    pub of_previous : (a : ℕ) (w : Window) → by_named (Previous a w) j ≡ (ltb 1 j && (within held.log.now w j (j - 1) && truth held a (j - 1)))
    unfolding by_named truth
    of_previous a w = refl

    pub of_since : (a b : ℕ) (w : Window) → by_named (Since a b w) j ≡ since_up_to held (record { a = a; b = b; window = w; place = j }) j
    unfolding by_named truth since_up_to
    of_since a b w = refl

    pub of_count : (a b s : ℕ) (w : Window) → by_named (Count a b s w) j ≡ said held.scales.now s (count_up_to held (record { a = a; b = b; window = w; place = j }) j)
    unfolding by_named truth count_up_to
    of_count a b s w = refl

pub ruleset unrolls = (unrolled, of_never, of_mark, of_not, of_or, of_previous, of_since, of_count)
