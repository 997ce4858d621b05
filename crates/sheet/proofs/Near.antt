-- A reach stays small: each formula adds at most 3,999 seconds to those before it. Assumes nothing.
use Rattle.std.proofs.Common.{◌≡◌, ℕ, ◌+◌, ◌-◌, ◌*◌, ◌<◌, ◌≤◌, true, ltb, leb, List, [], ◌∷◌, ◌++◌, length, get_or, IfSome, Some, None, Option, sym, subst, ⊎_elim, arith, length-append}
use Rattle.std.proofs.lemmas.List.{get_or_past}
use Rattle.std.proofs.lemmas.Bool.{and_parts, cases_lt, leb-true, ltb-true}
use Rattle.sheet.specs.declared.formulas.Formula.{Formula}
use Rattle.sheet.specs.declared.formulas.Formula.TheVariants.{Never, Mark, Not, Or, Previous, Since, Count}
use Rattle.sheet.specs.declared.windows.Window.{Window}
use Rattle.sheet.specs.declared.windows.Window.TheVariants.{Closed, Open}
use Rattle.sheet.specs.Conditions.{lawful_at, EachLawful}
use Rattle.sheet.specs.Formulas.{beyond, built_on, greater, reach_at, reach_of, reaches}
use Rattle.sheet.specs.Windows.{lawful_window}
use Rattle.sheet.proofs.Built.{length-built}
use Rattle.sheet.proofs.Lawful.{LawfulFrom, lawful_all, lawful_first, lawful_later}
use Rattle.sheet.proofs.Pushed.{each_pushed}

-- at most so many seconds, where there is a reach
abbrev pub Within : ℕ → Option ℕ → Type 0
Within most None = Unit {0}
Within most (Some r) = r ≤ most

wider : (m n : ℕ) (o : Option ℕ) → m ≤ n → Within m o → Within n o
wider m n None h w = tt
wider m n (Some r) h w = omega arith

greater_within : (m : ℕ) (x y : Option ℕ) → Within m x → Within m y → Within m (greater x y)
greater_within m None y p q = tt
greater_within m (Some x) None p q = tt
greater_within m (Some x) (Some y) p q = omega arith

beyond_within : (m : ℕ) (w : Window) (x : Option ℕ) → lawful_window w ≡ true → Within m x → Within (3999 + m) (beyond w x)
beyond_within m (Closed low high) None h p = tt
beyond_within m (Closed low high) (Some x) h p = omega (arith, leb-true high 4000 (and_parts (ltb low high) _ h).1)
beyond_within m (Open low) x h p = tt

-- every reach so far is small
abbrev AllNear : List (Option ℕ) → Type 0
AllNear rs = (i : ℕ) → i < length rs → Within (3999 * i) (get_or rs i None)

module _ (rs : List (Option ℕ)) (near : AllNear rs) where
  before : (a : ℕ) → ltb a (length rs) ≡ true → Within (3999 * length rs) (reach_at rs a)
  before a h = let lt = ltb-true a (length rs) h in wider (3999 * a) (3999 * length rs) (reach_at rs a) (omega arith) (near a lt)

  -- strictly before, there is room for a window
  well_before : (a : ℕ) → ltb a (length rs) ≡ true → Within (3999 * (length rs - 1)) (reach_at rs a)
  well_before a h = let lt = ltb-true a (length rs) h in wider (3999 * a) (3999 * (length rs - 1)) (reach_at rs a) (omega arith) (near a lt)

  one_window : (a : ℕ) (w : Window) (x : Option ℕ) → ltb a (length rs) ≡ true → lawful_window w ≡ true → Within (3999 * (length rs - 1)) x → Within (3999 * length rs) (beyond w x)
  one_window a w x h lawful p =
      let lt = ltb-true a (length rs) h in
      wider (3999 + 3999 * (length rs - 1)) (3999 * length rs) (beyond w x) (omega arith) (beyond_within _ w x lawful p)

  next_near : (f : Formula) → lawful_at (length rs) f ≡ true → Within (3999 * length rs) (reach_of rs f)
  next_near Never h = omega arith
  next_near (Mark m) h = omega arith
  next_near (Not a) h = before a h
  next_near (Or a b) h = let p = and_parts (ltb a (length rs)) _ h in greater_within _ (reach_at rs a) (reach_at rs b) (before a p.0) (before b p.1)
  next_near (Previous a w) h = let p = and_parts (ltb a (length rs)) _ h in one_window a w _ p.0 p.1 (well_before a p.0)
  next_near (Since a b w) h =
      let p = and_parts (ltb a (length rs)) _ h in
      let q = and_parts (ltb b (length rs)) _ p.1 in
      one_window a w _ p.0 q.1 (greater_within _ (reach_at rs a) (reach_at rs b) (well_before a p.0) (well_before b q.0))
  next_near (Count a b s w) h =
      let p = and_parts (ltb a (length rs)) _ h in
      let q = and_parts (ltb b (length rs)) _ p.1 in
      let r = and_parts (leb s 7) _ q.1 in
      one_window a w _ p.0 r.1 (greater_within _ (reach_at rs a) (reach_at rs b) (well_before a p.0) (well_before b q.0))

  push_near : (o : Option ℕ) → Within (3999 * length rs) o → AllNear (rs ++ o ∷ [])
  push_near o p = each_pushed (λ i. Within (3999 * i)) rs o None near p

all_near : (fs : List Formula) (rs : List (Option ℕ)) → AllNear rs → LawfulFrom (length rs) fs → AllNear (built_on reach_of rs fs)
all_near [] rs near h = near
all_near (f ∷ fs) rs near h =
    let n = length rs in
    all_near fs (rs ++ reach_of rs f ∷ []) (push_near rs near (reach_of rs f) (next_near rs near f (lawful_first n f fs h)))
    (lawful_later n f fs h (length (rs ++ reach_of rs f ∷ [])) (omega (arith, length-append rs (reach_of rs f ∷ []))))

-- so is the reach of every number, on a sheet
pub reach_near : (fs : List Formula) (a : ℕ) → EachLawful fs → Within (3999 * a) (reach_at (reaches fs) a)
reach_near fs a h =
    ⊎_elim
    (all_near fs [] (λ i lt. absurd (omega arith)) (lawful_all fs h) a)
    (λ ge. subst (Within (3999 * a)) (sym (get_or_past (reaches fs) a None ge)) tt)
    (cases_lt a (length (reaches fs)))

-- as code adds to it
abbrev pub Short : Option ℕ → Type 0
Short o = IfSome o (λ r. r ≤ 2000000)

pub short_reach : (fs : List Formula) (a : ℕ) → length fs ≤ 64 → EachLawful fs → Short (reach_at (reaches fs) a)
short_reach fs a few h =
    ⊎_elim
    (λ lt. go (reach_at (reaches fs) a) (reach_near fs a h) (omega (arith, length-built reach_of fs)))
    (λ ge. subst Short (sym (get_or_past (reaches fs) a None ge)) tt)
    (cases_lt a (length (reaches fs)))
  where
    go : (o : Option ℕ) → Within (3999 * a) o → a < 64 → Short o
    go None w lt = tt
    go (Some r) w lt = omega arith

pub short_greater : (x y : Option ℕ) → Short x → Short y → Short (greater x y)
short_greater None y p q = tt
short_greater (Some x) None p q = tt
short_greater (Some x) (Some y) p q = omega arith
