-- What lies past the reach does not matter. Assumes nothing.
use Rattle.std.proofs.Common.{◌≡◌, ℕ, zero, suc, ◌+◌, ◌-◌, ◌<◌, ◌≤◌, max, Bool, true, false, not, ◌&&◌, ◌||◌, ltb, leb, List, ◌++◌, length, get_or, Some, None, Option, sym, refl, ap, ◌∙◌, ap₂, arith, length-append}
use Rattle.std.proofs.lemmas.List.{get_or-append-add}
use Rattle.std.proofs.lemmas.Bool.{and_parts, and_right, cases_lt, le-ltb, lt-ltb, ltb-true}
use Rattle.std.proofs.lemmas.Bool.Decides.{nat_tests}
use Rattle.line.specs.declared.Line.{Line}
use Rattle.line.specs.Marks.{has}
use Rattle.sheet.specs.declared.Formula.{Formula}
use Rattle.sheet.specs.declared.Formula.TheVariants.{Never, Mark, Not, Or, Previous, Since, Count}
use Rattle.sheet.specs.declared.Window.{Window}
use Rattle.sheet.specs.declared.Window.TheVariants.{Closed, Open}
use Rattle.sheet.specs.Formulas.{beyond, greater, reach_at, reach_of}
use Rattle.sheet.specs.Windows.{inside}
use Rattle.truth.specs.Laws.{PastReach}
use Rattle.truth.specs.Order.{InOrder}
use Rattle.truth.specs.Truth.{at, blank, counted, Meanings, previous, reset, since, truth_of, within}
use Rattle.truth.proofs.Along.{built_along}
use Rattle.truth.proofs.Back.{never}
use Rattle.truth.proofs.Shift.{after_moved, count_agree, count_moved, every_agree, every_moved, last_agree, last_moved, moved, some_agree, some_moved, where_so}

-- what a reach was made of

record Greater (x y : Option ℕ) (r : ℕ) : Type 0 where
  left : ℕ
  right : ℕ
  is_left : x ≡ Some left
  is_right : y ≡ Some right
  most : r ≡ max left right

greater_of : (x y : Option ℕ) (r : ℕ) → greater x y ≡ Some r → Greater x y r
greater_of None y r e = cc e
greater_of (Some x) None r e = cc e
greater_of (Some x) (Some y) r e = record { left = x; right = y; is_left = refl; is_right = refl; most = cc e }

record Beyond (high : ℕ) (x : Option ℕ) (r : ℕ) : Type 0 where
  below : ℕ
  is_below : x ≡ Some below
  sum : r ≡ high - 1 + below

beyond_of : (low high : ℕ) (x : Option ℕ) (r : ℕ) → beyond (Closed low high) x ≡ Some r → Beyond high x r
beyond_of low high None r e = cc e
beyond_of low high (Some x) r e = record { below = x; is_below = refl; sum = cc e }

moved_after : (k m h : ℕ) → 1 ≤ h → ltb (moved k m) (k + h) ≡ ltb m h
moved_after k zero h lo = grind (arith, nat_tests)
moved_after k (suc m) h lo = after_moved k (suc m) h

module _ (M : Meanings) (front log : List Line) (order : InOrder (front ++ log)) (some-line : 1 ≤ length log) where
  -- the log's lines stand further on

  there : (j : ℕ) → 1 ≤ j → at (front ++ log) (length front + j) ≡ at log j
  there j lo = let e : length front + j - 1 ≡ length front + (j - 1) = omega arith in ap (λ (n : ℕ). get_or (front ++ log) n blank) e ∙ get_or-append-add front log (j - 1) blank

  rises : (h j : ℕ) → 1 ≤ h → h ≤ j → j ≤ length log → (at log h).time ≤ (at log j).time
  rises h j lo mid hi =
      let o = order (length front + h) (length front + j) (omega arith) (omega arith) (omega (arith, length-append front log)) in
      omega (arith, o, ap (λ (l : Line). l.time) (there h lo), ap (λ (l : Line). l.time) (there j (omega arith)))

  early : (h : ℕ) → 1 ≤ h → h ≤ length front → (at (front ++ log) h).time ≤ (at log 1).time
  early h lo hi =
      let o = order h (length front + 1) lo (omega arith) (omega (arith, length-append front log)) in
      omega (arith, o, ap (λ (l : Line). l.time) (there 1 (omega arith)))

  -- far enough from the first line
  abbrev Far : ℕ → ℕ → Type 0
  Far r j = (at log 1).time + r < (at log j).time

  not_first : (j r : ℕ) → 1 ≤ j → Far r j → 1 < j
  not_first j r one far = grind arith

  within_there : (w : Window) (j h : ℕ) → 1 ≤ h → 1 ≤ j → within (front ++ log) w (length front + j) (length front + h) ≡ within log w j h
  within_there w j h lo mid = λ i. inside w ((there j mid i).time - (there h lo i).time)

  module _ (low high : ℕ) where
    -- a line in front is too old for the window
    outside : (j h m : ℕ) → 1 ≤ j → Far (high - 1 + m) j → 1 ≤ h → h ≤ length front → within (front ++ log) (Closed low high) (length front + j) h ≡ false
    outside j h m one far lo hi =
        let e = ap (λ (l : Line). l.time) (there j one) in
        and_right _ _ (Rattle.std.proofs.lemmas.Bool.le-ltb ((at (front ++ log) (length front + j)).time - (at (front ++ log) h).time) high (omega (arith, e, early h lo hi)))

    -- a line in the window is as far as what is below asks
    far_in : (j h m : ℕ) → Far (high - 1 + m) j → 1 ≤ h → h ≤ j → j ≤ length log → within log (Closed low high) j h ≡ true → Far m h
    far_in j h m far lo mid hi t =
        let lt = ltb-true ((at log j).time - (at log h).time) high (and_parts (leb low ((at log j).time - (at log h).time)) _ t).1 in
        omega (arith, lt, rises h j lo mid hi)

    farther : (h i m : ℕ) → 1 ≤ h → h ≤ i → i ≤ length log → Far m h → Far m i
    farther h i m lo mid hi far = omega (arith, rises h i lo mid hi)

    -- truths that agree where they are far enough
    module _ (a b a' b' : ℕ → Bool) (m : ℕ) (ha : (j : ℕ) → 1 ≤ j → j ≤ length log → Far m j → a (length front + j) ≡ a' j) (hb : (j : ℕ) → 1 ≤ j → j ≤ length log → Far m j → b (length front + j) ≡ b' j) (j : ℕ) (one : 1 ≤ j) (hi : j ≤ length log) (far : Far (high - 1 + m) j) where
      in_window : (h : ℕ) (x y : Bool) → 1 ≤ h → h ≤ j → (Far m h → x ≡ y) → (within (front ++ log) (Closed low high) (length front + j) (length front + h) && x) ≡ (within log (Closed low high) j h && y)
      in_window h x y lo mid e =
          ap (λ (t : Bool). t && x) (within_there (Closed low high) j h lo one)
          ∙ where_so (within log (Closed low high) j h) x y (λ t. e (far_in j h m far lo mid hi t))

      none_in_front : (x : ℕ → Bool) (h : ℕ) → 1 ≤ h → h ≤ length front → (within (front ++ log) (Closed low high) (length front + j) h && x h) ≡ false
      none_in_front x h lo le = ap (λ (t : Bool). t && x h) (outside j h m one far lo le)

      previous_far : previous (front ++ log) a (Closed low high) (length front + j) ≡ previous log a' (Closed low high) j
      previous_far =
          let later = not_first j _ one far in
          let place : length front + j - 1 ≡ length front + (j - 1) = omega arith in
          (λ i. (lt-ltb 1 (length front + j) (omega arith) ∙ sym (lt-ltb 1 j later)) i && (within (front ++ log) (Closed low high) (length front + j) (place i) && a (place i)))
          ∙ ap (λ (t : Bool). ltb 1 j && t) (in_window (j - 1) _ _ (omega arith) (omega arith) (λ f. ha (j - 1) (omega arith) (omega arith) f))

      since_far : since (front ++ log) a b (Closed low high) (length front + j) ≡ since log a' b' (Closed low high) j
      since_far =
          some_moved (length front) j _ (none_in_front (λ h. b h && every' h))
          ∙ some_agree j _ _ (λ h lo mid. in_window h _ _ lo mid (λ f. ap₂ ◌&&◌ (hb h lo (omega arith) f) (every_moved (length front) h j a ∙ every_agree h j _ _ (λ i p q. ha i (omega arith) (omega arith) (farther h i m lo (omega arith) (omega arith) f)))))
        where
          every' : ℕ → Bool
          every' h = Rattle.truth.specs.Places.every h (length front + j) a

      reset_far : reset (front ++ log) a (Closed low high) (length front + j) ≡ moved (length front) (reset log a' (Closed low high) j)
      reset_far =
          last_moved (length front) j _ (none_in_front a)
          ∙ ap (moved (length front)) (last_agree j _ _ (λ h lo mid. in_window h _ _ lo mid (λ f. ha h lo (omega arith) f)))

      counted_far : counted (front ++ log) a b (Closed low high) (length front + j) ≡ counted log a' b' (Closed low high) j
      counted_far =
          count_moved (length front) j _ (none_in_front (λ h. ltb (reset (front ++ log) a (Closed low high) (length front + j)) h && b h))
          ∙ count_agree j _ _ (λ h lo mid. in_window h _ _ lo mid (λ f. ap₂ ◌&&◌ (ap (λ (m : ℕ). ltb m (length front + h)) reset_far ∙ moved_after (length front) (reset log a' (Closed low high) j) h lo) (hb h lo (omega arith) f)))

  -- a formula and its counterpart, where the reach says so
  abbrev Agrees : Option ℕ → (ℕ → Bool) → (ℕ → Bool) → Type 0
  Agrees o t u = (r : ℕ) → o ≡ Some r → (j : ℕ) → 1 ≤ j → j ≤ length log → Far r j → t (length front + j) ≡ u j

  module _ (rs : List (Option ℕ)) (ts us : List (ℕ → Bool)) (all : (i : ℕ) → Agrees (reach_at rs i) (get_or ts i never) (get_or us i never)) where
    by_both : (a b : ℕ) (r : ℕ) → greater (reach_at rs a) (reach_at rs b) ≡ Some r → ((j : ℕ) → 1 ≤ j → j ≤ length log → Far r j → get_or ts a never (length front + j) ≡ get_or us a never j) × ((j : ℕ) → 1 ≤ j → j ≤ length log → Far r j → get_or ts b never (length front + j) ≡ get_or us b never j)
    by_both a b r e =
        let g = greater_of (reach_at rs a) (reach_at rs b) r e in
        (λ j lo hi far. all a g.left g.is_left j lo hi (omega (arith, g.most)), λ j lo hi far. all b g.right g.is_right j lo hi (omega (arith, g.most)))

    far_previous : (a : ℕ) (w : Window) → Agrees (beyond w (reach_at rs a)) (previous (front ++ log) (get_or ts a never) w) (previous log (get_or us a never) w)
    far_previous a (Open low) r e j lo hi far = cc e
    far_previous a (Closed low high) r e j lo hi far =
        let b = beyond_of low high (reach_at rs a) r e in
        let h = all a b.below b.is_below in
        previous_far low high (get_or ts a never) (get_or ts a never) (get_or us a never) (get_or us a never) b.below h h j lo hi (omega (arith, b.sum))

    far_since : (a c : ℕ) (w : Window) → Agrees (beyond w (greater (reach_at rs a) (reach_at rs c))) (since (front ++ log) (get_or ts a never) (get_or ts c never) w) (since log (get_or us a never) (get_or us c never) w)
    far_since a c (Open low) r e j lo hi far = cc e
    far_since a c (Closed low high) r e j lo hi far =
        let b = beyond_of low high (greater (reach_at rs a) (reach_at rs c)) r e in
        let h = by_both a c b.below b.is_below in
        since_far low high (get_or ts a never) (get_or ts c never) (get_or us a never) (get_or us c never) b.below h.0 h.1 j lo hi (omega (arith, b.sum))

    far_count : (a c s : ℕ) (w : Window) → Agrees (beyond w (greater (reach_at rs a) (reach_at rs c))) (λ j. M.says s (counted (front ++ log) (get_or ts a never) (get_or ts c never) w j)) (λ j. M.says s (counted log (get_or us a never) (get_or us c never) w j))
    far_count a c s (Open low) r e j lo hi far = cc e
    far_count a c s (Closed low high) r e j lo hi far =
        let b = beyond_of low high (greater (reach_at rs a) (reach_at rs c)) r e in
        let h = by_both a c b.below b.is_below in
        ap (M.says s) (counted_far low high (get_or ts a never) (get_or ts c never) (get_or us a never) (get_or us c never) b.below h.0 h.1 j lo hi (omega (arith, b.sum)))

    truth_far : (f : Formula) → Agrees (reach_of rs f) (truth_of M (front ++ log) ts f) (truth_of M log us f)
    truth_far Never r e j lo hi far = refl
    truth_far (Mark m) r e j lo hi far = ap (λ (l : Line). has l.marks m) (there j lo)
    truth_far (Not a) r e j lo hi far = ap not (all a r e j lo hi far)
    truth_far (Or a b) r e j lo hi far = let h = by_both a b r e in ap₂ ◌||◌ (h.0 j lo hi far) (h.1 j lo hi far)
    truth_far (Previous a w) r e j lo hi far = far_previous a w r e j lo hi far
    truth_far (Since a b w) r e j lo hi far = far_since a b w r e j lo hi far
    truth_far (Count a b s w) r e j lo hi far = far_count a b s w r e j lo hi far

pub past_reach : PastReach
past_reach M fs front log n r e order some-line far =
    built_along None never never (Agrees M front log order some-line) (λ r none. cc none) reach_of (truth_of M (front ++ log)) (truth_of M log)
    (λ rs ts us all f. truth_far M front log order some-line rs ts us all f)
    fs n r e (length log) some-line (omega arith) far
