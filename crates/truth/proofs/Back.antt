-- What follows a place does not change the truth at it. Assumes nothing.
use Rattle.std.proofs.Common.{◌≡◌, ℕ, ◌-◌, ◌≤◌, Bool, false, not, ◌&&◌, ◌||◌, ltb, List, ◌++◌, length, get_or, refl, ap, ap₂, arith}
use Rattle.std.proofs.lemmas.List.{get_or_append_left}
use Rattle.std.proofs.lemmas.Bool.{ltb-true}
use Rattle.line.specs.declared.Line.{Line}
use Rattle.line.specs.Marks.{has}
use Rattle.sheet.specs.declared.Formula.{Formula}
use Rattle.sheet.specs.declared.Formula.TheVariants.{Never, Mark, Not, Or, Previous, Since, Count}
use Rattle.sheet.specs.declared.Window.{Window}
use Rattle.sheet.specs.Windows.{inside}
use Rattle.truth.specs.Laws.{LooksBack}
use Rattle.truth.specs.Truth.{at, counted, Meanings, previous, reset, since, truth_of, within}
use Rattle.truth.proofs.Along.{built_along}
use Rattle.truth.proofs.Shift.{count_agree, every_agree, last_agree, some_agree, where_so}

abbrev pub never : ℕ → Bool
never j = false

module _ (M : Meanings) (log more : List Line) where
  same_line : (j : ℕ) → 1 ≤ j → j ≤ length log → at (log ++ more) j ≡ at log j
  same_line j lo hi = get_or_append_left log more _ (j - 1) (omega arith)

  same_within : (w : Window) (j h : ℕ) → 1 ≤ h → h ≤ j → j ≤ length log → within (log ++ more) w j h ≡ within log w j h
  same_within w j h lo mid hi = λ i. inside w ((same_line j (omega arith) hi i).time - (same_line h lo (omega arith) i).time)

  -- truths that agree at every place of the log
  abbrev Alike : (ℕ → Bool) → (ℕ → Bool) → Type 0
  Alike t u = (j : ℕ) → 1 ≤ j → j ≤ length log → t j ≡ u j

  module _ (a b a' b' : ℕ → Bool) (w : Window) (ha : Alike a a') (hb : Alike b b') where
    previous_back : Alike (previous (log ++ more) a w) (previous log a' w)
    previous_back j lo hi =
        where_so (ltb 1 j) _ _
        (λ t. let later = ltb-true 1 j t in λ i. same_within w j (j - 1) (omega arith) (omega arith) hi i && ha (j - 1) (omega arith) (omega arith) i)

    since_back : Alike (since (log ++ more) a b w) (since log a' b' w)
    since_back j lo hi =
        some_agree j _ _ (λ h l u. λ i. same_within w j h l u hi i && (hb h l (omega arith) i && every_agree h j a a' (λ k p q. ha k (omega arith) (omega arith)) i))

    reset_back : (j : ℕ) → 1 ≤ j → j ≤ length log → reset (log ++ more) a w j ≡ reset log a' w j
    reset_back j lo hi = last_agree j _ _ (λ h l u. λ i. same_within w j h l u hi i && ha h l (omega arith) i)

    counted_back : (j : ℕ) → 1 ≤ j → j ≤ length log → counted (log ++ more) a b w j ≡ counted log a' b' w j
    counted_back j lo hi = count_agree j _ _ (λ h l u. λ i. same_within w j h l u hi i && (ltb (reset_back j lo hi i) h && hb h l (omega arith) i))

  truth_back : (ts us : List (ℕ → Bool)) → ((i : ℕ) → Alike (get_or ts i never) (get_or us i never)) → (f : Formula) → Alike (truth_of M (log ++ more) ts f) (truth_of M log us f)
  truth_back ts us h Never j lo hi = refl
  truth_back ts us h (Mark m) j lo hi = ap (λ (l : Line). has l.marks m) (same_line j lo hi)
  truth_back ts us h (Not a) j lo hi = ap not (h a j lo hi)
  truth_back ts us h (Or a b) j lo hi = ap₂ ◌||◌ (h a j lo hi) (h b j lo hi)
  truth_back ts us h (Previous a w) j lo hi = previous_back (get_or ts a never) (get_or ts a never) (get_or us a never) (get_or us a never) w (h a) (h a) j lo hi
  truth_back ts us h (Since a b w) j lo hi = since_back (get_or ts a never) (get_or ts b never) (get_or us a never) (get_or us b never) w (h a) (h b) j lo hi
  truth_back ts us h (Count a b s w) j lo hi = ap (M.says s) (counted_back (get_or ts a never) (get_or ts b never) (get_or us a never) (get_or us b never) w (h a) (h b) j lo hi)

pub looks_back : LooksBack
looks_back M fs log more n j lo hi =
    built_along never never never (λ t u _. Alike M log more t u) (λ j lo hi. refl) (truth_of M (log ++ more)) (truth_of M log) (truth_of M log)
    (λ ts us _ all f. truth_back M log more ts us all f)
    fs n j lo hi
