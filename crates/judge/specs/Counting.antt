-- Counting plainly, from a place back. Assumes nothing.
use Rattle.std.specs.Prelude.{ℕ, Bool, ◌&&◌, nat_lt}
use Rattle.truth.specs.Places.{count, every, last, some}
use Rattle.truth.specs.Truth.{holds, within}
use Rattle.judge.specs.declared.counting.Asked.{Asked}
use Rattle.judge.specs.declared.held.Held.{Held}
use Rattle.judge.specs.Scales.{meaning}

-- the formula n at the place j of a held log
unfoldable pub truth : Held → ℕ → ℕ → Bool
truth held n j = holds (meaning held.scales.now) held.formulas.now held.log.now n j

module _ (held : Held) (asked : Asked) where
  -- the gap from a place to the one that is asked lies in the window
  abbrev pub near : ℕ → Bool
  near i = within held.log.now asked.window asked.place i

  -- some place up to h is near and has b, and a holds at every place after it up to h
  unfoldable pub since_up_to : ℕ → Bool
  since_up_to h = some h (λ i. near i && (truth held asked.b i && every i h (truth held asked.a)))

  -- how many places up to h are near and have b, after the last up to h that is near and has a
  unfoldable pub count_up_to : ℕ → ℕ
  count_up_to h = count h (λ i. near i && (nat_lt (last h (λ i. near i && truth held asked.a i)) i && truth held asked.b i))
