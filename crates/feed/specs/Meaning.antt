-- What a feed means to those who draw from it. Assumes nothing.
use Rattle.std.specs.Prelude.{◌≡◌, ℕ, ◌+◌, ◌≤◌, List, [], ◌∷◌, map, length, drop, ◌≢◌, slice_index}
use Rattle.line.specs.declared.Line.{Line}
use Rattle.line.specs.declared.Fault.{Fault}
use Rattle.feed.specs.declared.answers.Ending.{Ending}
use Rattle.feed.specs.declared.answers.Ending.TheVariants.{Clean, Fault as Faulty}
use Rattle.feed.specs.declared.answers.Next.{Next}
use Rattle.feed.specs.declared.answers.Next.TheVariants.{Line as Handed, Ended}

-- the first line to come, or the ending where none is to come
abbrev pub answer : List Line → Ending → Next
answer [] e = Ended e
answer (l ∷ ls) e = Handed l

-- a layer that a feed may have
abbrev pub FeedLayer : ℕ → Type 0
FeedLayer n = (3 ≤ n) × (n ≢ 5)

-- a number that a feed may tell: not one that the parts above it tell of a line or a call
abbrev pub FeedNumber : ℕ → Type 0
FeedNumber n = (n ≢ 23) × (41 ≤ n → n ≤ 44 → ⊥)

abbrev pub FeedFault : Fault → Type 0
FeedFault f = FeedLayer f.layer × FeedNumber f.number

abbrev pub FeedEnding : Ending → Type 0
FeedEnding Clean = Unit {0}
FeedEnding (Faulty f) = FeedFault f

-- what every kind of feed shows of its meaning
pub record Laws {S : Type 0} (level : ℕ) (lines : S → List Line) (lengths : S → List ℕ) (ending : S → Ending) : Type 0 where
  pub measured : (s : S) → length (lengths s) ≡ length (lines s)
  pub layer : FeedLayer level
  pub faults : (s : S) → FeedEnding (ending s)

-- what bytes answer at a place, and the place behind it: of the bytes, the size, and from each place
-- on, the lines, how long each is, and the ending
pub record At (size : ℕ) (lines : ℕ → List Line) (long : Line → ℕ) (end : ℕ → Ending) (start : ℕ) (r : Next) (next : ℕ) : Type 0 where
  pub value : r ≡ answer (lines start) (end start)
  pub within : next ≤ size
  pub rest : lines next ≡ drop 1 (lines start)
  pub ending : end next ≡ end start
  pub passed : next ≡ start + slice_index (map long (lines start)) 0
