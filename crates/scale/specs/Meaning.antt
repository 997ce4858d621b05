-- What a scale set means to those who count with it. Assumes nothing.
use Rattle.std.specs.Prelude.{◌≡◌, ℕ, ◌+◌, ◌<◌, ◌≤◌, Bool}

-- what every scale set shows of its meaning, its folding and its sizes
pub record Laws {S : Type 0} (meaning : S → ℕ → ℕ → Bool) (folding : S → ℕ → ℕ → ℕ) (sizes : S → ℕ → ℕ) : Type 0 where
  pub least : (s : S) (i : ℕ) → 1 ≤ sizes s i
  pub most : (s : S) (i : ℕ) → sizes s i ≤ 1024
  pub below : (s : S) (i n : ℕ) → folding s i n < sizes s i
  -- a scale above 7 is read as 7
  pub last_meaning : (s : S) (i n : ℕ) → 7 ≤ i → meaning s i n ≡ meaning s 7 n
  pub last_folding : (s : S) (i n : ℕ) → 7 ≤ i → folding s i n ≡ folding s 7 n
  pub last_size : (s : S) (i : ℕ) → 7 ≤ i → sizes s i ≡ sizes s 7

-- r is the class of the sum of any two counts that have the classes a and b
abbrev pub Joins : (ℕ → ℕ) → ℕ → ℕ → ℕ → Type 0
Joins fold a b r = (m n : ℕ) → a ≡ fold m → b ≡ fold n → r ≡ fold (m + n)

-- r is what is said to any count that has the class c
abbrev pub Judges : (ℕ → ℕ) → (ℕ → Bool) → ℕ → Bool → Type 0
Judges fold says c r = (n : ℕ) → c ≡ fold n → r ≡ says n
