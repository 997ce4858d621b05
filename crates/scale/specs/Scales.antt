-- What every scale shows of the numbers that make it, of what it says and of how it folds counts.
-- Assumes nothing.
use Rattle.std.specs.Prelude.{◌≡◌, ℕ, ◌+◌, ◌<◌, ◌≤◌, Bool}

pub record Laws {N S : Type 0} (given : N → S → Type 0) (meant : N → ℕ → Bool) (says : S → ℕ → Bool) (folded : S → ℕ → ℕ) (size : S → ℕ) : Type 0 where
  -- the class of a count is below the size, so that there is a class
  pub below : (s : S) (n : ℕ) → folded s n < size s
  pub most : (s : S) → size s ≤ 1024
  -- the classes of two counts give that of their sum
  pub sum : (s : S) (m n : ℕ) → folded s (folded s m + folded s n) ≡ folded s (m + n)
  -- a scale says what the numbers mean that made it
  pub as_meant : (numbers : N) (s : S) → given numbers s → (n : ℕ) → says s n ≡ meant numbers n
