-- The marks of a line. Assumes nothing.
use Rattle.std.specs.Prelude.{ℕ, ◌/◌, ◌%◌, ◌^◌, ◌<◌, Bool, ◌==◌, nat_le}

-- mark i is set
abbrev pub has : ℕ → ℕ → Bool
has marks i = marks / 2 ^ i % 2 == 1

-- a mark above 25 is set
abbrev pub unknown : ℕ → Bool
unknown marks = nat_le (2 ^ 26) marks

-- none is
abbrev pub Known : ℕ → Type 0
Known marks = marks < 2 ^ 26
