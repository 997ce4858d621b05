-- What a limit k means, and how it folds counts. Assumes nothing.
use Rattle.std.specs.Prelude.{ℕ, ◌+◌, min, Bool, cond, Some, None, Option, nat_le, nat_lt}
use Rattle.scale.specs.declared.answers.Refusal.{Refusal}
use Rattle.scale.specs.declared.answers.Refusal.TheVariants.{Limit}

-- yes to counts above k
abbrev pub says : ℕ → ℕ → Bool
says k n = nat_lt k n

-- counts above k share the class k + 1
abbrev pub folded : ℕ → ℕ → ℕ
folded k n = min n (k + 1)

abbrev pub size : ℕ → ℕ
size k = k + 2

-- why a number is no limit
abbrev pub refusal : ℕ → Option Refusal
refusal k = cond (nat_le k 1000) None (Some Limit)
