-- What a wheel of a bound, a period and a pattern means, and how it folds counts. Assumes nothing.
use Rattle.std.specs.Prelude.{ℕ, ◌+◌, ◌-◌, ◌/◌, ◌%◌, ◌^◌, Bool, cond, ◌||◌, Some, None, Option, ◌==◌, nat_lt}
use Rattle.scale.specs.declared.answers.Refusal.{Refusal}
use Rattle.scale.specs.declared.answers.Refusal.TheVariants.{Wheel, Pattern}

-- bit i of a pattern is set
abbrev pub bit : ℕ → ℕ → Bool
bit pattern i = pattern / 2 ^ i % 2 == 1

-- counts below the bound are classes of their own, and later ones go round
abbrev pub folded : ℕ → ℕ → ℕ → ℕ
folded bound period n = cond (nat_lt n bound) n (bound + (n - bound) % period)

-- the pattern's bit of the count's class
abbrev pub says : ℕ → ℕ → ℕ → ℕ → Bool
says bound period pattern n = bit pattern (folded bound period n)

abbrev pub size : ℕ → ℕ → ℕ
size bound period = bound + period

abbrev pub joined : ℕ → ℕ → ℕ → ℕ → ℕ
joined bound period a b = folded bound period (a + b)

-- why these numbers are no wheel: there is no period, or there are too many classes; and else the
-- pattern has a bit from bound + period on
abbrev pub refusal : ℕ → ℕ → ℕ → Option Refusal
refusal bound period pattern = cond (period == 0 || nat_lt 64 (bound + period)) (Some Wheel) (cond (nat_lt pattern (2 ^ (bound + period))) None (Some Pattern))
