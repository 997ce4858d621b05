-- What a wheel means, and what it owes as a scale. Assumes nothing.
use Rattle.std.specs.Prelude.{◌≡◌, ℕ, ◌+◌, ◌-◌, Bool, Option}
use Rattle.std.proofs.Common.{mod-lt, arith}
use Rattle.std.proofs.lemmas.Bool.Decides.{nat_tests}
use native.Mathlib.Nat.{add-mod-mod}
use Rattle.scale.specs.declared.answers.Refusal.{Refusal}
use Rattle.scale.specs.declared.wheels.Wheel.{Wheel}
use Rattle.scale.specs.declared.wheels.WheelNumbers.{WheelNumbers}
use Rattle.scale.specs.Meaning as set
use Rattle.scale.specs.Scales.{Laws}
use Rattle.scale.specs.Tables as table
use Rattle.scale.specs.WheelNumbers as offered
use Rattle.scale.specs.Wheels as wheel

-- the wheel has these numbers
pub record Given (numbers : WheelNumbers) (w : Wheel) : Type 0 where
  pub bound_is : w.bound ≡ numbers.bound
  pub period_is : w.period ≡ numbers.period
  pub pattern_is : w.pattern ≡ numbers.pattern

-- one class, and no to every count
abbrev pub fresh : Wheel
fresh = record { bound = 0; period = 1; pattern = 0; turns = omega arith; few = omega arith; inside = omega arith }

abbrev pub says : Wheel → ℕ → Bool
says w n = wheel.says w.bound w.period w.pattern n

abbrev pub folded : Wheel → ℕ → ℕ
folded w n = wheel.folded w.bound w.period n

abbrev pub size : Wheel → ℕ
size w = wheel.size w.bound w.period

abbrev pub refusal : Wheel → Option Refusal
refusal w = wheel.refusal w.bound w.period w.pattern

module _ (bound period : ℕ) where
  -- a class stands for its count in a sum
  right : (x n : ℕ) → wheel.folded bound period (x + wheel.folded bound period n) ≡ wheel.folded bound period (x + n)
  right x n = grind (arith, nat_tests, add-mod-mod x (n - bound) period)

  -- the classes of two counts give that of their sum
  pub folded_sum : (m n : ℕ) → wheel.folded bound period (wheel.folded bound period m + wheel.folded bound period n) ≡ wheel.folded bound period (m + n)
  folded_sum m n = grind (arith, right (wheel.folded bound period m) n, right n m)

pub laws : Laws Given offered.says says folded size
laws = record {
  below = λ w n. grind (arith, nat_tests, mod-lt (n - w.bound) w.turns);
  most = λ w. omega (arith, w.few);
  sum = λ w m n. folded_sum w.bound w.period m n;
  as_meant = λ numbers w given n i. wheel.says (given.bound_is i) (given.period_is i) (given.pattern_is i) n;
}

-- what a table of wheels owes as a set
pub set_laws : set.Laws (table.asked fresh says) (table.asked fresh folded) (table.asked fresh size)
set_laws = table.laws fresh laws
