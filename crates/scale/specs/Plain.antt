-- What a plain scale says. Assumes nothing.
use Rattle.std.specs.Prelude.{ℕ, Bool, Option}
use Rattle.scale.specs.declared.answers.Refusal.{Refusal}
use Rattle.scale.specs.declared.plain_scale.Kind.{Kind}
use Rattle.scale.specs.declared.plain_scale.Kind.TheVariants.{Limit, Wheel}
use Rattle.scale.specs.declared.plain_scale.Plain.{Plain}
use Rattle.scale.specs.Limits as limit
use Rattle.scale.specs.WheelOf as wheel

abbrev kind_says : Kind → ℕ → Bool
kind_says (Limit l) n = limit.says l.k n
kind_says (Wheel w) n = wheel.says w n

abbrev pub says : Plain → ℕ → Bool
says p n = kind_says p.kind n

abbrev kind_refusal : Kind → Option Refusal
kind_refusal (Limit l) = limit.refusal l.k
kind_refusal (Wheel w) = wheel.refusal w

-- why the numbers of a plain scale would be refused
abbrev pub refusal : Plain → Option Refusal
refusal p = kind_refusal p.kind
