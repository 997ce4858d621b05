-- What is refused, and why: the first of the reasons that applies, in the order of their numbers.
-- Assumes nothing.
use Rattle.std.specs.Prelude.{ℕ, ◌+◌, Bool, cond, not, ◌&&◌, ◌||◌, length, is_some, Some, None, Ok, Err, Option, Result, ◌==◌, nat_le, nat_lt}
use Rattle.sheet.specs.declared.answers.Refusal.{Refusal}
use Rattle.sheet.specs.declared.answers.Refusal.TheVariants.{Full, Kind, Spare, Mark, Forward, Window, Scale, Cells}
use Rattle.sheet.specs.declared.fields.Fields.{Fields}
use Rattle.sheet.specs.declared.limits.Limits.{Limits}
use Rattle.sheet.specs.Contents.{Contents}
use Rattle.sheet.specs.Formulas.{used, formula_of, cells_of, total}
use Rattle.sheet.specs.Windows.{window_of}

-- a field that is not used, and not 0
abbrev pub idle : Bool → ℕ → Bool
idle uses x = not uses && not (x == 0)

abbrev pub spare : Fields → Bool
spare f =
    idle (used f.kind).a f.a || (idle (used f.kind).b f.b || (idle (used f.kind).scale f.scale
    || (idle (used f.kind).window f.low || idle (used f.kind).window f.high)))

-- a formula that is named and is not among the first n
abbrev pub forward : ℕ → Fields → Bool
forward n f = (nat_le 2 f.kind && nat_le n f.a) || ((used f.kind).b && nat_le n f.b)

-- a window that is none
abbrev pub unwindowed : Fields → Bool
unwindowed f = (used f.kind).window && not (is_some (window_of f.low f.high))

-- what is wrong with fields by themselves, where n formulas are there
abbrev pub fault : ℕ → Fields → Option Refusal
fault n f =
    cond (nat_lt 6 f.kind) (Some Kind)
    (cond (spare f) (Some Spare)
    (cond (f.kind == 1 && nat_lt 25 f.a) (Some Mark)
    (cond (forward n f) (Some Forward)
    (cond (unwindowed f) (Some Window)
    (cond (nat_lt 7 f.scale) (Some Scale) None)))))

-- something, unless it is refused
abbrev pub unless : {X : Type 0} → Option Refusal → X → Result X Refusal
unless None x = Ok x
unless (Some r) x = Err r

abbrev pub or_else : Option Refusal → Option Refusal → Option Refusal
or_else None y = y
or_else (Some x) y = Some x

-- why fields are not taken as the next formula
abbrev pub refusal : Limits → Contents → Fields → Option Refusal
refusal limits c f =
    cond (nat_le limits.formulas (length c.formulas)) (Some Full)
    (or_else (fault (length c.formulas) f)
    (cond (nat_lt limits.cells (total c.formulas + cells_of (formula_of f))) (Some Cells) None))

-- why a number is not taken as the next rule
abbrev pub rule_refusal : Limits → Contents → ℕ → Option Refusal
rule_refusal limits c n =
    cond (nat_le limits.rules (length c.rules)) (Some Full)
    (cond (nat_le (length c.formulas) n) (Some Forward) None)
