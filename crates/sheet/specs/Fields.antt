-- Raw fields. Assumes nothing.
use Rattle.std.specs.Prelude.{◌≡◌, ℕ, ◌<◌, MatchResult, Result}
use Rattle.sheet.specs.declared.answers.Refusal.{Refusal}
use Rattle.sheet.specs.declared.answers.Refusal.TheVariants.{Kind as NoKind}
use Rattle.sheet.specs.declared.fields.Fields.{Fields}
use Rattle.sheet.specs.declared.kinds.Kind.{Kind}
use Rattle.sheet.specs.declared.kinds.Kind.TheVariants.{Never, Mark, Not, Or, Previous, Since, Count}
use Rattle.sheet.specs.declared.windows.Window.{Window}
use Rattle.sheet.specs.Windows.{raw_low, raw_high}

-- the number of a kind
abbrev pub kind_number : Kind → ℕ
kind_number Never = 0
kind_number Mark = 1
kind_number Not = 2
kind_number Or = 3
kind_number Previous = 4
kind_number Since = 5
kind_number Count = 6

-- a number is read as its kind, or refused where no kind has it
abbrev pub KindRead : ℕ → Result Kind Refusal → Type 0
KindRead n r = MatchResult r (λ kind. n ≡ kind_number kind) (λ e. (e ≡ NoKind) × (6 < n))

-- without a window
abbrev pub raw : ℕ → ℕ → ℕ → ℕ → Fields
raw kind a b scale = record { kind = kind; a = a; b = b; scale = scale; low = 0; high = 0 }

-- with one
abbrev pub within : Fields → Window → Fields
within f w = record { kind = f.kind; a = f.a; b = f.b; scale = f.scale; low = raw_low w; high = raw_high w }
