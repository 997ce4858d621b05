-- The conditions that every sheet obeys. Assumes nothing.
use Rattle.std.specs.Prelude.{◌≡◌, ℕ, ◌<◌, ◌≤◌, Bool, true, ◌&&◌, List, length, nat_le, nat_lt, slice_index, slice_index_or}
use Rattle.sheet.specs.declared.formulas.Formula.{Formula}
use Rattle.sheet.specs.declared.formulas.Formula.TheVariants.{Never, Mark, Not, Or, Previous, Since, Count}
use Rattle.sheet.specs.declared.limits.Limits.{Limits}
use Rattle.sheet.specs.Formulas.{total}
use Rattle.sheet.specs.Windows.{lawful_window}

abbrev pub server : Limits
server = record { formulas = 64; rules = 8; cells = 8192 }

-- what a formula may be that has n formulas before it: a and b name some of these
abbrev pub lawful_at : ℕ → Formula → Bool
lawful_at n Never = true
lawful_at n (Mark m) = nat_le m 25
lawful_at n (Not a) = nat_lt a n
lawful_at n (Or a b) = nat_lt a n && nat_lt b n
lawful_at n (Previous a w) = nat_lt a n && lawful_window w
lawful_at n (Since a b w) = nat_lt a n && (nat_lt b n && lawful_window w)
lawful_at n (Count a b s w) = nat_lt a n && (nat_lt b n && (nat_le s 7 && lawful_window w))

-- every formula is lawful at its place
abbrev pub EachLawful : List Formula → Type 0
EachLawful formulas = (i : ℕ) → i < length formulas → lawful_at i (slice_index_or formulas i Never) ≡ true

-- every rule is the number of a formula
abbrev pub EachNamed : List Formula → List ℕ → Type 0
EachNamed formulas rules = (i : ℕ) → i < length rules → slice_index rules i < length formulas

-- formulas and rules that may stand on a sheet: few of each, all lawful, at few cells
pub record Conditions (limits : Limits) (formulas : List Formula) (rules : List ℕ) : Type 0 where
  pub few_formulas : length formulas ≤ limits.formulas
  pub few_rules : length rules ≤ limits.rules
  pub cheap : total formulas ≤ limits.cells
  pub lawful : EachLawful formulas
  pub named : EachNamed formulas rules
