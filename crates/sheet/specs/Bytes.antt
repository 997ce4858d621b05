-- A sheet in bytes. Assumes nothing.
use Rattle.std.specs.Prelude.{◌≡◌, ℕ, zero, suc, ◌+◌, ◌-◌, ◌*◌, ◌/◌, ◌%◌, ◌^◌, Bool, cond, not, ◌||◌, List, [], ◌∷◌, ◌++◌, length, take, drop, Some, None, Ok, Err, MatchBool, Option, Result, ◌==◌, nat_le, nat_lt, slice_index}
use Rattle.std.specs.List.{flat_map}
use Rattle.sheet.specs.declared.answers.ReadRefusal.{ReadRefusal}
use Rattle.sheet.specs.declared.answers.ReadRefusal.TheVariants.{Length, Trailer, Item}
use Rattle.sheet.specs.declared.answers.Refusal.{Refusal}
use Rattle.sheet.specs.declared.answers.WriteRefusal.{WriteRefusal}
use Rattle.sheet.specs.declared.answers.WriteRefusal.TheVariants.{Short}
use Rattle.sheet.specs.declared.fields.Fields.{Fields}
use Rattle.sheet.specs.declared.formulas.Formula.{Formula}
use Rattle.sheet.specs.declared.limits.Limits.{Limits}
use Rattle.sheet.specs.Contents.{Contents, empty, with_formula, with_rule}
use Rattle.sheet.specs.Formulas.{fields_of, formula_of}
use Rattle.sheet.specs.Refused.{refusal, rule_refusal}

-- what a sheet's bytes are

-- a number of 16 bits, its higher byte first
abbrev pub pair : ℕ → List ℕ
pair n = (n / 2 ^ 8 % 2 ^ 8) ∷ (n % 2 ^ 8) ∷ []

abbrev pub field_bytes : Fields → List ℕ
field_bytes f = f.kind ∷ f.a ∷ f.b ∷ f.scale ∷ (pair f.low ++ pair f.high)

abbrev pub formula_bytes : Formula → List ℕ
formula_bytes f = field_bytes (fields_of f)

-- how many formulas, how many rules, and where the rules begin
abbrev pub trailer : ℕ → ℕ → List ℕ
trailer n m = n ∷ m ∷ pair (8 * n)

-- the formulas, the rules, the trailer
abbrev pub bytes_of : Contents → List ℕ
bytes_of c = flat_map formula_bytes c.formulas ++ (c.rules ++ trailer (length c.formulas) (length c.rules))

-- writing into a buffer: the bytes and what was behind them, or nothing where they do not fit
abbrev pub Written : List ℕ → List ℕ → Result ℕ WriteRefusal → List ℕ → Type 0
Written bytes before r after =
    MatchBool (nat_le (length bytes) (length before))
    ((r ≡ Ok (length bytes)) × (after ≡ bytes ++ drop (length bytes) before))
    ((r ≡ Err Short) × (after ≡ before))

-- how bytes are read

-- the trailer's numbers
abbrev pub formulas_in : List ℕ → ℕ
formulas_in bs = slice_index bs (length bs - 4)

abbrev pub rules_in : List ℕ → ℕ
rules_in bs = slice_index bs (length bs - 3)

abbrev pub place_in : List ℕ → ℕ
place_in bs = slice_index bs (length bs - 2) * 256 + slice_index bs (length bs - 1)

abbrev pub bad_length : List ℕ → Bool
bad_length bs = nat_lt (length bs) 4 || not (length bs == 8 * formulas_in bs + rules_in bs + 4)

abbrev pub bad_trailer : List ℕ → Bool
bad_trailer bs = not (place_in bs == 8 * formulas_in bs)

-- how many formulas and rules sound bytes hold
abbrev pub counts : List ℕ → Result (ℕ × ℕ) ReadRefusal
counts bs = cond (bad_length bs) (Err Length) (cond (bad_trailer bs) (Err Trailer) (Ok (formulas_in bs, rules_in bs)))

-- the raw fields at a place
abbrev pub fields_at : List ℕ → ℕ → Fields
fields_at bs at = record {
  kind = slice_index bs at;
  a = slice_index bs (at + 1);
  b = slice_index bs (at + 2);
  scale = slice_index bs (at + 3);
  low = slice_index bs (at + 4) * 256 + slice_index bs (at + 5);
  high = slice_index bs (at + 6) * 256 + slice_index bs (at + 7);
}

-- those in the bytes of a formula
abbrev pub fields_in : List ℕ → Fields
fields_in bytes = fields_at bytes 0

-- those of n formulas, from a place on
unfoldable pub fields_from : ℕ → List ℕ → ℕ → List Fields
fields_from zero bs at = []
fields_from (suc n) bs at = fields_at bs at ∷ fields_from n bs (at + 8)

-- items are added in order, the first at a place, until one is refused

abbrev pub add_each : {X : Type 0} → (Contents → X → Option Refusal) → (Contents → X → Contents) → ℕ → Contents → List X → Result Contents ReadRefusal
add_each refuses with place c [] = Ok c
add_each refuses with place c (x ∷ xs) = elim (refuses c x) [ None ↦ add_each refuses with (suc place) (with c x) xs | Some r ↦ Err (Item place r) ]

unfoldable pub add_formulas : Limits → ℕ → Contents → List Fields → Result Contents ReadRefusal
add_formulas limits place c fs = add_each (refusal limits) (λ d f. with_formula d (formula_of f)) place c fs

unfoldable pub add_rules : Limits → ℕ → Contents → List ℕ → Result Contents ReadRefusal
add_rules limits place c ns = add_each (rule_refusal limits) with_rule place c ns

-- one step where the step before succeeded
abbrev pub then_read : {X : Type 0} → Result X ReadRefusal → (X → Result Contents ReadRefusal) → Result Contents ReadRefusal
then_read (Ok x) next = next x
then_read (Err e) next = Err e

-- the sheet that bytes hold, or why they hold none: the trailer is checked, then formulas and rules
-- are added to an empty sheet
abbrev pub reading : Limits → List ℕ → Result Contents ReadRefusal
reading limits bs =
    then_read (counts bs) (λ nm.
    then_read (add_formulas limits 0 empty (fields_from nm.0 bs 0)) (λ c.
    add_rules limits nm.0 c (take nm.1 (drop (8 * nm.0) bs))))

-- a sheet after items were added to it, where none was refused
abbrev pub Brought : Result Contents ReadRefusal → Result (Unit {0}) ReadRefusal → Contents → Type 0
Brought (Ok c) r after = (r ≡ Ok tt) × (after ≡ c)
Brought (Err e) r after = r ≡ Err e

-- reading into a sheet: it holds what was read, or nothing
abbrev pub Received : Result Contents ReadRefusal → Result (Unit {0}) ReadRefusal → Contents → Type 0
Received (Ok c) r after = (r ≡ Ok tt) × (after ≡ c)
Received (Err e) r after = (r ≡ Err e) × (after ≡ empty)
