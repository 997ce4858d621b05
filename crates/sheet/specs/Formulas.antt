-- Formulas: what they are made of, what they cost, how far back they reach. Assumes nothing.
use Rattle.std.specs.Prelude.{ℕ, ◌+◌, ◌-◌, max, cond, ◌||◌, List, [], ◌∷◌, ◌++◌, Some, None, Option, ◌==◌, nat_le, slice_index_or}
use Rattle.std.specs.Option.{unwrap_or}
use Rattle.sheet.specs.declared.fields.Fields.{Fields}
use Rattle.sheet.specs.declared.formulas.Formula.{Formula}
use Rattle.sheet.specs.declared.kinds.Used.{Used}
use Rattle.sheet.specs.declared.formulas.Formula.TheVariants.{Never, Mark, Not, Or, Previous, Since, Count}
use Rattle.sheet.specs.declared.windows.Window.{Window}
use Rattle.sheet.specs.declared.windows.Window.TheVariants.{Closed, Open}
use Rattle.sheet.specs.Fields.{raw, within}
use Rattle.sheet.specs.Windows.{window_of, window_cells}

-- which fields a kind uses: 0 never, 1 mark, 2 not, 3 or, 4 previous, 5 since, 6 count

abbrev pub used : ℕ → Used
used kind = record { a = nat_le 1 kind; b = kind == 3 || nat_le 5 kind; scale = nat_le 6 kind; window = nat_le 4 kind }

-- the formula that lawful fields are, and back

abbrev pub window_in : Fields → Window
window_in f = unwrap_or (window_of f.low f.high) (Open 0)

abbrev pub formula_of : Fields → Formula
formula_of f =
    cond (f.kind == 0) Never
    (cond (f.kind == 1) (Mark f.a)
    (cond (f.kind == 2) (Not f.a)
    (cond (f.kind == 3) (Or f.a f.b)
    (cond (f.kind == 4) (Previous f.a (window_in f))
    (cond (f.kind == 5) (Since f.a f.b (window_in f)) (Count f.a f.b f.scale (window_in f)))))))

abbrev pub fields_of : Formula → Fields
fields_of Never = raw 0 0 0 0
fields_of (Mark m) = raw 1 m 0 0
fields_of (Not a) = raw 2 a 0 0
fields_of (Or a b) = raw 3 a b 0
fields_of (Previous a w) = within (raw 4 a 0 0) w
fields_of (Since a b w) = within (raw 5 a b 0) w
fields_of (Count a b s w) = within (raw 6 a b s) w

-- cells

abbrev pub cells_of : Formula → ℕ
cells_of Never = 0
cells_of (Mark m) = 0
cells_of (Not a) = 0
cells_of (Or a b) = 0
cells_of (Previous a w) = 1
cells_of (Since a b w) = window_cells w
cells_of (Count a b s w) = window_cells w

abbrev pub total : List Formula → ℕ
total [] = 0
total (f ∷ fs) = cells_of f + total fs

-- a value for each formula, made from the values of those before it

abbrev pub built_on : {X : Type 0} → (List X → Formula → X) → List X → List Formula → List X
built_on step done [] = done
built_on step done (f ∷ fs) = built_on step (done ++ step done f ∷ []) fs

abbrev pub built : {X : Type 0} → (List X → Formula → X) → List Formula → List X
built step fs = built_on step [] fs

-- reach: the seconds beyond which nothing older matters; none with an open window in or below

abbrev pub greater : Option ℕ → Option ℕ → Option ℕ
greater None y = None
greater (Some x) None = None
greater (Some x) (Some y) = Some (max x y)

abbrev pub beyond : Window → Option ℕ → Option ℕ
beyond (Closed low high) None = None
beyond (Closed low high) (Some x) = Some (high - 1 + x)
beyond (Open low) x = None

abbrev pub reach_at : List (Option ℕ) → ℕ → Option ℕ
reach_at rs a = slice_index_or rs a None

-- of a formula, from the reaches of those before it
abbrev pub reach_of : List (Option ℕ) → Formula → Option ℕ
reach_of rs Never = Some 0
reach_of rs (Mark m) = Some 0
reach_of rs (Not a) = reach_at rs a
reach_of rs (Or a b) = greater (reach_at rs a) (reach_at rs b)
reach_of rs (Previous a w) = beyond w (reach_at rs a)
reach_of rs (Since a b w) = beyond w (greater (reach_at rs a) (reach_at rs b))
reach_of rs (Count a b s w) = beyond w (greater (reach_at rs a) (reach_at rs b))

abbrev pub reaches : List Formula → List (Option ℕ)
reaches fs = built reach_of fs

-- of the formula with a number; a number that is not there has none
abbrev pub reach : List Formula → ℕ → Option ℕ
reach fs n = reach_at (reaches fs) n
