-- How a fault is told in print. Assumes nothing.
use Rattle.std.specs.Prelude.{ℕ, List, ◌∷◌, ◌++◌, decimal}
use Rattle.line.specs.declared.Fault.{Fault}

-- its layer, its number and its place in decimal, with a space between
abbrev pub told : Fault → List ℕ
told f = decimal f.layer ++ 32 ∷ decimal f.number ++ 32 ∷ decimal f.place
