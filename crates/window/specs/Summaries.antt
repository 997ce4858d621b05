-- How the values of a summary are put together. Assumes nothing.
use Rattle.std.specs.Prelude.{◌≡◌, List, ◌++◌}

-- r is the value of any list that has the value x, followed by any list that has the value y
abbrev pub Joins : {L V : Type 0} → (List L → V) → V → V → V → Type 0
Joins value x y r = (xs ys : List _) → x ≡ value xs → y ≡ value ys → r ≡ value (xs ++ ys)
