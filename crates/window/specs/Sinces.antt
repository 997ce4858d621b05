-- What the since pair tells of lines, the oldest first. Assumes nothing.
use Rattle.std.specs.Prelude.{Bool, false, ◌&&◌, ◌||◌, List, [], ◌∷◌}
use Rattle.std.specs.List.{list_all}
use Rattle.window.specs.declared.Truths.{Truths}
use Rattle.window.specs.declared.sinces.Since.{Since}
use Rattle.window.specs.declared.sinces.SincePair.{SincePair}

-- every line has a
abbrev pub unbroken : List Truths → Bool
unbroken lines = list_all (λ line. line.a) lines

-- some line has b, and every line after it has a
abbrev pub held : List Truths → Bool
held [] = false
held (line ∷ after) = (line.b && unbroken after) || held after

abbrev pub value : SincePair → List Truths → Since
value kind lines = record { unbroken = unbroken lines; held = held lines }
