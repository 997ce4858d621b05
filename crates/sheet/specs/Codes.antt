-- The service numbers of what a sheet refuses. Assumes nothing.
use Rattle.std.specs.Prelude.{ℕ}
use Rattle.line.specs.declared.Fault.{Fault}
use Rattle.sheet.specs.declared.answers.ReadRefusal.{ReadRefusal}
use Rattle.sheet.specs.declared.answers.ReadRefusal.TheVariants.{Length, Trailer, Item}
use Rattle.sheet.specs.declared.answers.Refusal.{Refusal}
use Rattle.sheet.specs.declared.answers.Refusal.TheVariants.{Full, Kind, Spare, Mark, Forward, Window, Scale, Cells}
use Rattle.sheet.specs.declared.answers.WriteRefusal.{WriteRefusal}
use Rattle.sheet.specs.declared.answers.WriteRefusal.TheVariants.{Short}

abbrev pub number : Refusal → ℕ
number Full = 11
number Kind = 12
number Spare = 13
number Mark = 14
number Forward = 15
number Window = 16
number Scale = 17
number Cells = 18

-- the bytes are layer 1, the sheet's items layer 2
abbrev pub read_fault : ReadRefusal → Fault
read_fault Length = record { layer = 1; number = 21; place = 0 }
read_fault Trailer = record { layer = 1; number = 22; place = 0 }
read_fault (Item place refusal) = record { layer = 2; number = number refusal; place = place }

abbrev pub short_number : WriteRefusal → ℕ
short_number Short = 23
