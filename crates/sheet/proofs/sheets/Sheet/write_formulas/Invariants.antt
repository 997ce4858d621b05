use Rattle.std.proofs.Common.{vec_items}
use Rattle.sheet.proofs.Writes.{Sofar}
use Rattle.sheet.proofs.sheets.Sheet.write_formulas.Given as goal

abbrev pub invariant-loop-i : goal.invariant-loop-i
invariant-loop-i l = Sofar (vec_items l.self.formulas) l.initial.out l.i l.out
