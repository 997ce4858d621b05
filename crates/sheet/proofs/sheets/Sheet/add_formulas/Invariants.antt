use Rattle.std.proofs.Common.{◌≡◌, drop, map}
use Rattle.sheet.specs.Bytes.{add_formulas, fields_in}
use Rattle.sheet.specs.Conditions.{server}
use Rattle.sheet.specs.Contents.{of}
use Rattle.sheet.proofs.sheets.Sheet.add_formulas.Given as goal

-- adding what is left gives what adding all gives
abbrev pub invariant-loop-i : goal.invariant-loop-i
invariant-loop-i l = add_formulas server l.i (of l.self) (drop l.i (map fields_in l.formulas)) ≡ add_formulas server 0 (of l.initial.self) (map fields_in l.formulas)
