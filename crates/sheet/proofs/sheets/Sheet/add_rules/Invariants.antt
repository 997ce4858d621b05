use Rattle.std.proofs.Common.{◌≡◌, ◌+◌, drop}
use Rattle.sheet.specs.Bytes.{add_rules}
use Rattle.sheet.specs.Conditions.{server}
use Rattle.sheet.specs.Contents.{of}
use Rattle.sheet.proofs.sheets.Sheet.add_rules.Given as goal

-- adding what is left gives what adding all gives
abbrev pub invariant-loop-i : goal.invariant-loop-i
invariant-loop-i l = add_rules server (l.first + l.i) (of l.self) (drop l.i l.rules) ≡ add_rules server l.first (of l.initial.self) l.rules
