use Rattle.std.proofs.Common.{◌≡◌, ◌+◌, ◌≤◌, length, drop}
use Rattle.judged.specs.Held.{risen}
use Rattle.judged.proofs.Walks.{above}
use Rattle.judged.proofs.risen.Given as goal

-- the lines so far are in order, and what rises behind them is counted on
abbrev pub invariant-loop-i : goal.invariant-loop-i
invariant-loop-i l = (l.i ≤ length l.log) × (l.i + above l.last (drop l.i l.log) ≡ risen l.log)
