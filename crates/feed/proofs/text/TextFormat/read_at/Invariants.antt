use Rattle.std.proofs.Common.{◌+◌}
use Rattle.feed.proofs.Scan.{Sofar}
use Rattle.feed.proofs.text.TextFormat.read_at.Given as goal

abbrev pub invariant-loop-i : goal.invariant-loop-i
invariant-loop-i l = Sofar l.bytes l.start l.state (l.start + l.i)
