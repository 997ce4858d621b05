use Rattle.std.proofs.Common.{arith}
use Rattle.feed.proofs.Scan.{scan_on, scan_line, scan_wrong, scan_clean, scan_cut}
use Rattle.feed.proofs.text.TextFormat.read_at.Goals as goal

pub loop-i-preserved : goal.loop-i-preserved
loop-i-preserved c = scan_on _ _ _ _ c.loop-i.invariant c.requires c.loop-i-test.true c.in-On.on c.in-On.ensures

pub returns-in-Line : goal.returns-in-Line
returns-in-Line c = scan_line _ _ _ _ c.loop-i.invariant c.requires c.loop-i-test.true c.in-Line.line c.in-Line.ensures

pub returns-in-Wrong : goal.returns-in-Wrong
returns-in-Wrong c = rw (c.fault.ensures, c.cause.ensures) (scan_wrong _ _ _ _ c.loop-i.invariant c.requires c.loop-i-test.true c.in-Wrong.ensures)

pub returns-in-Start : goal.returns-in-Start
returns-in-Start c = scan_clean _ _ _ _ c.loop-i.invariant c.requires c.loop-i-test.false c.in-Start.is

pub returns-in_default : goal.returns-in_default
returns-in_default c = rw c.fault-in_default.ensures (scan_cut _ _ _ _ c.loop-i.invariant c.requires (omega arith) c.in_default.not-Start)
