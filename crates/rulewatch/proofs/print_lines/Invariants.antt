use Rattle.std.proofs.Common.{◌≡◌, ◌+◌, ◌^◌, ◌<◌, length}
use Rattle.rulewatch.proofs.print_lines.Given as goal

-- what was printed and what is to come are all the lines, and the ending stays
abbrev pub invariant-loop-line : goal.invariant-loop-line
invariant-loop-line g l =
    (length (g.F.Feed.lines l.initial.feed) < 2 ^ 64 → l.count + length (g.F.Feed.lines l.feed) ≡ length (g.F.Feed.lines l.initial.feed))
    × (g.F.Feed.ending l.feed ≡ g.F.Feed.ending l.initial.feed)

abbrev pub decreases-loop-line : goal.decreases-loop-line
decreases-loop-line g l = length (g.F.Feed.lines l.feed)
