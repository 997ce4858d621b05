use Rattle.std.proofs.Common.{◌≡◌, ◌-◌, ◌≤◌, ◌++◌, vec_items, vec_len, vec_capacity}
use Rattle.judged.proofs.take_lines.Given as goal

-- what is held and what is to come are what was held and was to come, and the ending stays
abbrev pub invariant-loop-feed : goal.invariant-loop-feed
invariant-loop-feed g l =
    (vec_items l.log ++ g.F.Feed.lines l.feed ≡ vec_items l.initial.log ++ g.F.Feed.lines l.initial.feed)
    × (g.F.Feed.ending l.feed ≡ g.F.Feed.ending l.initial.feed)
    × (vec_len l.log ≤ 1025)
    × (1025 ≤ vec_capacity l.log)

abbrev pub decreases-loop-feed : goal.decreases-loop-feed
decreases-loop-feed g l = 1025 - vec_len l.log
