use Rattle.std.proofs.Common.{ℕ, ◌+◌, ◌*◌, ◌^◌, max}
use Rattle.judge.proofs.held.Held.+counting.Given as goal

-- one falling number, made of a formula's number and a place, which is below 2 ^ 64

abbrev measure : ℕ → ℕ → ℕ
measure n h = (2 ^ 64 + 1) * n + h

abbrev pub decreases-holds : goal.decreases-holds
decreases-holds l = measure l.n (2 ^ 64)

abbrev pub decreases-since : goal.decreases-since
decreases-since l = measure (max l.asked.a l.asked.b + 1) l.h

abbrev pub decreases-count : goal.decreases-count
decreases-count l = measure (max l.asked.a l.asked.b + 1) l.h
