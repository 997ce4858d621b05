-- Places of a log, from 1: some, every, the last, how many. Assumes nothing.
use Rattle.std.specs.Prelude.{ℕ, zero, suc, ◌+◌, Bool, true, false, cond, not, ◌&&◌, ◌||◌, nat_lt}

-- some place up to j has p
abbrev pub some : ℕ → (ℕ → Bool) → Bool
some zero p = false
some (suc j) p = p (suc j) || some j p

-- every place after h, up to j, has p
abbrev pub every : ℕ → ℕ → (ℕ → Bool) → Bool
every h zero p = true
every h (suc j) p = (not (nat_lt h (suc j)) || p (suc j)) && every h j p

-- the last place up to j that has p, or 0
abbrev pub last : ℕ → (ℕ → Bool) → ℕ
last zero p = 0
last (suc j) p = cond (p (suc j)) (suc j) (last j p)

-- how many places up to j have p
abbrev pub count : ℕ → (ℕ → Bool) → ℕ
count zero p = 0
count (suc j) p = cond (p (suc j)) 1 0 + count j p
