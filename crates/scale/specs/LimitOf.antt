-- What a limit means, and what it owes as a scale. Assumes nothing.
use Rattle.std.specs.Prelude.{◌≡◌, ℕ, Bool}
use Rattle.std.proofs.Common.{ap, arith}
use Rattle.scale.specs.declared.limits.Limit.{Limit}
use Rattle.scale.specs.Limits as limit
use Rattle.scale.specs.Meaning as set
use Rattle.scale.specs.Scales.{Laws}
use Rattle.scale.specs.Tables as table

-- the limit is this number
abbrev pub Given : ℕ → Limit → Type 0
Given k l = l.k ≡ k

abbrev pub fresh : Limit
fresh = record { k = 0; lawful = omega arith }

abbrev pub says : Limit → ℕ → Bool
says l n = limit.says l.k n

abbrev pub folded : Limit → ℕ → ℕ
folded l n = limit.folded l.k n

abbrev pub size : Limit → ℕ
size l = limit.size l.k

pub laws : Laws Given limit.says says folded size
laws = record {
  below = λ l n. omega arith;
  most = λ l. omega (arith, l.lawful);
  sum = λ l m n. omega arith;
  as_meant = λ k l e n. ap (λ (j : ℕ). limit.says j n) e;
}

-- what a table of limits owes as a set
pub set_laws : set.Laws (table.asked fresh says) (table.asked fresh folded) (table.asked fresh size)
set_laws = table.laws fresh laws
