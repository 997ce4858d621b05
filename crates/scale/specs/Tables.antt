-- What a table of eight scales means. Assumes nothing.
use Rattle.std.specs.Prelude.{◌≡◌, ℕ, ◌≤◌, min, Bool, slice_index_or}
use Rattle.std.proofs.Common.{ap, arith}
use Rattle.scale.specs.declared.tables.Table.{Table}
use Rattle.scale.specs.Meaning as set
use Rattle.scale.specs.Scales as one

-- the scale of a number; a number above 7 is read as 7
abbrev pub scale : {S : Type 0} → S → Table S → ℕ → S
scale fresh t i = slice_index_or t.scales (min i 7) fresh

-- what is asked of a scale of the table
abbrev pub asked : {S V : Type 0} → S → (S → V) → Table S → ℕ → V
asked fresh f t i = f (scale fresh t i)

last : {S V : Type 0} (fresh : S) (f : S → V) (t : Table S) (i : ℕ) → 7 ≤ i → asked fresh f t i ≡ asked fresh f t 7
last fresh f t i h = let e : min i 7 ≡ 7 = omega arith in ap (λ (j : ℕ). f (slice_index_or t.scales j fresh)) e

pub laws : {N S : Type 0} {given : N → S → Type 0} {meant : N → ℕ → Bool} {says : S → ℕ → Bool} {folded : S → ℕ → ℕ} {size : S → ℕ} (fresh : S) → one.Laws given meant says folded size → set.Laws (asked fresh says) (asked fresh folded) (asked fresh size)
laws {says = says} {folded = folded} {size = size} fresh l = record {
  least = λ t i. omega (arith, l.below (scale fresh t i) 0);
  most = λ t i. l.most (scale fresh t i);
  below = λ t i n. l.below (scale fresh t i) n;
  last_meaning = λ t i n h. ap (λ (x : ℕ → Bool). x n) (last fresh says t i h);
  last_folding = λ t i n h. ap (λ (x : ℕ → ℕ). x n) (last fresh folded t i h);
  last_size = λ t i h. last fresh size t i h;
}
