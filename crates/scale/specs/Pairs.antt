-- What two sets mean as one. Assumes nothing.
use Rattle.std.specs.Prelude.{◌≡◌, ℕ, ◌-◌, ◌≤◌, min, Bool, cond, nat_lt}
use Rattle.std.proofs.Common.{ap, arith}
use Rattle.std.proofs.lemmas.Bool.Decides.{nat_tests}
use Rattle.scale.specs.declared.pairs.Paired.{Paired}
use Rattle.scale.specs.Meaning.{Laws}

-- what is asked of a scale below 4 is the first's, of another the second's; a scale above 7 is
-- read as 7
abbrev pub either : {A B V : Type 0} → (A → ℕ → V) → (B → ℕ → V) → Paired A B → ℕ → V
either f g p i = cond (nat_lt i 4) (f p.first i) (g p.second (min i 7 - 4))

-- the same, where a count is asked about
abbrev pub either_of : {A B V : Type 0} → (A → ℕ → ℕ → V) → (B → ℕ → ℕ → V) → Paired A B → ℕ → ℕ → V
either_of f g p i n = either (λ a j. f a j n) (λ b j. g b j n) p i

last : {A B V : Type 0} (f : A → ℕ → V) (g : B → ℕ → V) (p : Paired A B) (i : ℕ) → 7 ≤ i → either f g p i ≡ either f g p 7
last f g p i h = let e : min i 7 - 4 ≡ 3 = omega arith in grind (arith, nat_tests, ap (g p.second) e)

module _ {A B : Type 0} {m : A → ℕ → ℕ → Bool} {f : A → ℕ → ℕ → ℕ} {s : A → ℕ → ℕ} {n : B → ℕ → ℕ → Bool} {g : B → ℕ → ℕ → ℕ} {t : B → ℕ → ℕ} (a : Laws m f s) (b : Laws n g t) where
  pub laws : Laws (either_of m n) (either_of f g) (either s t)
  laws = record {
    least = λ p i. grind (arith, nat_tests, a.least p.first i, b.least p.second (min i 7 - 4));
    most = λ p i. grind (arith, nat_tests, a.most p.first i, b.most p.second (min i 7 - 4));
    below = λ p i c. grind (arith, nat_tests, a.below p.first i c, b.below p.second (min i 7 - 4) c);
    last_meaning = λ p i c h. last (λ x j. m x j c) (λ x j. n x j c) p i h;
    last_folding = λ p i c h. last (λ x j. f x j c) (λ x j. g x j c) p i h;
    last_size = λ p i h. last s t p i h;
  }
