-- The resetting count of one list followed by another.
use Rattle.std.proofs.Common.{◌≡◌, ℕ, List, [], ◌∷◌, ◌++◌, ◌+◌, arith}
use Rattle.std.specs.Prelude.{false, true, cond, ◌||◌}
use Rattle.std.proofs.lemmas.List.Folds.{list_any-append}
use Rattle.std.proofs.lemmas.List.Sums.{sum_by-append}
use Rattle.std.proofs.lemmas.Grind.{common_steps}
use Rattle.window.specs.declared.Truths.{Truths}
use Rattle.window.specs.declared.counts.Tally.{Tally}
use Rattle.window.specs.declared.counts.ResettingCount.{ResettingCount}
use Rattle.window.specs.Counts.{after_reset, counted, reset, value}
use Rattle.window.specs.Summaries.{Joins}
use Rattle.scale.specs.Meaning as set

reset_append : (xs ys : List Truths) → reset (xs ++ ys) ≡ (reset xs || reset ys)
reset_append xs ys = list_any-append (λ (line : Truths). line.a) xs ys

-- where no line has a, all count
without_reset : (lines : List Truths) → reset lines ≡ false → after_reset lines ≡ lines
without_reset [] h = grind arith
without_reset (x ∷ xs) h = grind arith

after_append : (xs ys : List Truths) → after_reset (xs ++ ys) ≡ cond (reset ys) (after_reset ys) (after_reset xs ++ ys)
after_append [] ys = grind (arith, common_steps, without_reset ys)
after_append (x ∷ xs) ys = grind (arith, common_steps, after_append xs ys, reset_append xs ys)

counted_append : (xs ys : List Truths) → counted (xs ++ ys) ≡ cond (reset ys) (counted ys) (counted xs + counted ys)
counted_append xs ys = grind (arith, common_steps, after_append xs ys, without_reset ys, sum_by-append (λ (line : Truths). cond line.b 1 0) (after_reset xs) ys)

module _ {S : Type 0} (folding : S → ℕ → ℕ → ℕ) (kind : ResettingCount S) where
  abbrev class : ℕ → ℕ
  class n = folding kind.set.now kind.scale n

  -- a reset in the newer list leaves nothing of the older
  pub anew : (older newer : Tally) → newer.reset ≡ true → Joins (value folding kind) older newer newer
  anew older newer is_reset xs ys is_older is_newer =
      let r : reset ys ≡ true = cc in
      let same_reset : reset (xs ++ ys) ≡ reset ys = grind (arith, reset_append xs ys) in
      let same_count : counted (xs ++ ys) ≡ counted ys = grind (arith, counted_append xs ys) in
      rw (same_reset, same_count) is_newer

  -- and without one the counts are added
  pub on : (older newer : Tally) (r : ℕ) → newer.reset ≡ false → set.Joins class older.class newer.class r → Joins (value folding kind) older newer (record { reset = older.reset; class = r })
  on older newer r no_reset sum xs ys is_older is_newer =
      let n : reset ys ≡ false = cc in
      let same_reset : reset (xs ++ ys) ≡ reset xs = grind (arith, reset_append xs ys) in
      let same_count : counted (xs ++ ys) ≡ counted xs + counted ys = grind (arith, counted_append xs ys) in
      let a : older.class ≡ class (counted xs) = cc in
      let b : newer.class ≡ class (counted ys) = cc in
      let k : r ≡ class (counted xs + counted ys) = sum (counted xs) (counted ys) a b in
      let o : older.reset ≡ reset xs = cc in
      rw (same_reset, same_count, o, k)
