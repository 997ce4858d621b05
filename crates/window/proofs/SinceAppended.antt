-- The since pair of one list followed by another.
use Rattle.std.proofs.Common.{◌≡◌, List, [], ◌∷◌, ◌++◌, arith}
use Rattle.std.specs.Prelude.{◌&&◌, ◌||◌}
use Rattle.std.proofs.lemmas.List.Folds.{list_all-append}
use Rattle.std.proofs.lemmas.Grind.{common_steps}
use Rattle.window.specs.declared.Truths.{Truths}
use Rattle.window.specs.declared.sinces.Since.{Since}
use Rattle.window.specs.declared.sinces.SincePair.{SincePair}
use Rattle.window.specs.Sinces.{held, unbroken, value}
use Rattle.window.specs.Summaries.{Joins}

unbroken_append : (xs ys : List Truths) → unbroken (xs ++ ys) ≡ (unbroken xs && unbroken ys)
unbroken_append xs ys = list_all-append (λ (line : Truths). line.a) xs ys

held_append : (xs ys : List Truths) → held (xs ++ ys) ≡ (held ys || (held xs && unbroken ys))
held_append [] ys = grind (arith, common_steps)
held_append (x ∷ xs) ys = grind (arith, common_steps, held_append xs ys, unbroken_append xs ys)

pub joins : (kind : SincePair) (older newer : Since) → Joins (value kind) older newer (record { unbroken = older.unbroken && newer.unbroken; held = newer.held || (older.held && newer.unbroken) })
joins kind older newer xs ys is_older is_newer = rw (is_older, is_newer, unbroken_append xs ys, held_append xs ys)
