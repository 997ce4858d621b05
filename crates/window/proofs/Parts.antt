-- The two parts of a queue.
use Rattle.std.proofs.Common.{◌≡◌, ℕ, zero, suc, ◌<◌, List, [], ◌∷◌, ◌++◌, length, take, drop, get_or, sym, ap, ◌∙◌, arith, take-append-drop}
use Rattle.std.proofs.lemmas.Grind.{common_steps, flat_map-append}
use Rattle.std.proofs.lemmas.List.{length-map}
use Rattle.window.specs.declared.Truths.{Truths}
use Rattle.window.specs.declared.cells.Slot.{Slot}
use Rattle.window.specs.declared.queue.Queue.{Queue}
use Rattle.window.specs.Summaries.{Joins}
use Rattle.window.specs.Waiting.{Second, lines_of, cell_of, cells_of, folds_of, cells_in, folds_in}
use Rattle.window.specs.Queues.{Holds}

lines_of_both : (n : ℕ) (seconds : List Second) → lines_of (take n seconds) ++ lines_of (drop n seconds) ≡ lines_of seconds
lines_of_both n seconds = sym (flat_map-append (λ (second : Second). second.lines) (take n seconds) (drop n seconds)) ∙ ap lines_of (take-append-drop n seconds)

as_many : {V : Type 0} (value : List Truths → V) (slots : List (Slot V)) (seconds : List Second) → cells_in slots ≡ cells_of value seconds → length slots ≡ length seconds
as_many value slots seconds e = sym (length-map slots (λ (slot : Slot _). slot.cell)) ∙ ap length e ∙ length-map seconds (cell_of value)

module _ {V : Type 0} (value : List Truths → V) where
  -- the first fold tells of all that is in front
  front_fold : (slots : List (Slot V)) (seconds : List Second) (n : ℕ) (d : Slot V) → 0 < n → 0 < length slots → cells_in slots ≡ cells_of value seconds → folds_in (take n slots) ≡ folds_of value (take n seconds) → (get_or slots 0 d).fold ≡ value (lines_of (take n seconds))
  front_fold slots seconds zero d h long e f = grind arith
  front_fold [] seconds (suc n) d h long e f = grind arith
  front_fold (s ∷ slots) [] (suc n) d h long e f = cc
  front_fold (s ∷ slots) (w ∷ seconds) (suc n) d h long e f = cc

  pub both : (q : Queue V) (seconds : List Second) (oldest : Slot V) (r : V) → Holds value q seconds → 0 < q.front → oldest ≡ get_or q.slots.items 0 oldest → Joins value oldest.fold q.newer r → r ≡ value (lines_of seconds)
  both q seconds oldest r holds h is joins =
      let many = as_many value q.slots.items seconds holds.cells in
      let within = holds.within in
      let long : 0 < length q.slots.items = omega arith in
      let front = ap (λ (slot : Slot V). slot.fold) is ∙ front_fold q.slots.items seconds q.front oldest h long holds.cells holds.folds in
      joins (lines_of (take q.front seconds)) (lines_of (drop q.front seconds)) front holds.newer ∙ ap value (lines_of_both q.front seconds)

  pub turned : (q after : Queue V) (slots : List (Slot V)) (seconds : List Second) → Holds value q seconds → after.slots.items ≡ slots → after.front ≡ length slots → cells_in slots ≡ cells_in q.slots.items → folds_in slots ≡ folds_of value seconds → after.newer ≡ value [] → Holds value after seconds
  turned q after slots seconds holds is front cells folds newer =
      let cells_are : cells_in slots ≡ cells_of value seconds = cells ∙ holds.cells in
      let many : length slots ≡ length seconds = as_many value slots seconds cells_are in
      let all_slots : take after.front after.slots.items ≡ slots = grind (arith, common_steps) in
      let all_seconds : take after.front seconds ≡ seconds = grind (arith, common_steps) in
      let none : drop after.front seconds ≡ [] = grind (arith, common_steps) in
      record {
        within = omega arith;
        cells = ap cells_in is ∙ cells_are;
        folds = ap folds_in all_slots ∙ folds ∙ ap (folds_of value) (sym all_seconds);
        newer = newer ∙ ap (λ (s : List Second). value (lines_of s)) (sym none);
      }
