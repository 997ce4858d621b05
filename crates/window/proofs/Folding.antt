-- One slot more has its fold.
use Rattle.std.proofs.Common.{◌≡◌, ℕ, zero, suc, ◌<◌, List, [], ◌∷◌, length, drop, get_or, ap, arith}
use Rattle.std.specs.Prelude.{slice_set}
use Rattle.std.proofs.Math.Seq.{map-set_same}
use Rattle.window.specs.declared.Truths.{Truths}
use Rattle.window.specs.declared.cells.Cell.{Cell}
use Rattle.window.specs.declared.cells.Slot.{Slot}
use Rattle.window.specs.Summaries.{Joins}
use Rattle.window.specs.Waiting.{Second, lines_of, cell_of, cells_of, folds_of, cells_in, folds_in}

pub same_cells : {V : Type 0} (slots : List (Slot V)) (i : ℕ) (new d : Slot V) → new.cell ≡ (get_or slots i d).cell → cells_in (slice_set slots i new) ≡ cells_in slots
same_cells slots i new d e = map-set_same (λ (slot : Slot _). slot.cell) slots i new d e

module _ {V : Type 0} (value : List Truths → V) where
  step_at : (slots : List (Slot V)) (seconds : List Second) (i : ℕ) (d new : Slot V) (x : V) → i < length slots → cells_in slots ≡ cells_of value seconds → Joins value (get_or slots i d).cell.value x new.fold → x ≡ value (lines_of (drop (suc i) seconds)) → folds_in (drop (suc i) slots) ≡ folds_of value (drop (suc i) seconds) → (new.fold ≡ value (lines_of (drop i seconds))) × (folds_in (drop i (slice_set slots i new)) ≡ folds_of value (drop i seconds))
  step_at [] seconds i d new x h e joins ex ef = (grind arith, grind arith)
  step_at (s ∷ slots) [] i d new x h e joins ex ef = (cc, cc)
  step_at (s ∷ slots) (w ∷ seconds) zero d new x h e joins ex ef =
      let c : s.cell ≡ cell_of value w = cc in
      let v : s.cell.value ≡ value w.lines = ap (λ (cell : Cell V). cell.value) c in
      let y : new.fold ≡ value (lines_of (w ∷ seconds)) = joins w.lines (lines_of seconds) v ex in
      (y, cc)
  step_at (s ∷ slots) (w ∷ seconds) (suc i) d new x h e joins ex ef =
      let rest : cells_in slots ≡ cells_of value seconds = cc in
      step_at slots seconds i d new x (omega arith) rest joins ex ef

  pub step : (slots : List (Slot V)) (seconds : List Second) (n i : ℕ) (d new : Slot V) (x : V) → n ≡ suc i → i < length slots → cells_in slots ≡ cells_of value seconds → Joins value (get_or slots i d).cell.value x new.fold → x ≡ value (lines_of (drop n seconds)) → folds_in (drop n slots) ≡ folds_of value (drop n seconds) → (new.fold ≡ value (lines_of (drop i seconds))) × (folds_in (drop i (slice_set slots i new)) ≡ folds_of value (drop i seconds))
  step slots seconds n i d new x at h e joins ex ef = step_at slots seconds i d new x h e joins (rw at at ex) (rw at at ef)
