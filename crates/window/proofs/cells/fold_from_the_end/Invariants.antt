use Rattle.std.proofs.Common.{◌≡◌, List, drop}
use Rattle.window.specs.Waiting.{Second, lines_of, cells_of, folds_of, cells_in, folds_in}
use Rattle.window.proofs.cells.fold_from_the_end.Given as goal

abbrev pub invariant-loop-i : goal.invariant-loop-i
invariant-loop-i g l = record {
  cells : cells_in l.slots ≡ cells_in l.fn.slots;
  folds : (seconds : List Second) → cells_in l.slots ≡ cells_of (g.K.Summary.value l.kind) seconds → (l.fold ≡ g.K.Summary.value l.kind (lines_of (drop l.i seconds))) × (folds_in (drop l.i l.slots) ≡ folds_of (g.K.Summary.value l.kind) (drop l.i seconds));
}
