use Rattle.std.proofs.Common.{◌-◌, slice_index_or, arith, refl, sym, ◌∙◌}
use Rattle.window.proofs.Folding.{same_cells, step}
use Rattle.window.proofs.cells.fold_from_the_end.Goals as goal

pub loop-i-preserved : goal.loop-i-preserved
loop-i-preserved g c = record {
  cells = same_cells c.loop-i.slots (c.loop-i.i - 1) _ c.index-slots-i-in-loop-i.result refl ∙ c.loop-i.invariant.cells;
  folds = λ seconds e.
      let before = (sym (same_cells c.loop-i.slots (c.loop-i.i - 1) (record { cell = (slice_index_or c.loop-i.slots (c.loop-i.i - 1) c.index-slots-i-in-loop-i.result).cell; fold = c.join-fold.result }) c.index-slots-i-in-loop-i.result refl)) ∙ e in
      let folds = c.loop-i.invariant.folds seconds before in
      step (g.K.Summary.value c.args.kind.now) c.loop-i.slots seconds c.loop-i.i (c.loop-i.i - 1) c.index-slots-i.result _ c.loop-i.fold (omega arith) (omega arith) before c.join-fold.ensures folds.0 folds.1;
}
