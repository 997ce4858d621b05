use Rattle.std.proofs.Common.{sym, ap, ◌∙◌}
use Rattle.window.specs.Waiting.{cells_in}
use Rattle.window.proofs.Parts.{turned}
use Rattle.window.proofs.queue.Queue.turn_over.Goals as goal

pub returns-clause-same : goal.returns-clause-same
returns-clause-same g c = λ seconds holds.
    let slots = c.make_contiguous.ensures in
    let folded = c.fold_from_the_end.ensures in
    let len = folded.len ∙ slots.len in
    let cells = ap cells_in slots.value in
    turned (g.K.Summary.value c.args.kind.now) c.args.self.now _ c.fold_from_the_end.new.slots seconds holds (slots.writes_back _ len) (c.len-self.ensures ∙ sym len) (folded.cells ∙ cells) (folded.folds seconds (cells ∙ holds.cells)) c.empty-self.ensures
