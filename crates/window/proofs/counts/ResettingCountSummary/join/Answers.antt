use Rattle.window.proofs.CountAppended.{anew, on}
use Rattle.window.proofs.counts.ResettingCountSummary.join.Goals as goal

pub returns-then-newer : goal.returns-then-newer
returns-then-newer g c = anew g.S.ScaleSet.folding c.args.self.now c.args.older c.args.newer c.if-newer.true

pub returns-else-newer : goal.returns-else-newer
returns-else-newer g c = on g.S.ScaleSet.folding c.args.self.now c.args.older c.args.newer c.join.result c.if-newer.false c.join.ensures.sum
