use Rattle.window.proofs.SinceAppended.{joins}
use Rattle.window.proofs.sinces.SincePairSummary.join.Goals as goal

pub returns : goal.returns
returns c = joins c.args.self.now c.args.older c.args.newer
