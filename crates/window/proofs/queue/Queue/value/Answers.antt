use Rattle.window.proofs.Parts.{both}
use Rattle.window.proofs.queue.Queue.value.Goals as goal

pub returns-in-Some : goal.returns-in-Some
returns-in-Some g c = λ seconds holds. both (g.K.Summary.value c.args.kind.now) c.args.self.now seconds c.in-Some.oldest.now c.join.result holds c.if-self-gt0.true c.in-Some.ensures.lookup c.join.ensures
