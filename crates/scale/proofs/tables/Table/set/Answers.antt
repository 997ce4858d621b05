use Rattle.std.proofs.Common.{arith}
use Rattle.std.proofs.lemmas.Grind.{common_steps}
use Rattle.scale.proofs.tables.Table.set.Goals as goal

pub returns-clause-says : goal.returns-clause-says
returns-clause-says g c = grind (arith, common_steps, g.S.Scale.laws.as_meant _ _ c.in_ok-self.ensures.made)
