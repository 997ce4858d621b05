use Rattle.std.proofs.Common.{is_ok, refl, ap}
use Rattle.sheet.specs.Bytes.{add_formulas, add_rules, fields_from}
use Rattle.bench.proofs.Means.{made_says, means}
use Rattle.bench.proofs.set_up.Goals as goal

pub unwrap-requires : goal.unwrap-requires
unfolding add_formulas fields_from add_rules
unwrap-requires c = ap is_ok c.read.ensures.value.0

pub returns : goal.returns
unfolding add_formulas fields_from add_rules
returns c = record {
  sheet = c.read.ensures.value.1;
  limits = means c.unwrap-two.result c.unwrap-none.result (made_says 2 _ _ c.limit.ensures.made c.unwrap-two.ensures) (made_says 0 _ _ c.limit-2.ensures.made c.unwrap-none.ensures);
  worked = refl;
}
