use Rattle.std.proofs.Common.{◌≡◌, ◌+◌, refl, Ok, Err, arith, rules}
use Rattle.std.specs.Result.{MatchResult}
use Rattle.sheet.specs.declared.answers.ReadRefusal.TheVariants.{Item}
use Rattle.sheet.specs.Bytes.{add_rules}
use Rattle.sheet.specs.Conditions.{server}
use Rattle.sheet.specs.Contents.{with_rule}
use Rattle.sheet.specs.Refused.{rule_refusal}
use Rattle.sheet.proofs.Receives.{each_all, each_more, each_refused}
use Rattle.sheet.proofs.sheets.Sheet.add_rules.Goals as goal

pub returns-in_err-map_err : goal.returns-in_err-map_err
unfolding add_rules
returns-in_err-map_err c =
    let told : MatchResult c.add_rule.result (λ _. ⊥) (λ e. c.from_residual.result ≡ Err (Item (c.args.first + c.loop-i.i) e)) = search rules in
    each_refused (rule_refusal server) with_rule _ _ _ _ _ c.loop-i.invariant c.loop-i-test.true _ 0 refl _ _ c.add_rule.ensures _ told

pub loop-i-preserved : goal.loop-i-preserved
unfolding add_rules
loop-i-preserved c =
    let told : c.add_rule.result ≡ Ok tt = search rules in
    each_more (rule_refusal server) with_rule _ _ _ _ _ c.loop-i.invariant c.loop-i-test.true _ 0 refl _ _ c.add_rule.ensures told _ (omega arith)

pub returns : goal.returns
unfolding add_rules
returns c = each_all (rule_refusal server) with_rule _ _ _ _ _ c.loop-i.invariant c.loop-i-test.false
