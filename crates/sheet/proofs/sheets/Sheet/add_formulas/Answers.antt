use Rattle.std.proofs.Common.{◌≡◌, [], map, refl, sym, ◌∙◌, Ok, Err, arith, rules}
use Rattle.std.proofs.Math.ListN.{get_or-map, length-map}
use Rattle.std.specs.Result.{MatchResult}
use Rattle.sheet.specs.declared.answers.ReadRefusal.TheVariants.{Item}
use Rattle.sheet.specs.Bytes.{add_formulas, fields_in}
use Rattle.sheet.specs.Conditions.{server}
use Rattle.sheet.specs.Contents.{with_formula}
use Rattle.sheet.specs.Formulas.{formula_of}
use Rattle.sheet.specs.Refused.{refusal}
use Rattle.sheet.proofs.Receives.{each_all, each_more, each_refused}
use Rattle.sheet.proofs.sheets.Sheet.add_formulas.Goals as goal

pub returns-in_err-map_err : goal.returns-in_err-map_err
unfolding add_formulas
returns-in_err-map_err c =
    let fs = c.args.formulas.now in
    let told : MatchResult c.add.result (λ _. ⊥) (λ e. c.from_residual.result ≡ Err (Item c.loop-i.i e)) = search rules in
    each_refused (refusal server) (λ d f. with_formula d (formula_of f)) _ (map fields_in fs) c.loop-i.i _ _ c.loop-i.invariant (omega (arith, length-map fs fields_in)) _ _ (c.from.ensures ∙ sym (get_or-map fields_in fs c.loop-i.i [])) _ _ c.add.ensures _ told

pub loop-i-preserved : goal.loop-i-preserved
unfolding add_formulas
loop-i-preserved c =
    let fs = c.args.formulas.now in
    let told : c.add.result ≡ Ok tt = search rules in
    each_more (refusal server) (λ d f. with_formula d (formula_of f)) _ (map fields_in fs) c.loop-i.i _ _ c.loop-i.invariant (omega (arith, length-map fs fields_in)) _ _ (c.from.ensures ∙ sym (get_or-map fields_in fs c.loop-i.i [])) _ _ c.add.ensures told _ refl

pub returns : goal.returns
unfolding add_formulas
returns c =
    let fs = c.args.formulas.now in
    each_all (refusal server) (λ d f. with_formula d (formula_of f)) _ (map fields_in fs) c.loop-i.i _ _ c.loop-i.invariant (omega (arith, length-map fs fields_in))
