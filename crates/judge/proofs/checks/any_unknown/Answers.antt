use Rattle.std.proofs.Common.{◌||◌, refl, ◌∙◌, rules, tests}
use Rattle.std.specs.List.{list_any}
use Rattle.std.proofs.lemmas.Iterator.{YieldsList-from_slice}
use Rattle.std.proofs.lemmas.Iterator.Search.{any_from_yields_List}
use Rattle.std.proofs.lemmas.List.Recursion.{same_from_clauses}
use Rattle.line.specs.declared.Line.{Line}
use Rattle.line.specs.Marks.{unknown}
use Rattle.judge.specs.Refused.{any_unknown}
use Rattle.judge.proofs.checks.any_unknown.Goals as goal

pub returns : goal.returns
returns c =
    let test = λ (l : Line). unknown l.marks in
    any_from_yields_List test _ _ _ c.any.ensures.ran (YieldsList-from_slice c.args.log.now cc) (λ x b q k. search (rules, tests))
    ∙ same_from_clauses (list_any test) any_unknown (λ l t. test l || t) refl (λ _ _. refl) (λ _ _. refl) c.args.log.now
