use Rattle.std.proofs.Common.{List, ◌∷◌, ◌++◌, [], length, vec_items, sym, ap, ◌∙◌, subst, arith}
use Rattle.std.proofs.lemmas.Result.{err_from_is_err_and}
use Rattle.sheet.specs.declared.formulas.Formula.{Formula}
use Rattle.sheet.specs.Conditions.{Conditions, server}
use Rattle.sheet.specs.Contents.{of}
use Rattle.sheet.specs.Formulas.{formula_of, reach_of, reaches, total}
use Rattle.sheet.specs.Refused.{refusal}
use Rattle.sheet.proofs.Accepts.{taken, with_formula_lem}
use Rattle.sheet.proofs.Built.{length-built}
use Rattle.sheet.proofs.Grows.{added_not, added_so, costing-push, reaching-push, unless_err, unless_ok}
use Rattle.sheet.proofs.sheets.Sheet.add.Goals as goal

pub returns-in_err-formula : goal.returns-in_err-formula
returns-in_err-formula c =
    let s = of c.args.self.now in
    let f = c.args.f in
    let p = err_from_is_err_and c.from_residual.result c.from_residual.ensures.1 in
    rw (p.1, p.2) (added_not (refusal server s f) _ s _ (unless_err (refusal server s f) (formula_of f) _ c.in_err-formula.ensures))

pub push_reserved-requires : goal.push_reserved-requires
push_reserved-requires c =
    let s = c.args.self.now in
    let none = unless_ok (refusal server (of s) c.args.f) (formula_of c.args.f) _ c.in_ok-formula.ensures in
    let room = (taken server (of s) c.args.f none.0).room in
    omega (arith, s.reaches.ok.0 ∙ ap length s.reaching ∙ length-built reach_of (vec_items s.formulas))

pub invariant_of-self : goal.invariant_of-self
invariant_of-self c =
    let s = c.args.self.now in
    let fs = vec_items s.formulas in
    let none = unless_ok (refusal server (of s) c.args.f) (formula_of c.args.f) _ c.in_ok-formula.ensures in
    let after = c.push_reserved-2.ensures.items in
    let is = ap (λ (g : Formula). fs ++ g ∷ []) none.1 in
    let lawful = subst (λ (gs : List Formula). Conditions server gs (vec_items s.rules)) (sym (after ∙ is)) (with_formula_lem server (of s) s.lawful c.args.f none.0) in
    let reaching = c.push_reserved.ensures.items ∙ reaching-push (vec_items s.reaches) fs c.in_ok-formula.formula c.reach_of-reach.result s.reaching c.reach_of-reach.ensures ∙ ap reaches (sym after) in
    let costing = costing-push s.cells c.cells.result fs c.in_ok-formula.formula s.costing c.cells.ensures ∙ ap total (sym after) in
    record { lawful = lawful; reaching = reaching; costing = costing; formulas_room = omega (arith, c.push_reserved-2.ensures.capacity); reaches_room = omega (arith, c.push_reserved.ensures.capacity); rules_room = s.rules_room }

pub returns : goal.returns
returns c =
    let s = c.args.self.now in
    let fs = vec_items s.formulas in
    let none = unless_ok (refusal server (of s) c.args.f) (formula_of c.args.f) _ c.in_ok-formula.ensures in
    added_so (refusal server (of s) c.args.f) _ _ _ none.0 (ap (λ (gs : List Formula). record { formulas = gs; rules = vec_items s.rules }) (c.push_reserved-2.ensures.items ∙ ap (λ (g : Formula). fs ++ g ∷ []) none.1))
