use Rattle.std.proofs.lemmas.Result.{err_from_is_err_and}
use Rattle.sheet.specs.Contents.{of}
use Rattle.sheet.proofs.Whole.{all_brought, all_stopped}
use Rattle.sheet.proofs.sheets.Sheet.add_all.Goals as goal

pub returns-in_err-add_formulas : goal.returns-in_err-add_formulas
returns-in_err-add_formulas c =
    let p = err_from_is_err_and c.from_residual-in_err-add_formulas.result c.from_residual-in_err-add_formulas.ensures.1 in
    rw (p.1, p.2) (all_stopped c.args.bytes.now _ _ c.in_ok-formulas.ensures (of c.args.self.now) _ c.requires _ c.as_chunks.ensures.front _ c.in_err-add_formulas.ensures)

pub returns : goal.returns
returns c = all_brought c.args.bytes.now _ _ c.in_ok-formulas.ensures (of c.args.self.now) _ c.requires _ c.as_chunks.ensures.front _ _ c.in_ok-add_formulas.ensures c.add_rules.ensures
