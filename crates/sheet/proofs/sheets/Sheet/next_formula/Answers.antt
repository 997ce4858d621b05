use Rattle.std.proofs.Common.{◌∙◌, arith}
use Rattle.std.proofs.lemmas.Result.{err_from_is_err_and}
use Rattle.sheet.specs.Conditions.{server}
use Rattle.sheet.specs.Contents.{of}
use Rattle.sheet.proofs.Grows.{faulty, taken_so, too_dear}
use Rattle.sheet.proofs.sheets.Sheet.next_formula.Goals as goal

pub returns-in_err-formula : goal.returns-in_err-formula
returns-in_err-formula c =
    let s = c.args.self.now in
    let p = err_from_is_err_and c.from_residual.result c.from_residual.ensures.1 in
    rw (p.1, p.2) (faulty server (of s) c.args.f c.len-n.result (c.len-n.ensures ∙ s.formulas.ok.0) (omega arith) _ c.in_err-formula.ensures)

pub returns-then-self-cells : goal.returns-then-self-cells
returns-then-self-cells c =
    let s = c.args.self.now in
    too_dear server (of s) c.args.f c.len-n.result (c.len-n.ensures ∙ s.formulas.ok.0) (omega arith) _ c.in_ok-formula.ensures (omega (arith, c.cells.ensures, s.costing, c.if-self-cells.true))

pub returns : goal.returns
returns c =
    let s = c.args.self.now in
    taken_so server (of s) c.args.f c.len-n.result (c.len-n.ensures ∙ s.formulas.ok.0) (omega arith) _ c.in_ok-formula.ensures (omega (arith, c.cells.ensures, s.costing, c.if-self-cells.false))
