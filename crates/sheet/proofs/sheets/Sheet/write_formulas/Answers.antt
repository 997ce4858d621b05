use Rattle.std.proofs.Common.{List, length, get_or, vec_items, ap, ◌∙◌, arith}
use Rattle.sheet.specs.declared.formulas.Formula.{Formula}
use Rattle.sheet.specs.declared.formulas.Formula.TheVariants.{Never}
use Rattle.sheet.specs.Bytes.{field_bytes, formula_bytes}
use Rattle.sheet.proofs.Writes.{one_formula}
use Rattle.sheet.proofs.sheets.Sheet.write_formulas.Goals as goal

pub loop-i-preserved : goal.loop-i-preserved
loop-i-preserved c =
    let fs = vec_items c.args.self.now.formulas in
    let same = c.deref-formula-items.ensures.value in
    one_formula fs c.args.out.now c.loop-i.i c.loop-i.out _ c.put.new.out c.loop-i.invariant
    (omega (arith, ap length same))
    (c.into-bytes.ensures ∙ ap field_bytes c.from.ensures ∙ ap (λ (gs : List Formula). formula_bytes (get_or gs c.loop-i.i Never)) same)
    c.put.ensures
