use Rattle.std.proofs.Common.{arith}
use Rattle.std.proofs.lemmas.Grind.{common_steps}
use Rattle.std.proofs.lemmas.Result.{err_from_is_err_and}
use Rattle.sheet.proofs.refused.formula.Goals as goal

pub returns-in_err-window-in-Count : goal.returns-in_err-window-in-Count
returns-in_err-window-in-Count c =
    let p = err_from_is_err_and c.from_residual-in_err-window-in-Count.result c.from_residual-in_err-window-in-Count.ensures.1 in
    rw (p.1, p.2) (grind (arith, common_steps))
