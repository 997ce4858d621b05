use Rattle.std.proofs.Common.{◌∙◌}
use Rattle.sheet.specs.Contents.{of}
use Rattle.sheet.proofs.Reread.{reread}
use Rattle.sheet.proofs.Writes.{fits_in, too_short}
use Rattle.sheet.proofs.sheets.Sheet.write.Goals as goal

pub returns-then-out-length : goal.returns-then-out-length
returns-then-out-length c =
    let s = c.args.self.now in
    record {
      value = too_short (of s) s.lawful.few_formulas c.len-formulas.result c.len-rules.result (c.len-formulas.ensures ∙ s.formulas.ok.0) (c.len-rules.ensures ∙ s.rules.ok.0) c.args.out.now c.if-out-length.true;
      reads = reread (of s) s.lawful;
    }

pub returns : goal.returns
returns c =
    let s = c.args.self.now in
    record {
      value = fits_in (of s) s.lawful.few_formulas c.len-formulas.result c.len-rules.result (c.len-formulas.ensures ∙ s.formulas.ok.0) (c.len-rules.ensures ∙ s.rules.ok.0) c.args.out.now c.if-out-length.false c.write_formulas.new.out c.put.new.out c.put-2.new.out c.as_slice.result.now c.trailer.result c.as_slice.ensures.value c.trailer.ensures c.write_formulas.ensures c.put.ensures c.put-2.ensures;
      reads = reread (of s) s.lawful;
    }
