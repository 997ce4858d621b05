use Rattle.std.proofs.Common.{◌≡◌, ℕ, sym, ap, ◌∙◌, arith}
use Rattle.std.proofs.lemmas.Grind.{common_steps}
use Rattle.std.proofs.lemmas.Str.Ascii.{encode_ascii}
use Rattle.std.proofs.Output.{has_written_of_eq}
use Rattle.line.specs.Spelling.{letters_below}
use Rattle.line.proofs.Letters.{letters_set, letters_unset, hyphen_alone, no_hyphen}
use Rattle.line.proofs.display.write_marks.Goals as goal

pub returns-then-marks-eq0 : goal.returns-then-marks-eq0
returns-then-marks-eq0 g c = grind (arith, common_steps, hyphen_alone, encode_ascii)

pub loop-i-init : goal.loop-i-init
unfolding letters_below
loop-i-init g c = grind (arith, common_steps)

pub loop-i-preserved : goal.loop-i-preserved
loop-i-preserved g c = grind (arith, common_steps, letters_set, letters_unset, encode_ascii)

pub returns : goal.returns
returns g c =
    λ p _.
    let all : c.loop-i.i ≡ 26 = omega arith in
    has_written_of_eq _ _ _ _ _ (ap (λ (n : ℕ). letters_below n c.args.marks) all ∙ sym (no_hyphen c.args.marks c.if-marks-eq0.false)) (c.loop-i.invariant p)
