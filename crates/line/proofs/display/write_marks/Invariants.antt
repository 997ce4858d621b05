use Rattle.std.specs.Fmt.{HasWritten, IsPlainFormatter}
use Rattle.line.specs.Spelling.{letters_below}
use Rattle.line.proofs.display.write_marks.Given as goal

abbrev pub invariant-loop-i : goal.invariant-loop-i
invariant-loop-i g l =
    IsPlainFormatter l.initial.f → HasWritten g.W.Write.write_str_gives l.initial.f (letters_below l.i l.marks) l.f
