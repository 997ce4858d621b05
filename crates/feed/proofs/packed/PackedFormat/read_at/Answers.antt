use Rattle.std.proofs.Common.{sym}
use Rattle.std.proofs.lemmas.Bool.{eqb-true, eqb-false}
use Rattle.feed.proofs.Packs.{packed_none, packed_torn, packed_line}
use Rattle.feed.proofs.packed.PackedFormat.read_at.Goals as goal

pub returns-in-Some : goal.returns-in-Some
returns-in-Some c = packed_line c.args.bytes.now c.args.start c.requires c.in-Some.line c.in-Some.ensures.0 c.in-Some.ensures.1

pub returns-in-None : goal.returns-in-None
returns-in-None c = packed_none c.args.bytes.now c.args.start c.requires (eqb-true _ 0 (sym c.if-is_empty.ensures))

pub returns-in-None-2 : goal.returns-in-None-2
returns-in-None-2 c =
    rw c.fault.ensures
    (packed_torn c.args.bytes.now c.args.start c.requires (eqb-false _ 0 (sym c.if-is_empty.ensures)) c.in-None.ensures)
