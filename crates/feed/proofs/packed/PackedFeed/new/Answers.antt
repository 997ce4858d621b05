use Rattle.std.proofs.Common.{ℕ, ◌<◌, get_or, arith}
use Rattle.feed.proofs.Packs.{packed_reads, packed_once, packed_back}
use Rattle.feed.proofs.packed.PackedFeed.new.Goals as goal

pub returns : goal.returns
returns c =
    let bytes = c.args.bytes.now in
    let fits : (k : ℕ) → get_or bytes k 0 < 256 = λ k. omega (arith, c.type_inv.bytes k) in
    let whole = c.over.ensures in
    record {
      start = whole.start;
      reads = rw (whole.bytes, whole.start) (packed_reads bytes fits);
      once = packed_once bytes;
      back = rw (whole.bytes, whole.start) (packed_back bytes fits);
    }
