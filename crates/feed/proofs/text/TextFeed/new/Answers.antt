use Rattle.feed.proofs.Texts.{text_reads, text_once, text_back}
use Rattle.feed.proofs.text.TextFeed.new.Goals as goal

pub returns : goal.returns
returns c =
    let bytes = c.args.bytes.now in
    let whole = c.over.ensures in
    record {
      start = whole.start;
      reads = rw (whole.bytes, whole.start) (text_reads bytes);
      once = text_once bytes;
      back = rw (whole.bytes, whole.start) (text_back bytes);
    }
