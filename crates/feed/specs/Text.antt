-- What a text log means: what the machine finds from the cursor on. Assumes nothing.
use Rattle.std.specs.Prelude.{ℕ, List, length, drop}
use Rattle.line.specs.declared.Line.{Line}
use Rattle.line.specs.Spelling.{text}
use Rattle.feed.specs.declared.answers.Ending.{Ending}
use Rattle.feed.specs.declared.answers.Next.{Next}
use Rattle.feed.specs.declared.bytes.ByteFeed.{ByteFeed}
use Rattle.feed.specs.declared.text.Text.{Text}
use Rattle.feed.specs.declared.text.machine.State.TheVariants.{Start}
use Rattle.feed.specs.Bytes as over
use Rattle.feed.specs.Machine.{end_from, lines_from}
use Rattle.feed.specs.Meaning.{At}

-- the lines, the length of each, and the ending of bytes, from a place on
abbrev pub lines_at : List ℕ → ℕ → List Line
lines_at bytes at = lines_from Start (drop at bytes)

abbrev pub long : Line → ℕ
long l = length (text l)

abbrev pub end_at : List ℕ → ℕ → Ending
end_at bytes at = end_from Start at (drop at bytes)

abbrev pub TextAt : List ℕ → ℕ → Next → ℕ → Type 0
TextAt bytes = At (length bytes) (lines_at bytes) long (end_at bytes)

-- a feed's

abbrev pub passed : ByteFeed Text → ℕ
passed = over.passed

abbrev pub lines : ByteFeed Text → List Line
lines = over.lines lines_at

abbrev pub lengths : ByteFeed Text → List ℕ
lengths = over.lengths lines_at long

abbrev pub ending : ByteFeed Text → Ending
ending = over.ending end_at
