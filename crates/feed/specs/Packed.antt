-- What a packed log means. Assumes nothing.
use Rattle.std.specs.Prelude.{ℕ, zero, suc, ◌+◌, ◌-◌, ◌*◌, ◌/◌, ◌%◌, Bool, true, false, cond, List, [], ◌∷◌, length, ◌==◌, slice_index}
use Rattle.std.proofs.Common.{arith}
use Rattle.line.specs.declared.Line.{Line}
use Rattle.feed.specs.declared.answers.Cause.TheVariants.{Torn}
use Rattle.feed.specs.declared.answers.Ending.{Ending}
use Rattle.feed.specs.declared.answers.Ending.TheVariants.{Clean, Fault as Faulty}
use Rattle.feed.specs.declared.answers.Next.{Next}
use Rattle.feed.specs.declared.bytes.ByteFeed.{ByteFeed}
use Rattle.feed.specs.declared.packed.Packed.{Packed}
use Rattle.feed.specs.Bytes as over
use Rattle.feed.specs.Codes.{fault}
use Rattle.feed.specs.Meaning.{At, FeedEnding, FeedLayer, Laws}

-- the number that four bytes spell at a place, the higher byte first
abbrev pub word_at : List ℕ → ℕ → ℕ
word_at bytes at = slice_index bytes at * 16777216 + slice_index bytes (at + 1) * 65536 + slice_index bytes (at + 2) * 256 + slice_index bytes (at + 3)

abbrev pub line_at : List ℕ → ℕ → Line
line_at bytes at = record { time = word_at bytes at; marks = word_at bytes (at + 4) }

-- n lines from a place on
unfoldable pub lines_from : ℕ → List ℕ → ℕ → List Line
lines_from zero bytes at = []
lines_from (suc n) bytes at = line_at bytes at ∷ lines_from n bytes (at + 8)

-- how many lines, and how the bytes end behind them

abbrev pub count : List ℕ → ℕ → ℕ
count bytes at = (length bytes - at) / 8

abbrev pub lines_at : List ℕ → ℕ → List Line
lines_at bytes at = lines_from (count bytes at) bytes at

abbrev pub end_at : List ℕ → ℕ → Ending
end_at bytes at = cond ((length bytes - at) % 8 == 0) Clean (Faulty (fault 3 Torn (at + count bytes at * 8)))

abbrev pub long : Line → ℕ
long _ = 8

abbrev pub PackedAt : List ℕ → ℕ → Next → ℕ → Type 0
PackedAt bytes = At (length bytes) (lines_at bytes) long (end_at bytes)

-- that this is a format

lawful_end : (b : Bool) (p : ℕ) → FeedEnding (cond b Clean (Faulty (fault 3 Torn p)))
lawful_end true p = tt
lawful_end false p = omega arith

pub layer : FeedLayer 3
layer = omega arith

pub faults : (bytes : List ℕ) (at : ℕ) → FeedEnding (end_at bytes at)
faults bytes at = lawful_end ((length bytes - at) % 8 == 0) _

-- a feed's

abbrev pub passed : ByteFeed Packed → ℕ
passed = over.passed

abbrev pub lines : ByteFeed Packed → List Line
lines = over.lines lines_at

abbrev pub lengths : ByteFeed Packed → List ℕ
lengths = over.lengths lines_at long

abbrev pub ending : ByteFeed Packed → Ending
ending = over.ending end_at

pub laws : Laws 3 lines lengths ending
laws = over.laws lines_at long end_at layer faults
