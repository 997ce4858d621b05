-- What the bytes of a log spell, in either format. This is the page to believe; how the feeds
-- find it out is proved. Assumes nothing.
use Rattle.std.specs.Prelude.{◌≡◌, ℕ, ◌+◌, ◌-◌, ◌/◌, ◌%◌, ◌^◌, ◌<◌, Bool, false, cond, ◌||◌, ◌⊎◌, List, [], ◌∷◌, ◌++◌, map, length, ◌==◌}
use Rattle.std.specs.List.{flat_map, AllByRecursion}
use Rattle.line.specs.declared.Line.{Line}
use Rattle.line.specs.Spelling.{text, Lawful}
use Rattle.line.specs.declared.Fault.{Fault}
use Rattle.feed.specs.declared.answers.Cause.TheVariants.{Torn, Time, Marks, Cut}
use Rattle.feed.specs.declared.answers.Ending.{Ending}
use Rattle.feed.specs.declared.answers.Ending.TheVariants.{Clean, Fault as Faulty}
use Rattle.feed.specs.Codes.{fault}

-- the bytes are the spellings of the lines, in order, and then the rest; the lengths are the spellings'
pub record Spelled (spelling : Line → List ℕ) (bytes : List ℕ) (lines : List Line) (lengths : List ℕ) (rest : List ℕ) : Type 0 where
  pub whole : flat_map spelling lines ++ rest ≡ bytes
  pub long : lengths ≡ map (λ l. length (spelling l)) lines

-- bytes are read in one way only: their lines with their lengths, their rest and their ending
abbrev pub OneReading : (List Line → List ℕ → List ℕ → Ending → Type 0) → Type 0
OneReading Reads = (ls ms : List Line) (is js : List ℕ) (r s : List ℕ) (d e : Ending) → Reads ls is r d → Reads ms js s e → (ls ≡ ms) × (is ≡ js) × (r ≡ s) × (d ≡ e)

-- Text

-- xs begins the spelling of some lawful line
abbrev pub Begins : List ℕ → Type 0
Begins xs = (l : Line) × Lawful l × ((zs : List ℕ) × (xs ++ zs ≡ text l))

-- xs begins the spelling of some lawful line, and more of that is to come
abbrev pub Unfinished : List ℕ → Type 0
Unfinished xs = (l : Line) × Lawful l × ((z : ℕ) × (zs : List ℕ) × (xs ++ z ∷ zs ≡ text l))

abbrev pub spaced : List ℕ → Bool
spaced [] = false
spaced (x ∷ xs) = x == 32 || spaced xs

-- the first byte with which the rest begins no lawful line
pub record Wrong (start : ℕ) (rest : List ℕ) (f : Fault) : Type 0 where
  pub before : List ℕ
  pub byte : ℕ
  pub after : List ℕ
  pub split : before ++ byte ∷ after ≡ rest
  pub good : Unfinished before
  pub bad : Begins (before ++ byte ∷ []) → ⊥
  pub told : f ≡ fault 4 (cond (spaced before) Marks Time) (start + length before)

-- the rest ends inside a line; its end is the text's
pub record Short (start : ℕ) (rest : List ℕ) (f : Fault) : Type 0 where
  pub some : 0 < length rest
  pub good : Unfinished rest
  pub told : f ≡ fault 4 Cut (start + length rest)

-- how a text ends whose rest, behind its lines, begins at the place start
abbrev pub TextEnds : ℕ → List ℕ → Ending → Type 0
TextEnds start rest Clean = rest ≡ []
TextEnds start rest (Faulty f) = Wrong start rest f ⊎ Short start rest f

pub record TextReads (bytes : List ℕ) (lines : List Line) (lengths : List ℕ) (rest : List ℕ) (ending : Ending) : Type 0 where
  pub lawful : AllByRecursion Lawful lines
  pub spelled : Spelled text bytes lines lengths rest
  pub ends : TextEnds (length bytes - length rest) rest ending

-- Packed

-- a number of 32 bits in four bytes, the higher byte first
abbrev pub word : ℕ → List ℕ
word n = (n / 2 ^ 24 % 2 ^ 8) ∷ (n / 2 ^ 16 % 2 ^ 8) ∷ (n / 2 ^ 8 % 2 ^ 8) ∷ (n % 2 ^ 8) ∷ []

-- time, then marks
abbrev pub packed : Line → List ℕ
packed l = word l.time ++ word l.marks

-- a line that a packed log can hold: any
pub record Words (l : Line) : Type 0 where
  pub time : l.time < 2 ^ 32
  pub marks : l.marks < 2 ^ 32

-- how a packed log ends whose rest begins at the place start
abbrev pub PackedEnds : ℕ → List ℕ → Ending → Type 0
PackedEnds start rest Clean = rest ≡ []
PackedEnds start rest (Faulty f) = (0 < length rest) × (length rest < 8) × (f ≡ fault 3 Torn start)

pub record PackedReads (bytes : List ℕ) (lines : List Line) (lengths : List ℕ) (rest : List ℕ) (ending : Ending) : Type 0 where
  pub lawful : AllByRecursion Words lines
  pub spelled : Spelled packed bytes lines lengths rest
  pub ends : PackedEnds (length bytes - length rest) rest ending
