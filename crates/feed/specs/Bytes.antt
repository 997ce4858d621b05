-- What a feed over bytes means, by what its format means. Assumes nothing.
use Rattle.std.specs.Prelude.{ℕ, List, map}
use Rattle.std.proofs.lemmas.List.{length-map}
use Rattle.line.specs.declared.Line.{Line}
use Rattle.feed.specs.declared.answers.Ending.{Ending}
use Rattle.feed.specs.declared.bytes.ByteFeed.{ByteFeed}
use Rattle.feed.specs.Meaning.{FeedEnding, FeedLayer, Laws}

-- what is behind the cursor, and the lines, their lengths and the ending from it on

abbrev pub passed : {F : Type 0} → ByteFeed F → ℕ
passed f = f.at

abbrev pub lines : {F : Type 0} → (List ℕ → ℕ → List Line) → ByteFeed F → List Line
lines lines_at f = lines_at f.bytes.now f.at

abbrev pub lengths : {F : Type 0} → (List ℕ → ℕ → List Line) → (Line → ℕ) → ByteFeed F → List ℕ
lengths lines_at long f = map long (lines lines_at f)

abbrev pub ending : {F : Type 0} → (List ℕ → ℕ → Ending) → ByteFeed F → Ending
ending end_at f = end_at f.bytes.now f.at

pub laws : {F : Type 0} {level : ℕ} (lines_at : List ℕ → ℕ → List Line) (long : Line → ℕ) (end_at : List ℕ → ℕ → Ending) → FeedLayer level → ((bytes : List ℕ) (at : ℕ) → FeedEnding (end_at bytes at)) → Laws {S = ByteFeed F} level (lines lines_at) (lengths lines_at long) (ending end_at)
laws lines_at long end_at layer faults = record {
  measured = λ f. length-map (lines_at f.bytes.now f.at) long;
  layer = layer;
  faults = λ f. faults f.bytes.now f.at;
}
