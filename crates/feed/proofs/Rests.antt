-- What bytes of either format have in common: what is left behind their lines. Assumes nothing.
use Rattle.std.proofs.Common.{◌≡◌, ℕ, ◌+◌, ◌-◌, ◌≤◌, List, [], ◌∷◌, ◌++◌, map, length, get_or, take, drop, sym, refl, ap, ◌∙◌, add-zero, length-drop}
use Rattle.std.proofs.lemmas.List.{get_or-drop, take_rest}
use mathlib.Core.List.{append_cancel_left}
use Rattle.std.specs.List.{flat_map}
use Rattle.line.specs.declared.Line.{Line}
use Rattle.feed.specs.declared.answers.Ending.{Ending}
use Rattle.feed.specs.declared.answers.Next.TheVariants.{Line as Handed, Ended}
use Rattle.feed.specs.Meaning.{answer, At}

-- behind the same lines of the same bytes the same is left
pub same_rest : (spelling : Line → List ℕ) (bytes : List ℕ) (ls ms : List Line) (r s : List ℕ) → ls ≡ ms → flat_map spelling ls ++ r ≡ bytes → flat_map spelling ms ++ s ≡ bytes → r ≡ s
same_rest spelling bytes ls ms r s same p q =
    append_cancel_left (flat_map spelling ls) r s (p ∙ sym q ∙ ap (λ (ns : List Line). flat_map spelling ns ++ s) (sym same))

-- what is left of bytes from a place on, as code reads it

abbrev pub left : List ℕ → ℕ → List ℕ
left bytes start = take (length bytes - start) (drop start bytes)

pub long_left : (bytes : List ℕ) (start : ℕ) → length (left bytes start) ≡ length bytes - start
long_left bytes start = ap length (take_rest bytes start) ∙ length-drop start bytes

pub byte_left : (bytes : List ℕ) (start i : ℕ) → get_or (left bytes start) i 0 ≡ get_or bytes (start + i) 0
byte_left bytes start i = ap (λ (l : List ℕ). get_or l i 0) (take_rest bytes start) ∙ get_or-drop start bytes i 0

-- what is answered where no line is left, and where one is
module _ {size start : ℕ} {lines : ℕ → List Line} {long : Line → ℕ} {end : ℕ → Ending} (inside : start ≤ size) where
  pub no_line : {e : Ending} → lines start ≡ [] → end start ≡ e → At size lines long end start (Ended e) start
  no_line none is = record {
    value = ap Ended (sym is) ∙ ap (λ (ls : List Line). answer ls (end start)) (sym none);
    within = inside;
    rest = none ∙ ap (drop 1) (sym none);
    ending = refl;
    passed = sym (add-zero start) ∙ ap (λ (ls : List Line). start + get_or (map long ls) 0 0) (sym none);
  }

module _ {size start next : ℕ} {lines : ℕ → List Line} {long : Line → ℕ} {end : ℕ → Ending} (inside : next ≤ size) where
  pub one_line : {l : Line} → l ∷ lines next ≡ lines start → end next ≡ end start → next ≡ start + long l → At size lines long end start (Handed l) next
  one_line some is size = record {
    value = ap (λ (ls : List Line). answer ls (end start)) some;
    within = inside;
    rest = ap (drop 1) some;
    ending = is;
    passed = size ∙ ap (λ (ls : List Line). start + get_or (map long ls) 0 0) some;
  }
