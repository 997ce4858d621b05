-- The loop that reads one line of a text: what it keeps, and what its ways out answer. Assumes nothing.
use Rattle.std.proofs.Common.{◌≡◌, ℕ, ◌+◌, ◌<◌, ◌≤◌, List, [], ◌∷◌, ◌++◌, length, get_or, drop, sym, ap, ◌∙◌, subst, add-one, add_assoc, arith, length-append}
use Rattle.std.proofs.lemmas.List.{drop_more, drop_all}
use Rattle.line.specs.declared.Line.{Line}
use Rattle.line.specs.Spelling.{text}
use Rattle.feed.specs.declared.answers.Cause.TheVariants.{Cut}
use Rattle.feed.specs.declared.answers.Ending.{Ending}
use Rattle.feed.specs.declared.answers.Ending.TheVariants.{Clean, Fault as Faulty}
use Rattle.feed.specs.declared.answers.Next.TheVariants.{Line as Handed, Ended}
use Rattle.feed.specs.declared.text.machine.State.{State}
use Rattle.feed.specs.declared.text.machine.State.TheVariants.{Start}
use Rattle.feed.specs.declared.text.machine.Step.{Step}
use Rattle.feed.specs.declared.text.machine.Step.TheVariants.{On, Line as Done, Wrong}
use Rattle.feed.specs.Codes.{fault}
use Rattle.feed.specs.Machine.{lines_from, end_from, said, step, stop, cause}
use Rattle.feed.specs.Text.{lines_at, end_at, TextAt}
use Rattle.feed.proofs.Rests.{left, long_left, byte_left, no_line, one_line}
use Rattle.feed.proofs.Leads.{lines_by, end_by, lines_step, end_step, stop_inside}
use Rattle.feed.proofs.Steps.{Sound, Tells, tells}

-- from the place i on, the machine in its state finds what it finds from the start
pub record Sofar (bytes : List ℕ) (start : ℕ) (s : State) (i : ℕ) : Type 0 where
  pub lines : lines_from s (drop i bytes) ≡ lines_at bytes start
  pub ending : end_from s i (drop i bytes) ≡ end_at bytes start
  pub sound : Sound s
  pub place : start + length (said s) ≡ i

-- where the bytes are at an end
module _ (bytes : List ℕ) (start : ℕ) (s : State) (i : ℕ) (inv : Sofar bytes start s i) (inside : start ≤ length bytes) where
  pub scan_end : length bytes ≤ i → TextAt bytes start (Ended (stop s i)) start
  unfolding lines_from end_from
  scan_end le =
      let none = drop_all i bytes le in
      no_line inside (sym inv.lines ∙ ap (lines_from s) none) (sym inv.ending ∙ ap (end_from s i) none)

module _ (bytes : List ℕ) (start : ℕ) (s : State) (i : ℕ) (inv : Sofar bytes start s (start + i)) (inside : start ≤ length bytes) where
  module _ (lt : i < length (left bytes start)) (x : Step) (is : x ≡ step s (get_or (left bytes start) i 0)) where
    byte : ℕ
    byte = get_or bytes (start + i) 0

    within : start + i < length bytes
    within = omega (arith, long_left bytes start)

    steps : step s byte ≡ x
    unfolding byte
    steps = ap (step s) (sym (byte_left bytes start i)) ∙ sym is

    lines_on : lines_by x (drop (start + i + 1) bytes) ≡ lines_at bytes start
    unfolding byte
    lines_on = sym (lines_step s byte (drop (start + i + 1) bytes) x steps) ∙ ap (lines_from s) (sym (drop_more bytes (start + i) 0 within)) ∙ inv.lines

    end_on : end_by s (start + i) x (drop (start + i + 1) bytes) ≡ end_at bytes start
    unfolding byte
    end_on = sym (end_step s (start + i) byte (drop (start + i + 1) bytes) x steps) ∙ ap (end_from s (start + i)) (sym (drop_more bytes (start + i) 0 within)) ∙ inv.ending

    told : Tells s byte x
    told = subst (Tells s byte) steps (tells s byte inv.sound)

    longer : (xs : List ℕ) → said s ++ byte ∷ [] ≡ xs → start + length xs ≡ start + i + 1
    longer xs says = omega (arith, inv.place, sym (length-append (said s) (byte ∷ [])) ∙ ap length says)

  pub scan_on : (lt : i < length (left bytes start)) (t : State) → On t ≡ step s (get_or (left bytes start) i 0) → Sofar bytes start t (start + (i + 1))
  scan_on lt t is =
      let on = told lt (On t) is in
      rw (← add_assoc)
      record {
        lines = lines_on lt (On t) is;
        ending = ap (λ (q : ℕ). end_from t q (drop (start + i + 1) bytes)) (add-one (start + i)) ∙ end_on lt (On t) is;
        sound = on.sound;
        place = longer lt (On t) is (said t) on.says;
      }

  pub scan_line : (lt : i < length (left bytes start)) (l : Line) → Done l ≡ step s (get_or (left bytes start) i 0) → TextAt bytes start (Handed l) (start + i + 1)
  scan_line lt l is =
      let size = longer lt (Done l) is (text l) (told lt (Done l) is).says in
      let whole = within lt (Done l) is in
      one_line (omega arith) (lines_on lt (Done l) is) (ap (λ (q : ℕ). end_from Start q (drop (start + i + 1) bytes)) (add-one (start + i)) ∙ end_on lt (Done l) is) (sym size)

  pub scan_wrong : (lt : i < length (left bytes start)) → Wrong ≡ step s (get_or (left bytes start) i 0) → TextAt bytes start (Ended (Faulty (fault 4 (cause s) (start + i)))) start
  scan_wrong lt is = no_line inside (sym (lines_on lt Wrong is)) (sym (end_on lt Wrong is))

  pub scan_clean : length (left bytes start) ≤ i → s ≡ Start → TextAt bytes start (Ended Clean) start
  scan_clean le e = subst (λ (n : Ending). TextAt bytes start (Ended n) start) (ap (λ (t : State). stop t (start + i)) e) (scan_end bytes start s (start + i) inv inside (omega (arith, long_left bytes start)))

  pub scan_cut : i ≡ length (left bytes start) → (s ≡ Start → ⊥) → TextAt bytes start (Ended (Faulty (fault 4 Cut (length bytes)))) start
  scan_cut e on =
      let place : start + i ≡ length bytes = omega (arith, long_left bytes start) in
      subst (λ (n : Ending). TextAt bytes start (Ended n) start) (stop_inside s (start + i) on ∙ ap (λ (q : ℕ). Faulty (fault 4 Cut q)) place) (scan_end bytes start s (start + i) inv inside (omega (arith, place)))
