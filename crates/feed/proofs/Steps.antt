-- The states of the text machine and the texts that lead to them. Assumes nothing.
use Rattle.std.proofs.Common.{◌≡◌, ℕ, ◌+◌, ◌-◌, ◌*◌, ◌/◌, ◌%◌, ◌^◌, ◌<◌, ◌≤◌, true, ◌&&◌, eqb, ltb, leb, List, [], ◌∷◌, ◌++◌, decimal, sym, refl, ap, ◌∙◌, ⊎_elim, append_assoc, arith}
use Rattle.std.proofs.lemmas.Fmt.{decimal_digit, decimal_step}
use Rattle.std.proofs.lemmas.Bool.{and_parts, leb-true, ltb-true, eqb-true, cases_lt, cond_both}
use Rattle.std.proofs.lemmas.Nat.{pow_below}
use Rattle.line.specs.declared.Line.{Line}
use Rattle.line.specs.Spelling.{letters_below, or_hyphen, text, Lawful}
use Rattle.line.proofs.Letters.{letters_push, no_letters, or_hyphen_some}
use Rattle.feed.specs.declared.text.machine.State.{State}
use Rattle.feed.specs.declared.text.machine.State.TheVariants.{Start, Time, Space, Marks, Hyphen}
use Rattle.feed.specs.declared.text.machine.Step.{Step}
use Rattle.feed.specs.declared.text.machine.Step.TheVariants.{On, Line as Done, Wrong}
use Rattle.feed.specs.Machine.{is_digit, is_letter, line, step, said}
use Rattle.feed.specs.Spelled.{Unfinished}

-- the states that the machine comes to
abbrev pub Sound : State → Type 0
Sound Start = Unit {0}
Sound (Time t) = t < 2 ^ 32
Sound (Space t) = t < 2 ^ 32
Sound (Marks t m) = (t < 2 ^ 32) × (0 < m) × (m < 2 ^ 26)
Sound (Hyphen t) = t < 2 ^ 32

-- a step on says one byte more
pub record Onward (s : State) (b : ℕ) (u : State) : Type 0 where
  pub sound : Sound u
  pub says : said s ++ b ∷ [] ≡ said u

-- a step that ends a line has said its text
pub record Ends (s : State) (b : ℕ) (l : Line) : Type 0 where
  pub lawful : Lawful l
  pub says : said s ++ b ∷ [] ≡ text l

-- what a step tells
abbrev pub Tells : State → ℕ → Step → Type 0
Tells s b (On u) = Onward s b u
Tells s b (Done l) = Ends s b l
Tells s b Wrong = Unit {0}

digit_of : (b : ℕ) → is_digit b ≡ true → (b - 48 < 10) × (48 + (b - 48) ≡ b)
digit_of b d =
    let p = and_parts (leb 48 b) (leb b 57) d in
    let low = leb-true 48 b p.0 in
    let high = leb-true b 57 p.1 in
    (omega arith, omega arith)

tells_digit : (b : ℕ) → is_digit b ≡ true → Onward Start b (Time (b - 48))
tells_digit b d =
    let p = digit_of b d in
    record { sound = omega (arith, p.0); says = ap (λ (x : ℕ). x ∷ []) (sym p.1) ∙ sym (decimal_digit (b - 48) p.0) }

tells_longer : (t b : ℕ) → (is_digit b && (ltb 0 t && ltb (t * 10 + (b - 48)) (2 ^ 32))) ≡ true → Onward (Time t) b (Time (t * 10 + (b - 48)))
tells_longer t b d =
    let p = and_parts (is_digit b) _ d in
    let q = and_parts (ltb 0 t) _ p.1 in
    let r = digit_of b p.0 in
    let small = r.0 in
    let value = r.1 in
    let some = ltb-true 0 t q.0 in
    let fits = ltb-true (t * 10 + (b - 48)) (2 ^ 32) q.1 in
    let front : (t * 10 + (b - 48)) / 10 ≡ t = omega arith in
    let back : 48 + (t * 10 + (b - 48)) % 10 ≡ b = omega arith in
    record {
      sound = fits;
      says = sym (decimal_step (t * 10 + (b - 48)) (omega arith) (omega arith) ∙ λ i. decimal (front i) ++ back i ∷ []);
    }

letter_of : (b : ℕ) → is_letter b ≡ true → (b - 97 < 26) × (97 + (b - 97) ≡ b)
letter_of b d =
    let p = and_parts (leb 97 b) (leb b 122) d in
    let low = leb-true 97 b p.0 in
    let high = leb-true b 122 p.1 in
    (omega arith, omega arith)

tells_first : (t b : ℕ) → t < 2 ^ 32 → is_letter b ≡ true → Onward (Space t) b (Marks t (2 ^ (b - 97)))
tells_first t b h d =
    let p = letter_of b d in
    let e : 0 + 2 ^ (b - 97) ≡ 2 ^ (b - 97) = omega arith in
    let some : 0 < 2 ^ (b - 97) = Rattle.std.proofs.lemmas.Nat.pow_pos (b - 97) in
    let push = letters_push 0 (b - 97) some p.0 in
    record {
      sound = (h, some, pow_below (b - 97) 26 p.0);
      says = append_assoc (decimal t) _ _ ∙ ap (λ (l : List ℕ). decimal t ++ 32 ∷ l) (sym (ap (letters_below 26) (sym e) ∙ push ∙ λ i. no_letters i ++ p.1 i ∷ []));
    }

tells_letter : (t m b : ℕ) → Sound (Marks t m) → (is_letter b && ltb m (2 ^ (b - 97))) ≡ true → Onward (Marks t m) b (Marks t (m + 2 ^ (b - 97)))
tells_letter t m b h d =
    let q = and_parts (is_letter b) _ d in
    let p = letter_of b q.0 in
    let above = ltb-true m (2 ^ (b - 97)) q.1 in
    let push = letters_push m (b - 97) above p.0 in
    let top : 2 ^ (b - 97) ≤ 2 ^ 25 = lib.Pow.pow_mono {i = b - 97} {j = 25} (omega (arith, p.0)) in
    record {
      sound = (h.0, omega (arith, h.1), omega arith);
      says = append_assoc (decimal t) _ _ ∙ ap (λ (l : List ℕ). decimal t ++ 32 ∷ l) (sym (push ∙ λ i. letters_below 26 m ++ p.1 i ∷ []));
    }

ends_marks : (t m b : ℕ) → Sound (Marks t m) → eqb b 10 ≡ true → Ends (Marks t m) b (line t m)
ends_marks t m b h e =
    let letters = sym (or_hyphen_some m h.2 h.1) in
    record {
      lawful = record { time = h.0; marks = h.2 };
      says = λ i. (decimal t ++ 32 ∷ letters i) ++ eqb-true b 10 e i ∷ [];
    }

ends_hyphen : (t b : ℕ) → t < 2 ^ 32 → eqb b 10 ≡ true → Ends (Hyphen t) b (line t 0)
ends_hyphen t b h e =
    let letters = ap or_hyphen (sym no_letters) in
    record {
      lawful = record { time = h; marks = omega arith };
      says = λ i. (decimal t ++ 32 ∷ letters i) ++ eqb-true b 10 e i ∷ [];
    }

pub tells : (s : State) (b : ℕ) → Sound s → Tells s b (step s b)
tells Start b h = cond_both (is_digit b) _ _ (Tells Start b) (tells_digit b) (λ _. tt)
tells (Time t) b h =
    cond_both (eqb b 32) _ _ (Tells (Time t) b)
    (λ e. record { sound = h; says = ap (λ (x : ℕ). decimal t ++ x ∷ []) (eqb-true b 32 e) })
    (λ _. cond_both (is_digit b && (ltb 0 t && ltb (t * 10 + (b - 48)) (2 ^ 32))) _ _ (Tells (Time t) b) (tells_longer t b) (λ _. tt))
tells (Space t) b h =
    cond_both (eqb b 45) _ _ (Tells (Space t) b)
    (λ e. record { sound = h; says = append_assoc (decimal t) _ _ ∙ ap (λ (x : ℕ). decimal t ++ 32 ∷ x ∷ []) (eqb-true b 45 e) })
    (λ _. cond_both (is_letter b) _ _ (Tells (Space t) b) (tells_first t b h) (λ _. tt))
tells (Marks t m) b h =
    cond_both (eqb b 10) _ _ (Tells (Marks t m) b)
    (ends_marks t m b h)
    (λ _. cond_both (is_letter b && ltb m (2 ^ (b - 97))) _ _ (Tells (Marks t m) b) (tells_letter t m b h) (λ _. tt))
tells (Hyphen t) b h = cond_both (eqb b 10) _ _ (Tells (Hyphen t) b) (ends_hyphen t b h) (λ _. tt)

-- each lawful line has a state in which only its line feed is to come
pub record Last (l : Line) : Type 0 where
  pub state : State
  pub sound : Sound state
  pub ends : step state 10 ≡ Done l

pub last : (l : Line) → Lawful l → Last l
last l h =
    ⊎_elim
    (λ none.
    let e : 0 ≡ l.marks = omega arith in
    record { state = Hyphen l.time; sound = h.time; ends = ap (λ (m : ℕ). Done (line l.time m)) e })
    (λ some. record { state = Marks l.time l.marks; sound = (h.time, some, h.marks); ends = refl })
    (cases_lt l.marks 1)

hyphen_text : (t : ℕ) → t < 2 ^ 32 → decimal t ++ 32 ∷ 45 ∷ 10 ∷ [] ≡ text (line t 0)
hyphen_text t h = sym (append_assoc (decimal t) (32 ∷ 45 ∷ []) (10 ∷ [])) ∙ (ends_hyphen t 10 h refl).says

-- a state's text can be gone on with to a line's
pub goes_on : (s : State) → Sound s → Unfinished (said s)
goes_on Start h =
    let zero-text = ap (λ (d : List ℕ). d ++ 32 ∷ 45 ∷ 10 ∷ []) (sym (decimal_digit 0 (omega arith))) ∙ hyphen_text 0 (omega arith) in
    (line 0 0, record { time = omega arith; marks = omega arith }, (48, 32 ∷ 45 ∷ 10 ∷ [], zero-text))
goes_on (Time t) h = (line t 0, record { time = h; marks = omega arith }, (32, 45 ∷ 10 ∷ [], hyphen_text t h))
goes_on (Space t) h = (line t 0, record { time = h; marks = omega arith }, (45, 10 ∷ [], append_assoc (decimal t) (32 ∷ []) (45 ∷ 10 ∷ []) ∙ hyphen_text t h))
goes_on (Marks t m) h = (line t m, record { time = h.0; marks = h.2 }, (10, [], (ends_marks t m 10 h refl).says))
goes_on (Hyphen t) h = (line t 0, record { time = h; marks = omega arith }, (10, [], (ends_hyphen t 10 h refl).says))
