-- What the text machine finds is what the bytes spell, and nothing else is. Assumes nothing.
use Rattle.std.proofs.Common.{◌≡◌, ℕ, suc, ◌+◌, ◌-◌, ◌%◌, ◌^◌, ◌<◌, Bool, false, cond, ◌||◌, eqb, List, [], ◌∷◌, ◌++◌, map, length, decimal, sym, refl, ap, ◌∙◌, subst, subst₂, inl, inr, append_assoc, append-nil, add-zero, arith, length-append}
use Rattle.std.specs.List.{flat_map, AllByRecursion}
use Rattle.std.proofs.lemmas.Fmt.{decimal_by_steps, decimal_nonempty}
use Rattle.std.proofs.lemmas.Bool.{ne_eqb, or_parts, or_from}
use Rattle.line.specs.declared.Line.{Line}
use Rattle.line.specs.Spelling.{text, Lawful}
use Rattle.feed.specs.declared.answers.Cause.{Cause}
use Rattle.feed.specs.declared.answers.Cause.TheVariants.{Time as TimeWrong, Marks as MarksWrong, Cut}
use Rattle.feed.specs.declared.answers.Ending.{Ending}
use Rattle.feed.specs.declared.answers.Ending.TheVariants.{Clean, Fault as Faulty}
use Rattle.feed.specs.declared.text.machine.State.{State}
use Rattle.feed.specs.declared.text.machine.State.TheVariants.{Start, Time, Space, Marks, Hyphen}
use Rattle.feed.specs.declared.text.machine.Step.{Step}
use Rattle.feed.specs.declared.text.machine.Step.TheVariants.{On, Line as Done, Wrong as NoStep}
use Rattle.feed.specs.Codes.{fault}
use Rattle.feed.specs.Machine.{cause, lines_from, end_from, said, step, stop}
use Rattle.feed.specs.Spelled.{Begins, spaced, TextEnds, TextReads, OneReading}
use Rattle.feed.proofs.Leads.{lines_by, end_by, leads_lines, leads_end, leads_sound, lines_step, end_step, line_lines, line_end, none_begins, reaches, stop_inside}
use Rattle.feed.proofs.Rests.{same_rest}
use Rattle.feed.proofs.Steps.{Sound, Tells, tells, goes_on}

-- which fault: the text of a state has a space where its marks are next

spaced-append : (xs ys : List ℕ) → spaced xs ≡ false → spaced (xs ++ ys) ≡ spaced ys
spaced-append [] ys h = refl
spaced-append (x ∷ xs) ys h =
    let p = or_parts (eqb x 32) (spaced xs) h in
    ap (λ (t : Bool). t || spaced (xs ++ ys)) p.0 ∙ spaced-append xs ys p.1

digit_unspaced : (n : ℕ) → spaced ((48 + n) ∷ []) ≡ false
digit_unspaced n = or_from (eqb (48 + n) 32) false (ne_eqb (48 + n) 32 (λ e. omega arith)) refl

decimal_unspaced : (t : ℕ) → t < 2 ^ 32 → spaced (decimal t) ≡ false
decimal_unspaced t h =
    decimal_by_steps (λ _ ds. spaced ds ≡ false) (λ n _. digit_unspaced n) (λ n ds _ before. spaced-append ds _ before ∙ digit_unspaced (n % 10)) t (omega arith)

cause_told : (s : State) → Sound s → cause s ≡ cond (spaced (said s)) MarksWrong TimeWrong
cause_told Start h = refl
cause_told (Time t) h = ap (λ (b : Bool). cond b MarksWrong TimeWrong) (sym (decimal_unspaced t h))
cause_told (Space t) h = ap (λ (b : Bool). cond b MarksWrong TimeWrong) (sym (spaced-append (decimal t) _ (decimal_unspaced t h)))
cause_told (Marks t m) h = ap (λ (b : Bool). cond b MarksWrong TimeWrong) (sym (spaced-append (decimal t) _ (decimal_unspaced t h.0)))
cause_told (Hyphen t) h = ap (λ (b : Bool). cond b MarksWrong TimeWrong) (sym (spaced-append (decimal t) _ (decimal_unspaced t h)))

said_some : (t : ℕ) (xs : List ℕ) → t < 2 ^ 32 → 0 < length (decimal t ++ xs)
said_some t xs h = omega (arith, length-append (decimal t) xs, decimal_nonempty t (omega arith))

-- the end of the text

abbrev text_lengths : List Line → List ℕ
text_lengths ls = map (λ l. length (text l)) ls

-- bytes that begin at the place start are read to these lines and this ending
pub record Found (start : ℕ) (bytes : List ℕ) (lines : List Line) (ending : Ending) : Type 0 where
  pub rest : List ℕ
  pub from : ℕ
  pub lawful : AllByRecursion Lawful lines
  pub whole : flat_map text lines ++ rest ≡ bytes
  pub place : from + length rest ≡ start + length bytes
  pub ends : TextEnds from rest ending

-- bytes that hold no line are the rest
no_lines : (start : ℕ) (bytes : List ℕ) (ending : Ending) → TextEnds start bytes ending → Found start bytes [] ending
no_lines start bytes ending ends = record { rest = bytes; from = start; lawful = tt; whole = refl; place = refl; ends = ends }

short : (s : State) (start p : ℕ) → Sound s → p ≡ start + length (said s) → 0 < length (said s) → Found start (said s) [] (Faulty (fault 4 Cut p))
short s start p h e some = no_lines start (said s) _ (inr (record { some = some; good = goes_on s h; told = ap (fault 4 Cut) e }))

stopped : (s : State) (start p : ℕ) → Sound s → p ≡ start + length (said s) → Found start (said s) [] (stop s p)
stopped Start start p h e = no_lines start [] Clean refl
stopped (Time t) start p h e = short (Time t) start p h e (decimal_nonempty t (omega arith))
stopped (Space t) start p h e = short (Space t) start p h e (said_some t _ h)
stopped (Marks t m) start p h e = short (Marks t m) start p h e (said_some t _ h.0)
stopped (Hyphen t) start p h e = short (Hyphen t) start p h e (said_some t _ h)

wrong : (s : State) (start p b : ℕ) (bs : List ℕ) → Sound s → p ≡ start + length (said s) → step s b ≡ NoStep → Found start (said s ++ b ∷ bs) [] (Faulty (fault 4 (cause s) p))
wrong s start p b bs h e none =
    no_lines start (said s ++ b ∷ bs) _
    (inl (record { before = said s; byte = b; after = bs; split = refl; good = goes_on s h; bad = none_begins s b h none; told = λ i. fault 4 (cause_told s h i) (e i) }))

line_more : (l : Line) (start next : ℕ) (bs : List ℕ) (ls : List Line) (ending : Ending) → Lawful l → next ≡ start + length (text l) → Found next bs ls ending → Found start (text l ++ bs) (l ∷ ls) ending
line_more l start next bs ls ending h e f = record {
  rest = f.rest;
  from = f.from;
  lawful = (h, f.lawful);
  whole = append_assoc (text l) (flat_map text ls) f.rest ∙ ap (λ (ys : List ℕ). text l ++ ys) f.whole;
  place = f.place ∙ omega (arith, length-append (text l) bs);
  ends = f.ends;
}

module _ (s : State) (b : ℕ) (bs : List ℕ) (start p : ℕ) (h : Sound s) (e : p ≡ start + length (said s)) (more : (t : State) (from q : ℕ) → Sound t → q ≡ from + length (said t) → Found from (said t ++ bs) (lines_from t bs) (end_from t q bs)) where
  one_longer : (xs : List ℕ) → said s ++ b ∷ [] ≡ xs → suc p ≡ start + length xs
  one_longer xs says = omega (arith, sym (length-append (said s) (b ∷ [])) ∙ ap length says)

  regroup : (xs : List ℕ) → said s ++ b ∷ [] ≡ xs → xs ++ bs ≡ said s ++ b ∷ bs
  regroup xs says = ap (λ (ys : List ℕ). ys ++ bs) (sym says) ∙ append_assoc (said s) (b ∷ []) bs

  by_step : (y : Step) → step s b ≡ y → Tells s b y → Found start (said s ++ b ∷ bs) (lines_by y bs) (end_by s p y bs)
  by_step (On t) is told =
      subst (λ (bytes : List ℕ). Found start bytes (lines_from t bs) (end_from t (suc p) bs)) (regroup (said t) told.says)
      (more t start (suc p) told.sound (one_longer (said t) told.says))
  by_step (Done l) is told =
      subst (λ (bytes : List ℕ). Found start bytes (l ∷ lines_from Start bs) (end_from Start (suc p) bs)) (regroup (text l) told.says)
      (line_more l start (suc p) bs _ _ told.lawful (one_longer (text l) told.says) (more Start (suc p) (suc p) tt (sym (add-zero (suc p)))))
  by_step NoStep is told = wrong s start p b bs h e is

-- the machine's lines and ending are what its state's text and the bytes to come spell
pub found : (bs : List ℕ) (s : State) (start p : ℕ) → Sound s → p ≡ start + length (said s) → Found start (said s ++ bs) (lines_from s bs) (end_from s p bs)
unfolding lines_from end_from
found [] s start p h e = subst (λ (bytes : List ℕ). Found start bytes [] (stop s p)) (sym (append-nil (said s))) (stopped s start p h e)
found (b ∷ bs) s start p h e =
    let y = by_step s b bs start p h e (λ t from q. found bs t from q) (step s b) refl (tells s b h) in
    subst₂ (Found start (said s ++ b ∷ bs)) (sym (lines_step s b bs (step s b) refl)) (sym (end_step s p b bs (step s b) refl)) y

-- every text is read
pub text_reads : (bytes : List ℕ) → (rest : List ℕ) × TextReads bytes (lines_from Start bytes) (text_lengths (lines_from Start bytes)) rest (end_from Start 0 bytes)
text_reads bytes =
    let f = found bytes Start 0 0 tt refl in
    let from : f.from ≡ length bytes - length f.rest = omega (arith, f.place) in (
      f.rest,
      record {
        lawful = f.lawful;
        spelled = record { whole = f.whole; long = refl };
        ends = subst (λ (q : ℕ). TextEnds q f.rest (end_from Start 0 bytes)) from f.ends;
      },
    )

-- a text is read in one way only

spelled_lines : (ls : List Line) (rest : List ℕ) → AllByRecursion Lawful ls → lines_from Start (flat_map text ls ++ rest) ≡ ls ++ lines_from Start rest
spelled_lines [] rest h = refl
spelled_lines (l ∷ ls) rest h =
    ap (lines_from Start) (append_assoc (text l) (flat_map text ls) rest)
    ∙ line_lines l h.0 0 (flat_map text ls ++ rest) ∙ ap (λ (ms : List Line). l ∷ ms) (spelled_lines ls rest h.1)

spelled_end : (ls : List Line) (rest : List ℕ) (start : ℕ) → AllByRecursion Lawful ls → end_from Start start (flat_map text ls ++ rest) ≡ end_from Start (start + length (flat_map text ls)) rest
spelled_end [] rest start h = ap (λ (q : ℕ). end_from Start q rest) (sym (add-zero start))
spelled_end (l ∷ ls) rest start h =
    let place : start + length (text l) + length (flat_map text ls) ≡ start + length (text l ++ flat_map text ls) = omega (arith, length-append (text l) (flat_map text ls)) in
    ap (end_from Start start) (append_assoc (text l) (flat_map text ls) rest)
    ∙ line_end l h.0 start (flat_map text ls ++ rest) ∙ spelled_end ls rest (start + length (text l)) h.1 ∙ ap (λ (q : ℕ). end_from Start q rest) place

-- where a step is left neither on nor to a line's end
no_step : (s : State) (b : ℕ) → Sound s → (Begins (said s ++ b ∷ []) → ⊥) → step s b ≡ NoStep
no_step s b h none = go (step s b) refl (tells s b h)
  where
    go : (y : Step) → step s b ≡ y → Tells s b y → step s b ≡ NoStep
    go (On t) e told =
        let u = goes_on t told.sound in
        absurd (none (u.0, u.1, (u.2.0 ∷ u.2.1, ap (λ (ys : List ℕ). ys ++ u.2.0 ∷ u.2.1) told.says ∙ u.2.2)))
    go (Done l) e told = absurd (none (l, told.lawful, ([], append-nil _ ∙ told.says)))
    go NoStep e told = e

-- the rest holds no line, and ends as it is told
rest_ends : (start : ℕ) (rest : List ℕ) (ending : Ending) → TextEnds start rest ending → (lines_from Start rest ≡ []) × (end_from Start start rest ≡ ending)
unfolding lines_from end_from
rest_ends start rest Clean e = (ap (lines_from Start) e, ap (end_from Start start) e)
rest_ends start rest (Faulty f) (inl w) =
    let r = reaches w.before w.good in
    let sound = leads_sound Start w.before r.0 tt r.1 in
    let none = no_step r.0 w.byte sound.0 (subst (λ (ys : List ℕ). Begins (ys ++ w.byte ∷ []) → ⊥) sound.1 w.bad) in
    let cause-is = cause_told r.0 sound.0 ∙ ap (λ (ys : List ℕ). cond (spaced ys) MarksWrong TimeWrong) (sym sound.1) in (
      ap (lines_from Start) (sym w.split) ∙ leads_lines Start w.before r.0 _ r.1 ∙ lines_step r.0 w.byte w.after NoStep none,
      ap (end_from Start start) (sym w.split) ∙ leads_end Start start w.before r.0 _ r.1 ∙ end_step r.0 _ w.byte w.after NoStep none ∙ ap (λ (c : Cause). Faulty (fault 4 c (start + length w.before))) cause-is ∙ ap Faulty (sym w.told),
    )
rest_ends start rest (Faulty f) (inr c) =
    let r = reaches rest c.good in
    let sound = leads_sound Start rest r.0 tt r.1 in (
      ap (lines_from Start) (sym (append-nil rest)) ∙ leads_lines Start rest r.0 [] r.1,
      ap (end_from Start start) (sym (append-nil rest)) ∙ leads_end Start start rest r.0 [] r.1 ∙ stop_inside r.0 _ (λ e. omega (arith, c.some, ap length sound.1, ap (λ (s : State). length (said s)) e)) ∙ ap Faulty (sym c.told),
    )

-- what reads a text is the machine's
module _ (bytes : List ℕ) (ls : List Line) (ns rest : List ℕ) (ending : Ending) (r : TextReads bytes ls ns rest ending) where
  pub lines_are : lines_from Start bytes ≡ ls
  lines_are =
      ap (lines_from Start) (sym r.spelled.whole) ∙ spelled_lines ls rest r.lawful
      ∙ ap (λ (ms : List Line). ls ++ ms) (rest_ends _ rest ending r.ends).0 ∙ append-nil ls

  pub end_is : end_from Start 0 bytes ≡ ending
  end_is =
      let place : 0 + length (flat_map text ls) ≡ length bytes - length rest = omega (arith, sym (length-append (flat_map text ls) rest) ∙ ap length r.spelled.whole) in
      ap (end_from Start 0) (sym r.spelled.whole) ∙ spelled_end ls rest 0 r.lawful
      ∙ ap (λ (q : ℕ). end_from Start q rest) place ∙ (rest_ends _ rest ending r.ends).1

pub text_once : (bytes : List ℕ) → OneReading (TextReads bytes)
text_once bytes ls ms is js r s d e p q =
    let same : ls ≡ ms = sym (lines_are bytes ls is r d p) ∙ lines_are bytes ms js s e q in (
      same,
      p.spelled.long ∙ ap text_lengths same ∙ sym q.spelled.long,
      same_rest text bytes ls ms r s same p.spelled.whole q.spelled.whole,
      sym (end_is bytes ls is r d p) ∙ end_is bytes ms js s e q,
    )

-- lawful lines that were spelled out come back
pub text_back : (bytes : List ℕ) (ls : List Line) → AllByRecursion Lawful ls → flat_map text ls ≡ bytes → (lines_from Start bytes ≡ ls) × (end_from Start 0 bytes ≡ Clean)
text_back bytes ls h e =
    let r : TextReads bytes ls (text_lengths ls) [] Clean = record { lawful = h; spelled = record { whole = append-nil (flat_map text ls) ∙ e; long = refl }; ends = refl } in
    (lines_are bytes ls (text_lengths ls) [] Clean r, end_is bytes ls (text_lengths ls) [] Clean r)
