-- Where reading some bytes leads the text machine. Assumes nothing.
use Rattle.std.proofs.Common.{◌≡◌, ℕ, zero, suc, ◌+◌, ◌-◌, ◌*◌, ◌/◌, ◌%◌, ◌^◌, ◌<◌, ◌≤◌, true, false, eqb, ltb, ◌⊎◌, List, [], ◌∷◌, ◌++◌, length, decimal, sym, refl, ap, ◌∙◌, subst, inl, inr, ⊎_elim, append_assoc, append-nil, add-zero, zero-add, arith, length-append}
use mathlib.Core.List.{append_cancel_left}
use Rattle.std.proofs.lemmas.Fmt.{decimal_by_steps}
use Rattle.std.proofs.lemmas.Bool.{and_from, ne_eqb, le-leb, lt-ltb, cond-true, cond-false}
use Rattle.line.specs.declared.Line.{Line}
use Rattle.line.specs.Spelling.{letters_below, text, Lawful}
use Rattle.line.proofs.Letters.{letters_push, marks_by_steps, no_letters}
use Rattle.feed.specs.declared.answers.Cause.TheVariants.{Cut}
use Rattle.feed.specs.declared.answers.Ending.{Ending}
use Rattle.feed.specs.declared.answers.Ending.TheVariants.{Fault as Faulty}
use Rattle.feed.specs.declared.text.machine.State.{State}
use Rattle.feed.specs.declared.text.machine.State.TheVariants.{Start, Time, Space, Marks, Hyphen}
use Rattle.feed.specs.declared.text.machine.Step.{Step}
use Rattle.feed.specs.declared.text.machine.Step.TheVariants.{On, Line as Done, Wrong}
use Rattle.feed.specs.Codes.{fault}
use Rattle.feed.specs.Machine.{is_digit, is_letter, cause, lines_from, end_from, said, step, stop}
use Rattle.feed.specs.Spelled.{Begins, Unfinished}
use Rattle.feed.proofs.Steps.{Sound, Tells, tells, last}

-- what is found from a step on
abbrev pub lines_by : Step → List ℕ → List Line
lines_by (On t) bs = lines_from t bs
lines_by (Done l) bs = l ∷ lines_from Start bs
lines_by Wrong bs = []

abbrev pub end_by : State → ℕ → Step → List ℕ → Ending
end_by s p (On t) bs = end_from t (suc p) bs
end_by s p (Done l) bs = end_from Start (suc p) bs
end_by s p Wrong bs = Faulty (fault 4 (cause s) p)

pub lines_step : (s : State) (b : ℕ) (bs : List ℕ) (x : Step) → step s b ≡ x → lines_from s (b ∷ bs) ≡ lines_by x bs
unfolding lines_from
lines_step s b bs (On t) e = rw (e, lines_from)
lines_step s b bs (Done l) e = rw (e, lines_from)
lines_step s b bs Wrong e = rw (e, lines_from)

pub end_step : (s : State) (p b : ℕ) (bs : List ℕ) (x : Step) → step s b ≡ x → end_from s p (b ∷ bs) ≡ end_by s p x bs
unfolding end_from
end_step s p b bs (On t) e = rw (e, end_from)
end_step s p b bs (Done l) e = rw (e, end_from)
end_step s p b bs Wrong e = rw (e, end_from)

-- a text that ends inside a line is cut
pub stop_inside : (s : State) (p : ℕ) → (s ≡ Start → ⊥) → stop s p ≡ Faulty (fault 4 Cut p)
stop_inside Start p h = absurd (h refl)
stop_inside (Time t) p h = refl
stop_inside (Space t) p h = refl
stop_inside (Marks t m) p h = refl
stop_inside (Hyphen t) p h = refl

-- reading xs leads from a state to another, inside one line
abbrev pub Leads : State → List ℕ → State → Type 0
Leads s [] u = s ≡ u
Leads s (b ∷ bs) u = (t : State) × (step s b ≡ On t) × Leads t bs u

pub leads_push : (s : State) (xs : List ℕ) (t : State) (b : ℕ) (u : State) → Leads s xs t → step t b ≡ On u → Leads s (xs ++ b ∷ []) u
leads_push s [] t b u e h = (u, ap (λ (x : State). step x b) e ∙ h, refl)
leads_push s (x ∷ xs) t b u l h = (l.0, l.1, leads_push l.0 xs t b u l.2 h)

pub leads_append : (s : State) (xs : List ℕ) (t : State) (ys : List ℕ) (u : State) → Leads s xs t → Leads t ys u → Leads s (xs ++ ys) u
leads_append s [] t ys u e h = subst (λ (x : State). Leads x ys u) (sym e) h
leads_append s (x ∷ xs) t ys u l h = (l.0, l.1, leads_append l.0 xs t ys u l.2 h)

pub leads_lines : (s : State) (xs : List ℕ) (t : State) (ys : List ℕ) → Leads s xs t → lines_from s (xs ++ ys) ≡ lines_from t ys
leads_lines s [] t ys e = ap (λ (x : State). lines_from x ys) e
leads_lines s (x ∷ xs) t ys l = lines_step s x (xs ++ ys) (On l.0) l.1 ∙ leads_lines l.0 xs t ys l.2

pub leads_end : (s : State) (p : ℕ) (xs : List ℕ) (t : State) (ys : List ℕ) → Leads s xs t → end_from s p (xs ++ ys) ≡ end_from t (p + length xs) ys
leads_end s p [] t ys e = λ i. end_from (e i) (sym (add-zero p) i) ys
leads_end s p (x ∷ xs) t ys l =
    let more : suc p + length xs ≡ p + suc (length xs) = omega arith in
    end_step s p x (xs ++ ys) (On l.0) l.1 ∙ leads_end l.0 (suc p) xs t ys l.2 ∙ ap (λ (q : ℕ). end_from t q ys) more

-- a sound state stays sound, and what was read has been said
pub leads_sound : (s : State) (xs : List ℕ) (t : State) → Sound s → Leads s xs t → Sound t × (said s ++ xs ≡ said t)
leads_sound s [] t h e = (subst Sound e h, append-nil (said s) ∙ ap said e)
leads_sound s (x ∷ xs) t h l =
    let told = subst (Tells s x) l.1 (tells s x h) in
    let more = leads_sound l.0 xs t told.sound l.2 in
    (more.0, sym (append_assoc (said s) (x ∷ []) xs) ∙ ap (λ (ys : List ℕ). ys ++ xs) told.says ∙ more.1)

-- every sound state is come to by its text

digit_test : (d : ℕ) → d < 10 → is_digit (48 + d) ≡ true
digit_test d h = and_from _ _ (le-leb 48 (48 + d) (omega arith)) (le-leb (48 + d) 57 (omega arith))

digit_value : (d : ℕ) → 48 + d - 48 ≡ d
digit_value d = omega arith

time_arrives : (t : ℕ) → t < 2 ^ 32 → Leads Start (decimal t) (Time t)
time_arrives t h = decimal_by_steps (λ n ds. n < 2 ^ 32 → Leads Start ds (Time n)) one more t (omega arith) h
  where
    one : (n : ℕ) → n < 10 → n < 2 ^ 32 → Leads Start ((48 + n) ∷ []) (Time n)
    one n small _ = (Time n, cond-true _ _ _ (digit_test n small) ∙ ap (λ (k : ℕ). On (Time k)) (digit_value n), refl)

    more : (n : ℕ) (ds : List ℕ) → 10 ≤ n → (n / 10 < 2 ^ 32 → Leads Start ds (Time (n / 10))) → n < 2 ^ 32 → Leads Start (ds ++ (48 + n % 10) ∷ []) (Time n)
    more n ds large before fits =
        let d : ℕ = n % 10 in
        let small : n % 10 < 10 = omega arith in
        let value : n / 10 * 10 + (48 + n % 10 - 48) ≡ n = omega arith in
        let no-space : eqb (48 + n % 10) 32 ≡ false = ne_eqb (48 + n % 10) 32 (λ e. omega arith) in
        let test = and_from _ _ (digit_test (n % 10) small) (and_from _ _ (lt-ltb 0 (n / 10) (omega arith)) (lt-ltb (n / 10 * 10 + (48 + n % 10 - 48)) (2 ^ 32) (omega arith))) in
        leads_push Start ds (Time (n / 10)) (48 + n % 10) (Time n) (before (omega arith))
        (cond-false _ _ _ no-space ∙ cond-true _ _ _ test ∙ ap (λ (k : ℕ). On (Time k)) value)

-- the state after the letters of m
abbrev marked : ℕ → ℕ → State
marked t zero = Space t
marked t (suc m) = Marks t (suc m)

marked_some : (t m : ℕ) → 0 < m → Marks t m ≡ marked t m
marked_some t zero h = absurd (omega arith)
marked_some t (suc m) h = refl

letter_test : (j : ℕ) → j < 26 → is_letter (97 + j) ≡ true
letter_test j h = and_from _ _ (le-leb 97 (97 + j) (omega arith)) (le-leb (97 + j) 122 (omega arith))

letter_value : (j : ℕ) → 97 + j - 97 ≡ j
letter_value j = omega arith

letter_step : (t m j : ℕ) → m < 2 ^ j → j < 26 → step (marked t m) (97 + j) ≡ On (marked t (m + 2 ^ j))
letter_step t zero j h k =
    let sum : 2 ^ (97 + j - 97) ≡ zero + 2 ^ j = ap (λ (n : ℕ). 2 ^ n) (letter_value j) ∙ sym (zero-add (2 ^ j)) in
    cond-false _ _ _ (ne_eqb (97 + j) 45 (λ e. omega arith)) ∙ cond-true _ _ _ (letter_test j k)
    ∙ ap (λ (n : ℕ). On (Marks t n)) sum ∙ ap On (marked_some t (zero + 2 ^ j) (omega arith))
letter_step t (suc m) j h k =
    let bit : 2 ^ (97 + j - 97) ≡ 2 ^ j = ap (λ (n : ℕ). 2 ^ n) (letter_value j) in
    let above : ltb (suc m) (2 ^ (97 + j - 97)) ≡ true = lt-ltb (suc m) _ (omega (arith, bit)) in
    cond-false _ _ _ (ne_eqb (97 + j) 10 (λ e. omega arith)) ∙ cond-true _ _ _ (and_from _ _ (letter_test j k) above)
    ∙ ap (λ (n : ℕ). On (Marks t (suc m + n))) bit ∙ ap On (marked_some t (suc m + 2 ^ j) (omega arith))

letters_arrive : (t m : ℕ) → m < 2 ^ 26 → Leads (Space t) (letters_below 26 m) (marked t m)
letters_arrive t m h =
    marks_by_steps (λ m. Leads (Space t) (letters_below 26 m) (marked t m))
    (subst (λ (l : List ℕ). Leads (Space t) l (Space t)) (sym no_letters) refl)
    (λ m j lt known before. subst (λ (l : List ℕ). Leads (Space t) l (marked t (m + 2 ^ j))) (sym (letters_push m j lt known)) (leads_push _ _ (marked t m) (97 + j) _ before (letter_step t m j lt known)))
    m h

space_arrives : (t : ℕ) → t < 2 ^ 32 → Leads Start (decimal t ++ 32 ∷ []) (Space t)
space_arrives t h = leads_push Start (decimal t) (Time t) 32 (Space t) (time_arrives t h) refl

pub arrives : (s : State) → Sound s → Leads Start (said s) s
arrives Start h = refl
arrives (Time t) h = time_arrives t h
arrives (Space t) h = space_arrives t h
arrives (Marks t m) h =
    subst (λ (l : List ℕ). Leads Start l (Marks t m)) (append_assoc (decimal t) (32 ∷ []) (letters_below 26 m))
    (leads_append Start (decimal t ++ 32 ∷ []) (Space t) (letters_below 26 m) (Marks t m) (space_arrives t h.0)
    (subst (Leads (Space t) (letters_below 26 m)) (sym (marked_some t m h.1)) (letters_arrive t m h.2)))
arrives (Hyphen t) h =
    subst (λ (l : List ℕ). Leads Start l (Hyphen t)) (append_assoc (decimal t) (32 ∷ []) (45 ∷ []))
    (leads_push Start (decimal t ++ 32 ∷ []) (Space t) 45 (Hyphen t) (space_arrives t h) refl)

-- a line's text, and bytes behind it

module _ (l : Line) (h : Lawful l) (p : ℕ) (ys : List ℕ) where
  line_split : said (last l h).state ++ 10 ∷ ys ≡ text l ++ ys
  line_split =
      let end = last l h in
      let told = subst (Tells end.state 10) end.ends (tells end.state 10 end.sound) in
      sym (append_assoc (said end.state) (10 ∷ []) ys) ∙ ap (λ (l : List ℕ). l ++ ys) told.says

  pub line_lines : lines_from Start (text l ++ ys) ≡ l ∷ lines_from Start ys
  line_lines =
      let end = last l h in
      ap (lines_from Start) (sym line_split)
      ∙ leads_lines Start _ end.state (10 ∷ ys) (arrives end.state end.sound)
      ∙ lines_step end.state 10 ys (Done l) end.ends

  pub line_end : end_from Start p (text l ++ ys) ≡ end_from Start (p + length (text l)) ys
  line_end =
      let end = last l h in
      let told = subst (Tells end.state 10) end.ends (tells end.state 10 end.sound) in
      let long : length (said end.state) + 1 ≡ length (text l) = sym (length-append (said end.state) (10 ∷ [])) ∙ ap length told.says in
      let place : suc (p + length (said end.state)) ≡ p + length (text l) = omega arith in
      ap (end_from Start p) (sym line_split)
      ∙ leads_end Start p _ end.state (10 ∷ ys) (arrives end.state end.sound)
      ∙ end_step end.state _ 10 ys (Done l) end.ends
      ∙ ap (λ (q : ℕ). end_from Start q ys) place

-- where no step is left, the bytes begin no line
pub none_begins : (s : State) (b : ℕ) → Sound s → step s b ≡ Wrong → Begins (said s ++ b ∷ []) → ⊥
none_begins s b h e x =
    let l = x.0 in
    let zs = x.2.0 in
    let same : text l ++ [] ≡ said s ++ b ∷ zs = append-nil (text l) ∙ sym x.2.1 ∙ append_assoc (said s) (b ∷ []) zs in
    let none : l ∷ lines_from Start [] ≡ [] = sym (line_lines l x.1 0 []) ∙ ap (lines_from Start) same ∙ leads_lines Start (said s) s (b ∷ zs) (arrives s h) ∙ lines_step s b zs Wrong e in
    omega (arith, ap length none)

-- a text's lines are found: no two lines begin the same bytes
pub same_line : (l m : Line) → Lawful l → Lawful m → (ys zs : List ℕ) → text l ++ ys ≡ text m ++ zs → (l ≡ m) × (ys ≡ zs)
same_line l m h k ys zs e =
    let found : l ∷ lines_from Start ys ≡ m ∷ lines_from Start zs = sym (line_lines l h 0 ys) ∙ ap (lines_from Start) e ∙ line_lines m k 0 zs in
    let same : l ≡ m = cc found in
    (same, append_cancel_left (text l) ys zs (e ∙ ap (λ (x : Line). text x ++ zs) (sym same)))

-- what becomes of bytes: they lead on, or one of them ends the line or is wrong
pub record Halts (s : State) (xs : List ℕ) : Type 0 where
  pub before : List ℕ
  pub byte : ℕ
  pub after : List ℕ
  pub split : before ++ byte ∷ after ≡ xs
  pub state : State
  pub leads : Leads s before state
  pub how : ((l : Line) × (step state byte ≡ Done l)) ⊎ (step state byte ≡ Wrong)

pub outcome : (s : State) (xs : List ℕ) → ((t : State) × Leads s xs t) ⊎ Halts s xs
outcome s [] = inl (s, refl)
outcome s (x ∷ xs) = go (λ t. outcome t xs) (step s x) refl
  where
    on : (t : State) → step s x ≡ On t → ((u : State) × Leads t xs u) ⊎ Halts t xs → ((u : State) × Leads s (x ∷ xs) u) ⊎ Halts s (x ∷ xs)
    on t e (inl l) = inl (l.0, (t, e, l.1))
    on t e (inr h) = inr (record { before = x ∷ h.before; byte = h.byte; after = h.after; split = ap (λ (l : List ℕ). x ∷ l) h.split; state = h.state; leads = (t, e, h.leads); how = h.how })

    go : ((t : State) → ((u : State) × Leads t xs u) ⊎ Halts t xs) → (y : Step) → step s x ≡ y → ((u : State) × Leads s (x ∷ xs) u) ⊎ Halts s (x ∷ xs)
    go more (On t) e = on t e (more t)
    go more (Done l) e = inr (record { before = []; byte = x; after = xs; split = refl; state = s; leads = refl; how = inl (l, e) })
    go more Wrong e = inr (record { before = []; byte = x; after = xs; split = refl; state = s; leads = refl; how = inr e })

-- a line's text goes on nowhere else than to its end
never_halts : (xs : List ℕ) → Unfinished xs → Halts Start xs → ⊥
never_halts xs u h =
    let l = u.0 in
    let more = u.2.0 ∷ u.2.1 in
    let sound = leads_sound Start h.before h.state tt h.leads in
    let behind : h.before ++ h.byte ∷ (h.after ++ more) ≡ text l = sym (append_assoc h.before (h.byte ∷ h.after) more) ∙ ap (λ (ys : List ℕ). ys ++ more) h.split ∙ u.2.2 in
    let whole : (said h.state ++ h.byte ∷ []) ++ (h.after ++ more) ≡ text l = append_assoc (said h.state) (h.byte ∷ []) (h.after ++ more) ∙ ap (λ (ys : List ℕ). ys ++ h.byte ∷ (h.after ++ more)) (sym sound.1) ∙ behind in
    ⊎_elim
    (λ d.
    let told = subst (Tells h.state h.byte) d.1 (tells h.state h.byte sound.0) in
    let none = (same_line d.0 l told.lawful u.1 (h.after ++ more) [] (ap (λ (ys : List ℕ). ys ++ (h.after ++ more)) (sym told.says) ∙ whole ∙ sym (append-nil (text l)))).1 in
    omega (arith, sym (length-append h.after more) ∙ ap length none))
    (λ w. none_begins h.state h.byte sound.0 w (l, u.1, (h.after ++ more, whole)))
    h.how

-- bytes that begin a line, and are not all of it, lead on
pub reaches : (xs : List ℕ) → Unfinished xs → (t : State) × Leads Start xs t
reaches xs u = ⊎_elim (λ t. t) (λ h. absurd (never_halts xs u h)) (outcome Start xs)
