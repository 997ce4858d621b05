-- What a packed feed finds is what the bytes spell, and nothing else is. Assumes nothing.
use Rattle.std.proofs.Common.{◌≡◌, ℕ, zero, suc, ◌+◌, ◌-◌, ◌*◌, ◌/◌, ◌%◌, ◌^◌, ◌<◌, ◌≤◌, cond, eqb, List, [], ◌∷◌, ◌++◌, map, length, get_or, drop, sym, refl, ap, ◌∙◌, subst, append_assoc, append-nil, add_assoc, add-zero, arith, length-drop}
use Rattle.std.specs.List.{flat_map, AllByRecursion}
use Rattle.std.proofs.lemmas.List.{drop_more, get_or-drop, take_rest}
use Rattle.std.proofs.lemmas.Bool.{cond-true, cond-false, cond_both, eq-eqb, ne_eqb, eqb-true, eqb-false}
use Rattle.line.specs.declared.Line.{Line}
use Rattle.feed.specs.declared.answers.Cause.TheVariants.{Torn}
use Rattle.feed.specs.declared.answers.Ending.{Ending}
use Rattle.feed.specs.declared.answers.Ending.TheVariants.{Clean, Fault as Faulty}
use Rattle.feed.specs.declared.answers.Next.TheVariants.{Line as Handed, Ended}
use Rattle.feed.specs.Codes.{fault}
use Rattle.feed.specs.Packed.{word_at, line_at, lines_from, count, lines_at, end_at, PackedAt}
use Rattle.feed.specs.Spelled.{OneReading, PackedEnds, PackedReads, Words, packed, word}
use Rattle.feed.proofs.Rests.{left, long_left, byte_left, no_line, one_line, same_rest}

-- what is answered at a place, by what is left from there on

first_left : (bytes : List ℕ) (at : ℕ) → line_at (left bytes at) 0 ≡ line_at bytes at
first_left bytes at = simp (byte_left, add_assoc, add-zero)

module _ (bytes : List ℕ) (start : ℕ) (inside : start ≤ length bytes) where
  none_left : length bytes - start < 8 → lines_at bytes start ≡ []
  unfolding lines_from
  none_left h = let e : count bytes start ≡ 0 = omega arith in ap (λ (n : ℕ). lines_from n bytes start) e

  pub packed_none : length (left bytes start) ≡ 0 → PackedAt bytes start (Ended Clean) start
  packed_none h =
      let long = long_left bytes start in
      no_line inside (none_left (omega arith)) (cond-true _ _ _ (eq-eqb ((length bytes - start) % 8) 0 (omega arith)))

  pub packed_torn : (length (left bytes start) ≡ 0 → ⊥) → length (left bytes start) < 8 → PackedAt bytes start (Ended (Faulty (fault 3 Torn start))) start
  packed_torn some h =
      let long = long_left bytes start in
      let place : start + count bytes start * 8 ≡ start = omega arith in
      no_line inside (none_left (omega arith))
      (cond-false _ _ _ (ne_eqb ((length bytes - start) % 8) 0 (λ e. some (omega arith))) ∙ ap (λ (p : ℕ). Faulty (fault 3 Torn p)) place)

  pub packed_line : (l : Line) → 8 ≤ length (left bytes start) → l ≡ line_at (left bytes start) 0 → PackedAt bytes start (Handed l) (start + 8)
  unfolding lines_from
  packed_line l h is =
      let long = long_left bytes start in
      let more : suc (count bytes (start + 8)) ≡ count bytes start = omega arith in
      let left : (length bytes - (start + 8)) % 8 ≡ (length bytes - start) % 8 = omega arith in
      let place : start + 8 + count bytes (start + 8) * 8 ≡ start + count bytes start * 8 = omega arith in
      one_line (omega arith) (ap (λ (m : Line). m ∷ lines_at bytes (start + 8)) (is ∙ first_left bytes start) ∙ ap (λ (n : ℕ). lines_from n bytes start) more)
      (λ i. cond (eqb (left i) 0) Clean (Faulty (fault 3 Torn (place i)))) refl

-- four bytes, and eight

word_of : (a b c d : ℕ) (xs : List ℕ) → a < 256 → b < 256 → c < 256 → d < 256 → word (a * 16777216 + b * 65536 + c * 256 + d) ++ xs ≡ a ∷ b ∷ c ∷ d ∷ xs
word_of a b c d xs ha hb hc hd =
    let n : ℕ = a * 16777216 + b * 65536 + c * 256 + d in
    let ea : n / 16777216 % 256 ≡ a = omega arith in
    let eb : n / 65536 % 256 ≡ b = omega arith in
    let ec : n / 256 % 256 ≡ c = omega arith in
    let ed : n % 256 ≡ d = omega arith in
    λ i. ea i ∷ eb i ∷ ec i ∷ ed i ∷ xs

same_word : (m n : ℕ) (xs ys : List ℕ) → m < 2 ^ 32 → n < 2 ^ 32 → word m ++ xs ≡ word n ++ ys → (m ≡ n) × (xs ≡ ys)
same_word m n xs ys hm hn e =
    let a : m / 16777216 % 256 ≡ n / 16777216 % 256 = cc e in
    let b : m / 65536 % 256 ≡ n / 65536 % 256 = cc e in
    let c : m / 256 % 256 ≡ n / 256 % 256 = cc e in
    let d : m % 256 ≡ n % 256 = cc e in
    (omega arith, cc e)

module _ (bytes : List ℕ) (fits : (k : ℕ) → get_or bytes k 0 < 256) where
  four : (at : ℕ) → at + 4 ≤ length bytes → drop at bytes ≡ word (word_at bytes at) ++ drop (at + 4) bytes
  four at h =
      let a = drop_more bytes at 0 (omega arith) in
      let b = simp add_assoc at (drop_more bytes (at + 1) 0 (omega arith)) in
      let c = simp add_assoc at (drop_more bytes (at + 2) 0 (omega arith)) in
      let d = simp add_assoc at (drop_more bytes (at + 3) 0 (omega arith)) in
      let w = word_of (get_or bytes at 0) (get_or bytes (at + 1) 0) (get_or bytes (at + 2) 0) (get_or bytes (at + 3) 0) (drop (at + 4) bytes) (fits at) (fits (at + 1)) (fits (at + 2)) (fits (at + 3)) in
      cc

  eight : (at : ℕ) → at + 8 ≤ length bytes → drop at bytes ≡ packed (line_at bytes at) ++ drop (at + 8) bytes
  eight at h =
      let e : at + 4 + 4 ≡ at + 8 = omega arith in
      four at (omega arith) ∙ ap (λ (l : List ℕ). word (word_at bytes at) ++ l) (four (at + 4) (omega arith) ∙ ap (λ (k : ℕ). word (word_at bytes (at + 4)) ++ drop k bytes) e)

  words : (at : ℕ) → Words (line_at bytes at)
  words at = record {
    time = omega (arith, fits at, fits (at + 1), fits (at + 2), fits (at + 3));
    marks = omega (arith, fits (at + 4), fits (at + 4 + 1), fits (at + 4 + 2), fits (at + 4 + 3));
  }

  all_words : (n at : ℕ) → AllByRecursion Words (lines_from n bytes at)
  unfolding lines_from
  all_words zero at = tt
  all_words (suc n) at = (words at, all_words n (at + 8))

  lines_spell : (n at : ℕ) → at + n * 8 ≤ length bytes → flat_map packed (lines_from n bytes at) ++ drop (at + n * 8) bytes ≡ drop at bytes
  unfolding lines_from
  lines_spell zero at h = let e : at + 0 * 8 ≡ at = omega arith in ap (λ (k : ℕ). drop k bytes) e
  lines_spell (suc n) at h =
      let e : at + suc n * 8 ≡ at + 8 + n * 8 = omega arith in
      append_assoc (packed (line_at bytes at)) (flat_map packed (lines_from n bytes (at + 8))) _
      ∙ ap (λ (k : ℕ). packed (line_at bytes at) ++ (flat_map packed (lines_from n bytes (at + 8)) ++ drop k bytes)) e
      ∙ ap (λ (l : List ℕ). packed (line_at bytes at) ++ l) (lines_spell n (at + 8) (omega arith))
      ∙ sym (eight at (omega arith))

  rest_of : List ℕ
  rest_of = drop (0 + count bytes 0 * 8) bytes

  rest_ends : PackedEnds (length bytes - length rest_of) rest_of (end_at bytes 0)
  unfolding rest_of
  rest_ends =
      let long = length-drop (0 + count bytes 0 * 8) bytes in
      cond_both (eqb ((length bytes - 0) % 8) 0) Clean _ (PackedEnds (length bytes - length rest_of) rest_of)
      (λ e. let z = eqb-true ((length bytes - 0) % 8) 0 e in Rattle.std.proofs.lemmas.List.nil_from_length rest_of (omega arith))
      (λ e. let z = eqb-false ((length bytes - 0) % 8) 0 e in let place : 0 + count bytes 0 * 8 ≡ length bytes - length rest_of = omega arith in (omega arith, omega arith, ap (fault 3 Torn) place))

  pub packed_reads : (rest : List ℕ) × PackedReads bytes (lines_at bytes 0) (map (λ _. 8) (lines_at bytes 0)) rest (end_at bytes 0)
  unfolding rest_of
  packed_reads = (
    rest_of,
    record {
      lawful = all_words (count bytes 0) 0;
      spelled = record { whole = lines_spell (count bytes 0) 0 (omega arith); long = refl };
      ends = rest_ends;
    },
  )

-- packed bytes are read in one way only

same_line : (l m : Line) (xs ys : List ℕ) → Words l → Words m → packed l ++ xs ≡ packed m ++ ys → (l ≡ m) × (xs ≡ ys)
same_line l m xs ys hl hm e =
    let split = sym (append_assoc (word l.time) (word l.marks) xs) ∙ e ∙ append_assoc (word m.time) (word m.marks) ys in
    let time = same_word l.time m.time _ _ hl.time hm.time split in
    let marks = same_word l.marks m.marks xs ys hl.marks hm.marks time.1 in
    ((λ i. record { time = time.0 i; marks = marks.0 i }), marks.1)

same_lines : (ls ms : List Line) (r s : List ℕ) → AllByRecursion Words ls → AllByRecursion Words ms → length r < 8 → length s < 8 → flat_map packed ls ++ r ≡ flat_map packed ms ++ s → ls ≡ ms
same_lines [] [] r s hl hm hr hs e = refl
same_lines [] (m ∷ ms) r s hl hm hr hs e = absurd (omega (arith, ap length e))
same_lines (l ∷ ls) [] r s hl hm hr hs e = absurd (omega (arith, ap length e))
same_lines (l ∷ ls) (m ∷ ms) r s hl hm hr hs e =
    let first = same_line l m (flat_map packed ls ++ r) (flat_map packed ms ++ s) hl.0 hm.0 (sym (append_assoc (packed l) (flat_map packed ls) r) ∙ e ∙ append_assoc (packed m) (flat_map packed ms) s) in
    λ i. first.0 i ∷ same_lines ls ms r s hl.1 hm.1 hr hs first.1 i

small_rest : (start : ℕ) (rest : List ℕ) (e : Ending) → PackedEnds start rest e → length rest < 8
small_rest start rest Clean h = omega (arith, ap length h)
small_rest start rest (Faulty f) h = h.1

same_end : (start : ℕ) (rest : List ℕ) (d e : Ending) → PackedEnds start rest d → PackedEnds start rest e → d ≡ e
same_end start rest Clean Clean p q = refl
same_end start rest Clean (Faulty f) p q = absurd (omega (arith, q.0, ap length p))
same_end start rest (Faulty f) Clean p q = absurd (omega (arith, p.0, ap length q))
same_end start rest (Faulty f) (Faulty g) p q = ap Faulty (p.2 ∙ sym q.2)

pub packed_once : (bytes : List ℕ) → OneReading (PackedReads bytes)
packed_once bytes ls ms is js r s d e p q =
    let same = same_lines ls ms r s p.lawful q.lawful (small_rest _ r d p.ends) (small_rest _ s e q.ends) (p.spelled.whole ∙ sym q.spelled.whole) in
    let rest = same_rest packed bytes ls ms r s same p.spelled.whole q.spelled.whole in (
      same,
      p.spelled.long ∙ ap (λ (ns : List Line). map (λ l. length (packed l)) ns) same ∙ sym q.spelled.long,
      rest,
      same_end _ s d e (subst (λ (t : List ℕ). PackedEnds (length bytes - length t) t d) rest p.ends) q.ends,
    )

-- lines that were spelled out come back
pub packed_back : (bytes : List ℕ) (fits : (k : ℕ) → get_or bytes k 0 < 256) (ls : List Line) → AllByRecursion Words ls → flat_map packed ls ≡ bytes → (lines_at bytes 0 ≡ ls) × (end_at bytes 0 ≡ Clean)
packed_back bytes fits ls h e =
    let given = packed_reads bytes fits in
    let r : PackedReads bytes ls (map (λ l. length (packed l)) ls) [] Clean = record { lawful = h; spelled = record { whole = append-nil (flat_map packed ls) ∙ e; long = refl }; ends = refl } in
    let same = packed_once bytes _ _ _ _ _ _ _ _ given.1 r in
    (same.0, same.3)
