-- Writing a sheet, piece by piece. Assumes nothing.
use Rattle.std.proofs.Common.{◌≡◌, ℕ, ◌+◌, ◌*◌, ◌<◌, ◌≤◌, List, [], ◌++◌, length, get_or, take, drop, Ok, Err, sym, refl, ap, ◌∙◌, append_assoc, arith, length-append}
use Rattle.std.specs.List.{flat_map}
use Rattle.std.proofs.lemmas.List.{drop_at, drop-drop, flat_map_more, take_at, take_more, length-take-le}
use Rattle.std.proofs.lemmas.Bool.{le-leb, lt-leb}
use Rattle.sheet.specs.declared.answers.WriteRefusal.TheVariants.{Short}
use Rattle.sheet.specs.declared.formulas.Formula.{Formula}
use Rattle.sheet.specs.declared.formulas.Formula.TheVariants.{Never}
use Rattle.sheet.specs.Bytes.{bytes_of, formula_bytes, trailer, Written}
use Rattle.sheet.specs.Contents.{Contents}
use Rattle.sheet.proofs.Reread.{bytes_long, length-formulas}

-- a piece put at a place
abbrev pub put_at : List ℕ → ℕ → List ℕ → List ℕ
put_at out n piece = take n out ++ (piece ++ drop (n + length piece) out)

-- behind what is written, the buffer is as it was; and so it is behind the next piece
pub put_next : (done piece before : List ℕ) (n : ℕ) → length done ≡ n → put_at (done ++ drop n before) n piece ≡ (done ++ piece) ++ drop (n + length piece) before
put_next done piece before n long =
    let out = done ++ drop n before in
    let rest : drop (n + length piece) out ≡ drop (n + length piece) before =
    sym (drop-drop (length piece) n out) ∙ ap (drop (length piece)) (drop_at done (drop n before) n long) ∙ drop-drop (length piece) n before
    in
    (λ i. take_at done (drop n before) n long i ++ (piece ++ rest i)) ∙ sym (append_assoc done piece (drop (n + length piece) before))

-- formulas so far
abbrev pub Sofar : List Formula → List ℕ → ℕ → List ℕ → Type 0
Sofar fs before i out = out ≡ flat_map formula_bytes (take i fs) ++ drop (8 * i) before

pub one_formula : (fs : List Formula) (before : List ℕ) (i : ℕ) (out piece after : List ℕ) → Sofar fs before i out → i < length fs → piece ≡ formula_bytes (get_or fs i Never) → after ≡ put_at out (8 * i) piece → Sofar fs before (i + 1) after
one_formula fs before i out piece after inv lt is wrote =
    let done = flat_map formula_bytes (take i fs) in
    let long : length done ≡ 8 * i = length-formulas (take i fs) ∙ ap (λ (k : ℕ). 8 * k) (length-take-le i fs (omega arith)) in
    let size : 8 * i + length piece ≡ 8 * (i + 1) = omega (arith, ap length is) in
    let more : done ++ piece ≡ flat_map formula_bytes (take (i + 1) fs) = ap (λ (l : List ℕ). done ++ l) is ∙ flat_map_more formula_bytes [] (take i fs) (get_or fs i Never) ∙ ap (flat_map formula_bytes) (sym (take_more fs i Never lt)) in
    wrote ∙ ap (λ (l : List ℕ). put_at l (8 * i) piece) inv ∙ put_next done piece before (8 * i) long ∙ λ j. more j ++ drop (size j) before

-- as a contract says it

module _ (c : Contents) (few : length c.formulas ≤ 64) (n m : ℕ) (isN : n ≡ length c.formulas) (isM : m ≡ length c.rules) (before : List ℕ) where
  long : length (bytes_of c) ≡ 8 * n + m + 4
  long = bytes_long c few ∙ omega arith

  pub too_short : length before < 8 * n + m + 4 → Written (bytes_of c) before (Err Short) before
  too_short h = let no = lt-leb (length (bytes_of c)) (length before) (omega (arith, long)) in rw no (refl, refl)

  -- the formulas, the rules, the trailer
  pub fits_in : 8 * n + m + 4 ≤ length before → (one two three rules ends : List ℕ) → rules ≡ c.rules → ends ≡ trailer n m → one ≡ flat_map formula_bytes c.formulas ++ drop (8 * length c.formulas) before → two ≡ put_at one (8 * n) rules → three ≡ put_at two (8 * n + m) ends → Written (bytes_of c) before (Ok (8 * n + m + 4)) three
  fits_in h one two three rules ends isRules isEnds first second third =
      let fs = flat_map formula_bytes c.formulas in
      let fs_long : length fs ≡ 8 * n = omega (arith, length-formulas c.formulas) in
      let rules_long : length rules ≡ m = omega (arith, ap length isRules) in
      let ends_long : length ends ≡ 4 = ap length isEnds in
      let a : one ≡ fs ++ drop (8 * n) before = first ∙ ap (λ (k : ℕ). fs ++ drop (8 * k) before) (sym isN) in
      let b : two ≡ (fs ++ rules) ++ drop (8 * n + m) before =
      second ∙ ap (λ (l : List ℕ). put_at l (8 * n) rules) a ∙ put_next fs rules before (8 * n) fs_long ∙ ap (λ (k : ℕ). (fs ++ rules) ++ drop (8 * n + k) before) rules_long
      in
      let d : three ≡ ((fs ++ rules) ++ ends) ++ drop (8 * n + m + 4) before =
      third ∙ ap (λ (l : List ℕ). put_at l (8 * n + m) ends) b ∙ put_next (fs ++ rules) ends before (8 * n + m) (omega (arith, length-append fs rules)) ∙ ap (λ (k : ℕ). ((fs ++ rules) ++ ends) ++ drop (8 * n + m + k) before) ends_long
      in
      let spelt : (fs ++ rules) ++ ends ≡ bytes_of c = append_assoc fs rules ends ∙ λ i. fs ++ (isRules i ++ (isEnds ∙ λ j. trailer (isN j) (isM j)) i) in
      let yes = le-leb (length (bytes_of c)) (length before) (omega (arith, long)) in
      rw yes (ap Ok (sym long), d ∙ λ i. spelt i ++ drop (sym long i) before)
