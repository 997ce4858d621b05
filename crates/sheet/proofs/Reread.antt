-- The bytes of a sheet are read as that sheet. Assumes nothing.
use Rattle.std.proofs.Common.{◌≡◌, ℕ, suc, ◌+◌, ◌-◌, ◌*◌, ◌/◌, ◌%◌, ◌<◌, ◌≤◌, true, not, List, [], ◌∷◌, ◌++◌, map, length, get_or, take, drop, Some, None, Ok, Result, sym, refl, ap, ◌∙◌, subst, append_assoc, append-nil, add-zero, arith, length-append}
use Rattle.std.specs.List.{flat_map}
use Rattle.std.proofs.lemmas.Bool.Decides.{nat_tests}
use Rattle.std.proofs.lemmas.List.{drop_at, get_or-append-add, take_at}
use Rattle.std.proofs.lemmas.Bool.{cond-false, eq-eqb, le-ltb, or_from}
use Rattle.sheet.specs.declared.answers.ReadRefusal.{ReadRefusal}
use Rattle.sheet.specs.declared.fields.Fields.{Fields}
use Rattle.sheet.specs.declared.formulas.Formula.{Formula}
use Rattle.sheet.specs.declared.formulas.Formula.TheVariants.{Never, Mark, Not, Or, Previous, Since, Count}
use Rattle.sheet.specs.declared.limits.Limits.{Limits}
use Rattle.sheet.specs.declared.windows.Window.{Window}
use Rattle.sheet.specs.declared.windows.Window.TheVariants.{Closed, Open}
use Rattle.sheet.specs.Bytes.{add_formulas, add_rules, bytes_of, counts, field_bytes, fields_at, fields_from, formula_bytes, reading, then_read, trailer}
use Rattle.sheet.specs.Conditions.{Conditions, lawful_at, server}
use Rattle.sheet.specs.Contents.{Contents, empty, with_formula, with_rule}
use Rattle.sheet.specs.Formulas.{cells_of, fields_of, formula_of, total}
use Rattle.sheet.specs.Refused.{fault, refusal, rule_refusal}
use Rattle.sheet.specs.Windows.{lawful_window, raw_high, raw_low, window_of}
use Rattle.sheet.proofs.Built.{total-push}
use Rattle.sheet.proofs.Grows.{told_no_rule, told_none}
use Rattle.sheet.proofs.Lawful.{LawfulFrom, lawful_all, lawful_first, lawful_later}
use Rattle.sheet.proofs.Receives.{each_on}

-- a lawful window comes back from its fields

window_back : (w : Window) → lawful_window w ≡ true → window_of (raw_low w) (raw_high w) ≡ Some w
window_back (Closed low high) h = grind (arith, nat_tests)
window_back (Open low) h = grind (arith, nat_tests)

module _ (n : ℕ) where
  faultless_back : (f : Formula) → lawful_at n f ≡ true → fault n (fields_of f) ≡ None
  faultless_back Never h = refl
  faultless_back (Mark m) h = grind (arith, nat_tests)
  faultless_back (Not a) h = grind (arith, nat_tests)
  faultless_back (Or a b) h = grind (arith, nat_tests)
  faultless_back (Previous a (Closed l u)) h = grind (arith, nat_tests)
  faultless_back (Previous a (Open l)) h = grind (arith, nat_tests)
  faultless_back (Since a b (Closed l u)) h = grind (arith, nat_tests)
  faultless_back (Since a b (Open l)) h = grind (arith, nat_tests)
  faultless_back (Count a b s (Closed l u)) h = grind (arith, nat_tests)
  faultless_back (Count a b s (Open l)) h = grind (arith, nat_tests)

  formula_back : (f : Formula) → lawful_at n f ≡ true → formula_of (fields_of f) ≡ f
  formula_back Never h = refl
  formula_back (Mark m) h = refl
  formula_back (Not a) h = refl
  formula_back (Or a b) h = refl
  formula_back (Previous a w) h = grind (arith, nat_tests, window_back w)
  formula_back (Since a b w) h = grind (arith, nat_tests, window_back w)
  formula_back (Count a b s w) h = grind (arith, nat_tests, window_back w)

-- the formulas of a sheet are taken again, one after another

take_formulas : (limits : Limits) (fs : List Formula) (p : ℕ) (done : List Formula) → LawfulFrom (length done) fs → length done + length fs ≤ limits.formulas → total done + total fs ≤ limits.cells → add_formulas limits p (record { formulas = done; rules = [] }) (map fields_of fs) ≡ Ok (record { formulas = done ++ fs; rules = [] })
unfolding add_formulas
take_formulas limits [] p done lawful room cells = ap (λ (gs : List Formula). Ok (record { formulas = gs; rules = [] })) (sym (append-nil done))
take_formulas limits (f ∷ fs) p done lawful room cells =
    let c : Contents = record { formulas = done; rules = [] } in
    let first = lawful_first (length done) f fs lawful in
    let back = formula_back (length done) f first in
    let free = sym (told_none limits c (fields_of f) (omega arith) (sym (faultless_back (length done) f first)) (subst (λ (g : Formula). total done + cells_of g ≤ limits.cells) (sym back) (omega arith))) in
    let long = length-append done (f ∷ []) in
    each_on (refusal limits) (λ d g. with_formula d (formula_of g)) p c (fields_of f) (map fields_of fs) free
    ∙ ap (λ (g : Formula). add_formulas limits (suc p) (with_formula c g) (map fields_of fs)) back
    ∙ take_formulas limits fs (suc p) (done ++ f ∷ [])
    (lawful_later (length done) f fs lawful (length (done ++ f ∷ [])) (omega (arith, long)))
    (omega (arith, long))
    (omega (arith, total-push done f))
    ∙ ap (λ (gs : List Formula). Ok (record { formulas = gs; rules = [] })) (append_assoc done (f ∷ []) fs)

take_rules : (limits : Limits) (fs : List Formula) (ns : List ℕ) (p : ℕ) (done : List ℕ) → ((i : ℕ) → i < length ns → get_or ns i 0 < length fs) → length done + length ns ≤ limits.rules → add_rules limits p (record { formulas = fs; rules = done }) ns ≡ Ok (record { formulas = fs; rules = done ++ ns })
unfolding add_rules
take_rules limits fs [] p done named room = ap (λ (rs : List ℕ). Ok (record { formulas = fs; rules = rs })) (sym (append-nil done))
take_rules limits fs (n ∷ ns) p done named room =
    let c : Contents = record { formulas = fs; rules = done } in
    let long = length-append done (n ∷ []) in
    each_on (rule_refusal limits) with_rule p c n ns (told_no_rule limits c n (omega arith) (named 0 (omega arith)))
    ∙ take_rules limits fs ns (suc p) (done ++ n ∷ []) (λ i lt. named (suc i) (omega arith)) (omega (arith, long))
    ∙ ap (λ (rs : List ℕ). Ok (record { formulas = fs; rules = rs })) (append_assoc done (n ∷ []) ns)

-- the fields in the bytes of formulas

pair_value : (n : ℕ) → n < 65536 → (n / 256 % 256) * 256 + n % 256 ≡ n
pair_value n h = omega arith

record Narrow (f : Fields) : Type 0 where
  low : f.low < 65536
  high : f.high < 65536

narrow : (n : ℕ) (f : Formula) → lawful_at n f ≡ true → Narrow (fields_of f)
narrow n Never h = record { low = omega arith; high = omega arith }
narrow n (Mark m) h = record { low = omega arith; high = omega arith }
narrow n (Not a) h = record { low = omega arith; high = omega arith }
narrow n (Or a b) h = record { low = omega arith; high = omega arith }
narrow n (Previous a (Closed l u)) h = record { low = grind (arith, nat_tests); high = grind (arith, nat_tests) }
narrow n (Previous a (Open l)) h = record { low = grind (arith, nat_tests); high = omega arith }
narrow n (Since a b (Closed l u)) h = record { low = grind (arith, nat_tests); high = grind (arith, nat_tests) }
narrow n (Since a b (Open l)) h = record { low = grind (arith, nat_tests); high = omega arith }
narrow n (Count a b s (Closed l u)) h = record { low = grind (arith, nat_tests); high = grind (arith, nat_tests) }
narrow n (Count a b s (Open l)) h = record { low = grind (arith, nat_tests); high = omega arith }

fields_there : (front : List ℕ) (f : Fields) (more : List ℕ) → Narrow f → fields_at (front ++ (field_bytes f ++ more)) (length front) ≡ f
fields_there front f more h =
    let ys = field_bytes f ++ more in
    let at : (k : ℕ) → get_or (front ++ ys) (length front + k) 0 ≡ get_or ys k 0 = λ k. get_or-append-add front ys k 0 in
    let first : get_or (front ++ ys) (length front) 0 ≡ f.kind = ap (λ (k : ℕ). get_or (front ++ ys) k 0) (sym (add-zero (length front))) ∙ at 0 in
    λ i. record {
      kind = first i;
      a = at 1 i;
      b = at 2 i;
      scale = at 3 i;
      low = ((λ j. at 4 j * 256 + at 5 j) ∙ pair_value f.low h.low) i;
      high = ((λ j. at 6 j * 256 + at 7 j) ∙ pair_value f.high h.high) i;
    }

formulas_there : (fs : List Formula) (n : ℕ) (front more : List ℕ) (at : ℕ) → length front ≡ at → LawfulFrom n fs → fields_from (length fs) (front ++ (flat_map formula_bytes fs ++ more)) at ≡ map fields_of fs
unfolding fields_from
formulas_there [] n front more at long lawful = refl
formulas_there (f ∷ fs) n front more at long lawful =
    let first = lawful_first n f fs lawful in
    let rest = flat_map formula_bytes fs ++ more in
    let group : front ++ ((formula_bytes f ++ flat_map formula_bytes fs) ++ more) ≡ front ++ (formula_bytes f ++ rest) = ap (λ (l : List ℕ). front ++ l) (append_assoc (formula_bytes f) (flat_map formula_bytes fs) more) in
    let regroup : front ++ (formula_bytes f ++ rest) ≡ (front ++ formula_bytes f) ++ rest = sym (append_assoc front (formula_bytes f) rest) in
    let head : fields_at (front ++ ((formula_bytes f ++ flat_map formula_bytes fs) ++ more)) at ≡ fields_of f = (λ i. fields_at (group i) (sym long i)) ∙ fields_there front (fields_of f) rest (narrow n f first) in
    let tail : fields_from (length fs) (front ++ ((formula_bytes f ++ flat_map formula_bytes fs) ++ more)) (at + 8) ≡ map fields_of fs =
    ap (λ (l : List ℕ). fields_from (length fs) l (at + 8)) (group ∙ regroup)
    ∙ formulas_there fs (suc n) (front ++ formula_bytes f) more (at + 8) (omega (arith, length-append front (formula_bytes f)))
    (lawful_later n f fs lawful (suc n) (omega arith))
    in
    λ i. head i ∷ tail i

pub length-formulas : (fs : List Formula) → length (flat_map formula_bytes fs) ≡ 8 * length fs
length-formulas [] = refl
length-formulas (f ∷ fs) = omega (arith, length-append (formula_bytes f) (flat_map formula_bytes fs), length-formulas fs)

-- the trailer, and all of it

module _ (c : Contents) (few : length c.formulas ≤ 64) where
  front : List ℕ
  front = flat_map formula_bytes c.formulas ++ c.rules

  front_long : length front ≡ 8 * length c.formulas + length c.rules
  unfolding front
  front_long = omega (arith, length-append (flat_map formula_bytes c.formulas) c.rules, length-formulas c.formulas)

  whole : bytes_of c ≡ front ++ trailer (length c.formulas) (length c.rules)
  unfolding front
  whole = sym (append_assoc (flat_map formula_bytes c.formulas) c.rules (trailer (length c.formulas) (length c.rules)))

  pub bytes_long : length (bytes_of c) ≡ 8 * length c.formulas + length c.rules + 4
  bytes_long = ap length whole ∙ omega (arith, length-append front (trailer (length c.formulas) (length c.rules)), front_long)

  in_trailer : (k : ℕ) → k < 4 → get_or (bytes_of c) (length (bytes_of c) - (4 - k)) 0 ≡ get_or (trailer (length c.formulas) (length c.rules)) k 0
  in_trailer k lt =
      let at : length (bytes_of c) - (4 - k) ≡ length front + k = omega (arith, bytes_long, front_long) in
      (λ i. get_or (whole i) (at i) 0) ∙ get_or-append-add front (trailer (length c.formulas) (length c.rules)) k 0

  counted : counts (bytes_of c) ≡ Ok (length c.formulas, length c.rules)
  counted =
      let n = length c.formulas in
      let m = length c.rules in
      let a = in_trailer 0 (omega arith) in
      let b = in_trailer 1 (omega arith) in
      let place : get_or (bytes_of c) (length (bytes_of c) - 2) 0 * 256 + get_or (bytes_of c) (length (bytes_of c) - 1) 0 ≡ 8 * n = (λ i. in_trailer 2 (omega arith) i * 256 + in_trailer 3 (omega arith) i) ∙ pair_value (8 * n) (omega arith) in
      let long : length (bytes_of c) ≡ 8 * get_or (bytes_of c) (length (bytes_of c) - 4) 0 + get_or (bytes_of c) (length (bytes_of c) - 3) 0 + 4 = bytes_long ∙ λ i. 8 * sym a i + sym b i + 4 in
      cond-false _ _ _ (or_from _ _ (le-ltb (length (bytes_of c)) 4 (omega (arith, bytes_long))) (ap not (eq-eqb (length (bytes_of c)) _ long)))
      ∙ cond-false _ _ _ (ap not (eq-eqb _ _ (place ∙ ap (λ (k : ℕ). 8 * k) (sym a))))
      ∙ λ i. Ok (a i, b i)

-- what was written is read as the same sheet
pub reread : (c : Contents) → Conditions server c.formulas c.rules → reading server (bytes_of c) ≡ Ok c
reread c h =
    let fs = c.formulas in
    let rs = c.rules in
    let n = length fs in
    let m = length rs in
    let bytes = bytes_of c in
    let tail = rs ++ trailer n m in
    let lawful = lawful_all fs h.lawful in
    let formulas : add_formulas server 0 empty (fields_from n bytes 0) ≡ Ok (record { formulas = fs; rules = [] }) =
    ap (add_formulas server 0 empty) (formulas_there fs 0 [] tail 0 refl lawful) ∙ take_formulas server fs 0 [] lawful (omega (arith, h.few_formulas)) (omega (arith, h.cheap))
    in
    let rules : take m (drop (8 * n) bytes) ≡ rs = ap (take m) (drop_at (flat_map formula_bytes fs) tail (8 * n) (length-formulas fs)) ∙ take_at rs (trailer n m) m refl in
    ap (λ (k : Result (ℕ × ℕ) ReadRefusal). then_read k (λ nm. then_read (add_formulas server 0 empty (fields_from nm.0 bytes 0)) (λ d. add_rules server nm.0 d (take nm.1 (drop (8 * nm.0) bytes))))) (counted c h.few_formulas)
    ∙ ap (λ (k : Result Contents ReadRefusal). then_read k (λ d. add_rules server n d (take m (drop (8 * n) bytes)))) formulas
    ∙ ap (add_rules server n (record { formulas = fs; rules = [] })) rules
    ∙ take_rules server fs rs n [] h.named (omega (arith, h.few_rules))
