-- Bytes that were read are the bytes of what was read. Assumes nothing.
use Rattle.std.proofs.Common.{◌≡◌, ℕ, zero, suc, ◌+◌, ◌-◌, ◌*◌, ◌/◌, ◌%◌, ◌<◌, ◌≤◌, List, [], ◌∷◌, ◌++◌, map, length, get_or, take, drop, Some, None, Ok, Err, Option, Result, sym, refl, ap, ◌∙◌, subst, append_assoc, append-nil, arith, length-drop, take-append-drop}
use lib.ListN.{length-map}
use Rattle.std.specs.List.{flat_map, AllByRecursion}
use Rattle.std.proofs.lemmas.Bool.Decides.{nat_tests}
use Rattle.std.proofs.lemmas.List.{drop-drop, drop_more, length-take-le}
use Rattle.sheet.specs.declared.answers.ReadRefusal.{ReadRefusal}
use Rattle.sheet.specs.declared.answers.Refusal.{Refusal}
use Rattle.sheet.specs.declared.fields.Fields.{Fields}
use Rattle.sheet.specs.declared.limits.Limits.{Limits}
use Rattle.sheet.specs.Bytes.{add_each, add_formulas, add_rules, bytes_of, counts, field_bytes, fields_at, fields_from, formula_bytes, formulas_in, pair, place_in, reading, rules_in, then_read, trailer}
use Rattle.sheet.specs.Contents.{Contents, empty, with_formula, with_rule}
use Rattle.sheet.specs.Formulas.{fields_of, formula_of}
use Rattle.sheet.specs.Refused.{refusal, rule_refusal}
use Rattle.sheet.proofs.Accepts.{fields_back, taken}
use Rattle.sheet.proofs.Receives.{each_on, each_stops}

no_err : {X : Type 0} (e : ReadRefusal) (x : X) → Err e ≡ Ok x → ⊥
no_err e x h = cc h

-- the formulas and rules that were added

record Brings (c : Contents) (fs : List Fields) (d : Contents) : Type 0 where
  formulas : d.formulas ≡ c.formulas ++ map formula_of fs
  rules : d.rules ≡ c.rules
  back : AllByRecursion (λ f. fields_of (formula_of f) ≡ f) fs

-- what holds of adding nothing, and of adding an item more, holds of what was added
module _ {X : Type 0} (refuses : Contents → X → Option Refusal) (with : Contents → X → Contents) (d : Contents) (P : Contents → List X → Type 0) (none : P d []) (more : (c : Contents) (x : X) (xs : List X) → refuses c x ≡ None → P (with c x) xs → P c (x ∷ xs)) where
  each_added : (xs : List X) (p : ℕ) (c : Contents) → add_each refuses with p c xs ≡ Ok d → P c xs
  each_added [] p c e = let same : d ≡ c = cc e in subst (λ (b : Contents). P b []) same none
  each_added (x ∷ xs) p c e = go (each_added xs (suc p) (with c x)) (refuses c x) refl
    where
      go : (add_each refuses with (suc p) (with c x) xs ≡ Ok d → P (with c x) xs) → (o : Option Refusal) → refuses c x ≡ o → P c (x ∷ xs)
      go rest None is = more c x xs is (rest (sym (each_on refuses with p c x xs is) ∙ e))
      go rest (Some r) is = absurd (no_err _ d (sym (each_stops refuses with p c x xs r is) ∙ e))

brings : (limits : Limits) (fs : List Fields) (p : ℕ) (c d : Contents) → add_formulas limits p c fs ≡ Ok d → Brings c fs d
unfolding add_formulas
brings limits fs p c d =
    each_added (refusal limits) (λ b f. with_formula b (formula_of f)) d (λ b gs. Brings b gs d)
    (record { formulas = sym (append-nil d.formulas); rules = refl; back = tt })
    (λ b f gs is rest. record {
      formulas = rest.formulas ∙ append_assoc b.formulas (formula_of f ∷ []) (map formula_of gs);
      rules = rest.rules;
      back = (fields_back (length b.formulas) f (taken limits b f is).faultless_there, rest.back);
    })
    fs p c

brings_rules : (limits : Limits) (ns : List ℕ) (p : ℕ) (c d : Contents) → add_rules limits p c ns ≡ Ok d → (d.formulas ≡ c.formulas) × (d.rules ≡ c.rules ++ ns)
unfolding add_rules
brings_rules limits ns p c d =
    each_added (rule_refusal limits) with_rule d (λ b ms. (d.formulas ≡ b.formulas) × (d.rules ≡ b.rules ++ ms))
    (refl, sym (append-nil d.rules))
    (λ b n ms is rest. (rest.0, rest.1 ∙ append_assoc b.rules (n ∷ []) ms))
    ns p c

same_bytes : (fs : List Fields) → AllByRecursion (λ f. fields_of (formula_of f) ≡ f) fs → flat_map formula_bytes (map formula_of fs) ≡ flat_map field_bytes fs
same_bytes [] h = refl
same_bytes (f ∷ fs) h = λ i. field_bytes (h.0 i) ++ same_bytes fs h.1 i

-- the numbers of the trailer

pub record Sized (bs : List ℕ) (n m : ℕ) : Type 0 where
  formulas : formulas_in bs ≡ n
  rules : rules_in bs ≡ m
  pub long : length bs ≡ 8 * n + m + 4
  place : place_in bs ≡ 8 * n

pub sized : (bs : List ℕ) (n m : ℕ) → counts bs ≡ Ok (n, m) → Sized bs n m
sized bs n m e =
    let formulas : formulas_in bs ≡ n = grind (arith, nat_tests) in
    let rules : rules_in bs ≡ m = grind (arith, nat_tests) in
    record { formulas = formulas; rules = rules; long = grind (arith, nat_tests); place = grind (arith, nat_tests) }

-- bytes, taken eight at a time

pair_bytes : (h l n : ℕ) → h < 256 → l < 256 → h * 256 + l ≡ n → pair n ≡ h ∷ l ∷ []
pair_bytes h l n hh hl e =
    let a : n / 256 % 256 ≡ h = omega arith in
    let b : n % 256 ≡ l = omega arith in
    λ i. a i ∷ b i ∷ []

module _ (bs : List ℕ) (fits : (k : ℕ) → get_or bs k 0 < 256) where
  -- one byte more of what is left
  step : (at k : ℕ) → at + k < length bs → (next : ℕ) → at + k + 1 ≡ next → drop (at + k) bs ≡ get_or bs (at + k) 0 ∷ drop next bs
  step at k lt next e = drop_more bs (at + k) 0 lt ∙ ap (λ (j : ℕ). get_or bs (at + k) 0 ∷ drop j bs) e

  eight : (at : ℕ) → at + 8 ≤ length bs → drop at bs ≡ field_bytes (fields_at bs at) ++ drop (at + 8) bs
  eight at h =
      let b : ℕ → ℕ = λ k. get_or bs (at + k) 0 in
      let low = pair_bytes (b 4) (b 5) (b 4 * 256 + b 5) (fits (at + 4)) (fits (at + 5)) refl in
      let high = pair_bytes (b 6) (b 7) (b 6 * 256 + b 7) (fits (at + 6)) (fits (at + 7)) refl in
      drop_more bs at 0 (omega arith)
      ∙ ap (λ (l : List ℕ). get_or bs at 0 ∷ l) (step at 1 (omega arith) (at + 2) (omega arith)
      ∙ ap (λ (l : List ℕ). b 1 ∷ l) (step at 2 (omega arith) (at + 3) (omega arith)
      ∙ ap (λ (l : List ℕ). b 2 ∷ l) (step at 3 (omega arith) (at + 4) (omega arith)
      ∙ ap (λ (l : List ℕ). b 3 ∷ l) (step at 4 (omega arith) (at + 5) (omega arith)
      ∙ ap (λ (l : List ℕ). b 4 ∷ l) (step at 5 (omega arith) (at + 6) (omega arith)
      ∙ ap (λ (l : List ℕ). b 5 ∷ l) (step at 6 (omega arith) (at + 7) (omega arith)
      ∙ ap (λ (l : List ℕ). b 6 ∷ l) (step at 7 (omega arith) (at + 8) (omega arith))))))))
      ∙ (λ i. get_or bs at 0 ∷ b 1 ∷ b 2 ∷ b 3 ∷ ((sym low i ++ sym high i) ++ drop (at + 8) bs))

  formulas_spell : (n at : ℕ) → at + 8 * n ≤ length bs → flat_map field_bytes (fields_from n bs at) ++ drop (at + 8 * n) bs ≡ drop at bs
  unfolding fields_from
  formulas_spell zero at h = let e : at + 8 * 0 ≡ at = omega arith in ap (λ (k : ℕ). drop k bs) e
  formulas_spell (suc n) at h =
      let e : at + 8 * suc n ≡ at + 8 + 8 * n = omega arith in
      append_assoc (field_bytes (fields_at bs at)) (flat_map field_bytes (fields_from n bs (at + 8))) _
      ∙ ap (λ (k : ℕ). field_bytes (fields_at bs at) ++ (flat_map field_bytes (fields_from n bs (at + 8)) ++ drop k bs)) e
      ∙ ap (λ (l : List ℕ). field_bytes (fields_at bs at) ++ l) (formulas_spell n (at + 8) (omega arith))
      ∙ sym (eight at (omega arith))

  last_four : (n m : ℕ) → Sized bs n m → drop (8 * n + m) bs ≡ trailer n m
  last_four n m s =
      let at = 8 * n + m in
      let b : ℕ → ℕ = λ k. get_or bs (at + k) 0 in
      let e0 : at ≡ length bs - 4 = omega (arith, s.long) in
      let e1 : at + 1 ≡ length bs - 3 = omega (arith, s.long) in
      let e2 : at + 2 ≡ length bs - 2 = omega (arith, s.long) in
      let e3 : at + 3 ≡ length bs - 1 = omega (arith, s.long) in
      let place : b 2 * 256 + b 3 ≡ 8 * n = (λ i. get_or bs (e2 i) 0 * 256 + get_or bs (e3 i) 0) ∙ s.place in
      drop_more bs at 0 (omega (arith, s.long))
      ∙ ap (λ (l : List ℕ). get_or bs at 0 ∷ l) (step at 1 (omega (arith, s.long)) (at + 2) (omega arith)
      ∙ ap (λ (l : List ℕ). b 1 ∷ l) (step at 2 (omega (arith, s.long)) (at + 3) (omega arith)
      ∙ ap (λ (l : List ℕ). b 2 ∷ l) (step at 3 (omega (arith, s.long)) (at + 4) (omega arith)
      ∙ ap (λ (l : List ℕ). b 3 ∷ l) (Rattle.std.proofs.lemmas.List.drop_all (at + 4) bs (omega (arith, s.long))))))
      ∙ (λ i. (ap (λ (k : ℕ). get_or bs k 0) e0 ∙ s.formulas) i ∷ (ap (λ (k : ℕ). get_or bs k 0) e1 ∙ s.rules) i ∷ sym (pair_bytes (b 2) (b 3) (8 * n) (fits (at + 2)) (fits (at + 3)) place) i)

  length-fields_from : (n at : ℕ) → length (fields_from n bs at) ≡ n
  unfolding fields_from
  length-fields_from zero at = refl
  length-fields_from (suc n) at = ap suc (length-fields_from n (at + 8))

  module _ (limits : Limits) (c : Contents) where
    joined_up : (n m : ℕ) → Sized bs n m → (d : Contents) → Brings empty (fields_from n bs 0) d → (c.formulas ≡ d.formulas) × (c.rules ≡ d.rules ++ take m (drop (8 * n) bs)) → bytes_of c ≡ bs
    joined_up n m s d b r =
        let fs = fields_from n bs 0 in
        let rs = take m (drop (8 * n) bs) in
        let F : c.formulas ≡ map formula_of fs = r.0 ∙ b.formulas in
        let R : c.rules ≡ rs = r.1 ∙ ap (λ (l : List ℕ). l ++ rs) b.rules in
        let nF : length (map formula_of fs) ≡ n = length-map fs formula_of ∙ length-fields_from n 0 in
        let nR : length rs ≡ m = length-take-le m (drop (8 * n) bs) (omega (arith, length-drop (8 * n) bs, s.long)) in
        let tail : rs ++ trailer n m ≡ drop (8 * n) bs =
        ap (λ (l : List ℕ). rs ++ l) (sym (last_four n m s) ∙ sym (drop-drop m (8 * n) bs)) ∙ take-append-drop m (drop (8 * n) bs)
        in
        let start : 8 * n ≡ 0 + 8 * n = omega arith in
        (λ i. flat_map formula_bytes (F i) ++ (R i ++ trailer (length (F i)) (length (R i))))
        ∙ (λ i. same_bytes fs b.back i ++ (rs ++ trailer (nF i) (nR i)))
        ∙ ap (λ (l : List ℕ). flat_map field_bytes fs ++ l) (tail ∙ ap (λ (k : ℕ). drop k bs) start)
        ∙ formulas_spell n 0 (omega (arith, s.long))

    by_formulas : (n m : ℕ) → Sized bs n m → (r : Result Contents ReadRefusal) → add_formulas limits 0 empty (fields_from n bs 0) ≡ r → then_read r (λ d. add_rules limits n d (take m (drop (8 * n) bs))) ≡ Ok c → bytes_of c ≡ bs
    by_formulas n m s (Ok d) is e = joined_up n m s d (brings limits (fields_from n bs 0) 0 empty d is) (brings_rules limits (take m (drop (8 * n) bs)) n d c e)
    by_formulas n m s (Err x) is e = absurd (no_err x c e)

    by_counts : (k : Result (ℕ × ℕ) ReadRefusal) → counts bs ≡ k → then_read k (λ nm. then_read (add_formulas limits 0 empty (fields_from nm.0 bs 0)) (λ d. add_rules limits nm.0 d (take nm.1 (drop (8 * nm.0) bs)))) ≡ Ok c → bytes_of c ≡ bs
    by_counts (Ok nm) is e = by_formulas nm.0 nm.1 (sized bs nm.0 nm.1 is) (add_formulas limits 0 empty (fields_from nm.0 bs 0)) refl e
    by_counts (Err x) is e = absurd (no_err x c e)

    pub rewritten : reading limits bs ≡ Ok c → bytes_of c ≡ bs
    rewritten e = by_counts (counts bs) refl e
