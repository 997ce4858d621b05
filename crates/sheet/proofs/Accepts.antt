-- What is not refused is lawful, and its fields come back from its formula. Assumes nothing.
use Rattle.std.proofs.Common.{◌≡◌, ℕ, ◌+◌, ◌<◌, ◌≤◌, Bool, true, false, cond, ltb, leb, [], ◌∷◌, ◌++◌, length, Some, None, Option, refl, subst, ⊎_elim, arith}
use Rattle.std.proofs.lemmas.List.{length_push}
use Rattle.std.proofs.lemmas.Bool.Decides.{nat_tests}
use Rattle.std.proofs.lemmas.Bool.{cases_lt, leb-false, ltb-false}
use Rattle.sheet.specs.declared.answers.Refusal.{Refusal}
use Rattle.sheet.specs.declared.answers.Refusal.TheVariants.{Full, Kind, Cells}
use Rattle.sheet.specs.declared.fields.Fields.{Fields}
use Rattle.sheet.specs.declared.formulas.Formula.TheVariants.{Never}
use Rattle.sheet.specs.declared.limits.Limits.{Limits}
use Rattle.sheet.specs.Conditions.{Conditions, lawful_at}
use Rattle.sheet.specs.Contents.{Contents}
use Rattle.sheet.specs.Formulas.{cells_of, fields_of, formula_of, total}
use Rattle.sheet.specs.Refused.{fault, or_else, refusal, rule_refusal}
use Rattle.sheet.proofs.Built.{total-push}
use Rattle.sheet.proofs.Pushed.{each_pushed}

-- a reason that is not told does not hold

passed : (t : Bool) (r : Refusal) (o : Option Refusal) → cond t (Some r) o ≡ None → (t ≡ false) × (o ≡ None)
passed true r o e = absurd (cc e)
passed false r o e = (refl, e)

both_passed : (x y : Option Refusal) → or_else x y ≡ None → (x ≡ None) × (y ≡ None)
both_passed None y e = (refl, e)
both_passed (Some r) y e = absurd (cc e)

-- what is shown of fields with no fault
record Good (n : ℕ) (f : Fields) : Type 0 where
  lawful : lawful_at n (formula_of f) ≡ true
  back : fields_of (formula_of f) ≡ f

abbrev fields : ℕ → ℕ → ℕ → ℕ → ℕ → ℕ → Fields
fields k a b s l h = record { kind = k; a = a; b = b; scale = s; low = l; high = h }

module _ (n a b s l h : ℕ) where
  good_never : fault n (fields 0 a b s l h) ≡ None → Good n (fields 0 a b s l h)
  good_never e = record { lawful = refl; back = grind (arith, nat_tests) }

  good_mark : fault n (fields 1 a b s l h) ≡ None → Good n (fields 1 a b s l h)
  good_mark e = record { lawful = grind (arith, nat_tests); back = grind (arith, nat_tests) }

  good_not : fault n (fields 2 a b s l h) ≡ None → Good n (fields 2 a b s l h)
  good_not e = record { lawful = grind (arith, nat_tests); back = grind (arith, nat_tests) }

  good_or : fault n (fields 3 a b s l h) ≡ None → Good n (fields 3 a b s l h)
  good_or e = record { lawful = grind (arith, nat_tests); back = grind (arith, nat_tests) }

  good_previous : fault n (fields 4 a b s l h) ≡ None → Good n (fields 4 a b s l h)
  good_previous e = record { lawful = grind (arith, nat_tests); back = grind (arith, nat_tests) }

  good_since : fault n (fields 5 a b s l h) ≡ None → Good n (fields 5 a b s l h)
  good_since e = record { lawful = grind (arith, nat_tests); back = grind (arith, nat_tests) }

  good_count : fault n (fields 6 a b s l h) ≡ None → Good n (fields 6 a b s l h)
  good_count e = record { lawful = grind (arith, nat_tests); back = grind (arith, nat_tests) }

by_kind : (P : ℕ → Type 0) → P 0 → P 1 → P 2 → P 3 → P 4 → P 5 → P 6 → (k : ℕ) → k ≤ 6 → P k
by_kind P p0 p1 p2 p3 p4 p5 p6 k h =
    ⊎_elim (λ lt. subst P (omega arith) p0) (λ ge1.
    ⊎_elim (λ lt. subst P (omega arith) p1) (λ ge2.
    ⊎_elim (λ lt. subst P (omega arith) p2) (λ ge3.
    ⊎_elim (λ lt. subst P (omega arith) p3) (λ ge4.
    ⊎_elim (λ lt. subst P (omega arith) p4) (λ ge5.
    ⊎_elim (λ lt. subst P (omega arith) p5) (λ ge6. subst P (omega arith) p6)
    (cases_lt k 6)) (cases_lt k 5)) (cases_lt k 4)) (cases_lt k 3)) (cases_lt k 2)) (cases_lt k 1)

good : (n : ℕ) (f : Fields) → fault n f ≡ None → Good n f
good n f e =
    let a = f.a in let b = f.b in let s = f.scale in let l = f.low in let u = f.high in
    let kind = ltb-false 6 f.kind (passed (ltb 6 f.kind) Kind _ e).0 in
    by_kind (λ k. fault n (fields k a b s l u) ≡ None → Good n (fields k a b s l u))
    (good_never n a b s l u) (good_mark n a b s l u) (good_not n a b s l u) (good_or n a b s l u) (good_previous n a b s l u) (good_since n a b s l u) (good_count n a b s l u)
    f.kind kind e

pub fields_back : (n : ℕ) (f : Fields) → fault n f ≡ None → fields_of (formula_of f) ≡ f
fields_back n f e = (good n f e).back

-- what is taken

pub record Taken (limits : Limits) (c : Contents) (f : Fields) : Type 0 where
  pub room : length c.formulas < limits.formulas
  pub faultless_there : fault (length c.formulas) f ≡ None
  pub cells : total c.formulas + cells_of (formula_of f) ≤ limits.cells

pub taken : (limits : Limits) (c : Contents) (f : Fields) → refusal limits c f ≡ None → Taken limits c f
taken limits c f e =
    let n = length c.formulas in
    let room = passed (leb limits.formulas n) Full _ e in
    let rest = both_passed (fault n f) _ room.1 in
    let cells = passed (ltb limits.cells (total c.formulas + cells_of (formula_of f))) Cells None rest.1 in
    record {
      room = leb-false limits.formulas n room.0;
      faultless_there = rest.0;
      cells = ltb-false limits.cells _ cells.0;
    }

pub rule_taken : (limits : Limits) (c : Contents) (n : ℕ) → rule_refusal limits c n ≡ None → (length c.rules < limits.rules) × (n < length c.formulas)
rule_taken limits c n e = (grind (arith, nat_tests), grind (arith, nat_tests))

-- the conditions go on to hold

module _ (limits : Limits) (c : Contents) (holds : Conditions limits c.formulas c.rules) where
  pub with_formula_lem : (f : Fields) → refusal limits c f ≡ None → Conditions limits (c.formulas ++ formula_of f ∷ []) c.rules
  with_formula_lem f e =
      let fs = c.formulas in
      let g = formula_of f in
      let t = taken limits c f e in
      let long = length_push fs g in
      record {
        few_formulas = omega (arith, long, t.room);
        few_rules = holds.few_rules;
        cheap = omega (arith, total-push fs g, t.cells);
        lawful = each_pushed (λ i x. lawful_at i x ≡ true) fs g Never holds.lawful (good (length fs) f t.faultless_there).lawful;
        named = λ i h. omega (arith, long, holds.named i h);
      }

  pub with_rule_lem : (n : ℕ) → rule_refusal limits c n ≡ None → Conditions limits c.formulas (c.rules ++ n ∷ [])
  with_rule_lem n e =
      let rs = c.rules in
      let t = rule_taken limits c n e in
      let long = length_push rs n in
      record {
        few_formulas = holds.few_formulas;
        few_rules = omega (arith, long, t.0);
        cheap = holds.cheap;
        lawful = holds.lawful;
        named = each_pushed (λ _ x. x < length c.formulas) rs n 0 holds.named t.1;
      }
