-- One formula more on a sheet: its refusal step by step, its reach and its cells. Assumes nothing.
use Rattle.std.proofs.Common.{◌≡◌, ℕ, ◌+◌, ◌<◌, ◌≤◌, cond, ltb, List, [], ◌∷◌, ◌++◌, length, Some, None, Ok, Err, Option, sym, refl, ap, ◌∙◌, arith}
use Rattle.std.proofs.lemmas.Bool.Decides.{nat_tests}
use Rattle.std.proofs.lemmas.Bool.{cond-false, cond-true, le-ltb, lt-leb, lt-ltb}
use Rattle.sheet.specs.declared.answers.Refusal.{Refusal}
use Rattle.sheet.specs.declared.answers.Refusal.TheVariants.{Cells}
use Rattle.sheet.specs.declared.fields.Fields.{Fields}
use Rattle.sheet.specs.declared.formulas.Formula.{Formula}
use Rattle.sheet.specs.declared.limits.Limits.{Limits}
use Rattle.sheet.specs.Contents.{Added, Contents}
use Rattle.sheet.specs.Formulas.{cells_of, formula_of, reach_of, reaches, total}
use Rattle.sheet.specs.Refused.{fault, or_else, refusal, rule_refusal, unless}
use Rattle.sheet.proofs.Built.{built-push, total-push}

-- what a value that is there unless it was refused tells

pub unless_ok : {X : Type 0} (o : Option Refusal) (x y : X) → Ok y ≡ unless o x → (o ≡ None) × (y ≡ x)
unless_ok None x y e = let same : y ≡ x = cc e in (refl, same)
unless_ok (Some r) x y e = absurd (cc e)

pub unless_err : {X : Type 0} (o : Option Refusal) (x : X) (r : Refusal) → Err r ≡ unless o x → o ≡ Some r
unless_err None x r e = absurd (cc e)
unless_err (Some q) x r e = let same : r ≡ q = cc e in ap Some (sym same)

-- what that says of an item that is added

pub added_so : (o : Option Refusal) (before with after : Contents) → o ≡ None → after ≡ with → Added o (Ok tt) before with after
added_so None before with after e is = (refl, is)
added_so (Some r) before with after e is = absurd (cc e)

pub added_not : (o : Option Refusal) (r : Refusal) (before with : Contents) → o ≡ Some r → Added o (Err r) before with before
added_not None r before with e = absurd (cc e)
added_not (Some q) r before with e = let same : q ≡ r = cc e in (ap Err (sym same), refl)

-- where there is room, what is wrong with fields by themselves comes first, and then what they cost

module _ (limits : Limits) (c : Contents) (f : Fields) (n : ℕ) (is : n ≡ length c.formulas) (room : n < limits.formulas) where
  dear : Formula → Option Refusal
  dear g = cond (ltb limits.cells (total c.formulas + cells_of g)) (Some Cells) None

  has_room : refusal limits c f ≡ or_else (fault n f) (dear (formula_of f))
  unfolding dear
  has_room = cond-false _ _ _ (lt-leb limits.formulas _ (omega arith)) ∙ ap (λ (m : ℕ). or_else (fault m f) (dear (formula_of f))) (sym is)

  pub faulty : (r : Refusal) → Err r ≡ unless (fault n f) (formula_of f) → Err r ≡ unless (refusal limits c f) (formula_of f)
  faulty r e =
      let told = unless_err (fault n f) (formula_of f) r e in
      ap (λ (o : Option Refusal). unless (or_else o (dear (formula_of f))) (formula_of f)) (sym told) ∙ ap (λ (o : Option Refusal). unless o (formula_of f)) (sym has_room)

  module _ (g : Formula) (e : Ok g ≡ unless (fault n f) (formula_of f)) where
    by_cells : unless (refusal limits c f) (formula_of f) ≡ unless (dear g) g
    by_cells =
        let told = unless_ok (fault n f) (formula_of f) g e in
        ap (λ (o : Option Refusal). unless o (formula_of f)) (has_room ∙ ap (λ (o : Option Refusal). or_else o (dear (formula_of f))) told.0)
        ∙ ap (λ (h : Formula). unless (dear h) h) (sym told.1)

    pub too_dear : limits.cells < total c.formulas + cells_of g → Err Cells ≡ unless (refusal limits c f) (formula_of f)
    unfolding dear
    too_dear h = sym (by_cells ∙ ap (λ (o : Option Refusal). unless o g) (cond-true _ _ _ (lt-ltb limits.cells _ h)))

    pub taken_so : total c.formulas + cells_of g ≤ limits.cells → Ok g ≡ unless (refusal limits c f) (formula_of f)
    unfolding dear
    taken_so h = sym (by_cells ∙ ap (λ (o : Option Refusal). unless o g) (cond-false _ _ _ (le-ltb limits.cells _ h)))

pub told_none : (limits : Limits) (c : Contents) (f : Fields) → length c.formulas < limits.formulas → None ≡ fault (length c.formulas) f → total c.formulas + cells_of (formula_of f) ≤ limits.cells → None ≡ refusal limits c f
told_none limits c f room none cells =
    let g = formula_of f in
    let e : Ok g ≡ unless (fault (length c.formulas) f) g = ap (λ (o : Option Refusal). unless o g) none in
    sym (unless_ok (refusal limits c f) g g (taken_so limits c f (length c.formulas) refl room g e cells)).0

pub told_no_rule : (limits : Limits) (c : Contents) (n : ℕ) → length c.rules < limits.rules → n < length c.formulas → rule_refusal limits c n ≡ None
told_no_rule limits c n room there = grind (arith, nat_tests)

pub reaching-push : (rs : List (Option ℕ)) (fs : List Formula) (f : Formula) (r : Option ℕ) → rs ≡ reaches fs → r ≡ reach_of (reaches fs) f → rs ++ r ∷ [] ≡ reaches (fs ++ f ∷ [])
reaching-push rs fs f r e is = (λ i. e i ++ is i ∷ []) ∙ sym (built-push reach_of fs f)

pub costing-push : (cells more : ℕ) (fs : List Formula) (f : Formula) → cells ≡ total fs → more ≡ cells_of f → cells + more ≡ total (fs ++ f ∷ [])
costing-push cells more fs f e is = (λ i. e i + is i) ∙ sym (total-push fs f)
